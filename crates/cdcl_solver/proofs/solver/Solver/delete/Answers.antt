use Rattle.std.proofs.Common.{◌≡◌, List, None, Option, Some, ap, sym, subst, inr, ◌∙◌, slice_set}
use Rattle.clause_core.specs.Clause.{Clause}
use Rattle.clause_core.proofs.CallerLemmas.{sets_are_lists}
use Rattle.unit_prop.specs.Standing.{clause_at, live_of}
use Rattle.cdcl_solver.specs.Deletions.{Takes}
use Rattle.cdcl_solver.specs.Solvers.{SolverView}
use Rattle.cdcl_solver.proofs.ForgetLemmas.{ready_less, takes_at}
use Rattle.cdcl_solver.proofs.solver.Solver.delete.Goals as goal

-- one removed by its reference is taken
removed : (clauses after : List (Option Clause)) (place r : _) (found own : Clause) → clause_at clauses place ≡ Some found → place ≡ r → own ≡ found → after ≡ slice_set clauses r None → Takes (live_of clauses) own (live_of after)
removed clauses after place r found own at here same is =
    subst (λ (z : List (Option Clause)). Takes (live_of clauses) own (live_of z)) (sym is)
    (takes_at clauses r own (subst (λ n. clause_at clauses n ≡ Some own) here (at ∙ ap (λ (d : Clause). Some d) (sym same))))

pub invariant_of-self : goal.invariant_of-self
invariant_of-self c =
    let i = c.self.inside in
    ready_less i.max i.propagator c.remove.new.propagator i.order i.levels.base c.remove.new.self.base i.levels.marks.items c.remove.new.self.marks.items c.in_ok-own.own c.self.invariant
    (removed i.propagator.clauses c.remove.new.propagator.clauses c.place.result c.args.lemma.clause c.in-Some.lits.now c.in_ok-own.own c.in-Some.ensures.value c.place.ensures (sets_are_lists c.in_ok-own.own c.in-Some.lits.now c.lits-lits.ensures.clause c.in-Some.ensures.clause c.in_ok-own.ensures) c.remove.ensures.clauses) c.remove.ensures.greatest c.remove.ensures.stage

pub returns-then-branch-clause-deletes : goal.returns-then-branch-clause-deletes
returns-then-branch-clause-deletes c =
    let i = c.self.inside in
    let taken = removed i.propagator.clauses c.remove.new.propagator.clauses c.place.result c.args.lemma.clause c.in-Some.lits.now c.in_ok-own.own c.in-Some.ensures.value c.place.ensures (sets_are_lists c.in_ok-own.own c.in-Some.lits.now c.lits-lits.ensures.clause c.in-Some.ensures.clause c.in_ok-own.ensures) c.remove.ensures.clauses in
    inr (
      c.in_ok-own.own,
      subst (λ (v : SolverView). Takes v.live c.in_ok-own.own (live_of c.remove.new.propagator.clauses)) c.self.view_is taken,
      c.in_ok-delete.ensures.yes c.if-branch.true,
    )
