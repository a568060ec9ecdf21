use Rattle.std.proofs.Common.{List, ℤ, ap, sym, subst, ◌∙◌}
use Rattle.std.specs.List.{Contains}
use Rattle.clause_core.specs.Clause.{Clause, IsClauseInRange}
use Rattle.unit_prop.specs.Trail.{IsLiteralUpTo}
use Rattle.cdcl_solver.specs.Orders.{HasVariablesOf}
use Rattle.cdcl_solver.specs.Solvers.{SolverView, with_clause}
use Rattle.cdcl_solver.proofs.Trails.{clause_within}
use Rattle.cdcl_solver.proofs.SolverLemmas.{ready_added, ready_entered, view_more}
use Rattle.cdcl_solver.proofs.solver.Solver.add.Goals as goal

pub enter-requires : goal.enter-requires
enter-requires c l has =
    let i = c.self.inside in let is = c.self.invariant in
    let range = subst (λ (v : SolverView). IsClauseInRange v.max c.args.clause.now) (sym c.self.view_is) c.requires in
    subst (λ m. IsLiteralUpTo m l) (sym is.ordered) (clause_within i.max c.args.clause.now is.small range l (subst (λ (xs : List ℤ). Contains xs l) c.lits.ensures.value has))

pub invariant_of-self : goal.invariant_of-self
invariant_of-self c =
    let i = c.self.inside in ready_entered i.max i.propagator i.order c.enter.new.self i.levels.base i.levels.marks.items c.self.invariant c.enter.ensures.grows

pub add_anew-requires-clause-within : goal.add_anew-requires-clause-within
add_anew-requires-clause-within c l has =
    let i = c.self.inside in let is = c.self.invariant in
    let range = subst (λ (v : SolverView). IsClauseInRange v.max c.args.clause.now) (sym c.self.view_is) c.requires in
    subst (λ m. IsLiteralUpTo m l) (sym is.greatest) (clause_within i.max c.args.clause.now is.small range l has)

pub invariant_of-self-in_err-add_anew : goal.invariant_of-self-in_err-add_anew
invariant_of-self-in_err-add_anew c =
    let i = c.self.inside in
    let range = subst (λ (v : SolverView). IsClauseInRange v.max c.args.clause.now) (sym c.self.view_is) c.requires in
    let ready = ready_entered i.max i.propagator i.order c.enter.new.self i.levels.base i.levels.marks.items c.self.invariant c.enter.ensures.grows in
    let has = subst (λ (xs : Clause). HasVariablesOf c.enter.new.self.vars xs) c.lits.ensures.value c.in_ok-enter.ensures.entered in
    ready_added i.max i.propagator c.add_anew.new.propagator c.enter.new.self i.levels.base c.add_anew.new.self.base i.levels.marks.items c.add_anew.new.self.marks.items c.args.clause.now c.add_anew.result ready range has c.add_anew.ensures.greatest c.add_anew.ensures.stage c.add_anew.ensures.ok c.add_anew.ensures.err

pub invariant_of-self-2 : goal.invariant_of-self-2
invariant_of-self-2 c =
    let i = c.self.inside in
    let range = subst (λ (v : SolverView). IsClauseInRange v.max c.args.clause.now) (sym c.self.view_is) c.requires in
    let ready = ready_entered i.max i.propagator i.order c.enter.new.self i.levels.base i.levels.marks.items c.self.invariant c.enter.ensures.grows in
    let has = subst (λ (xs : Clause). HasVariablesOf c.enter.new.self.vars xs) c.lits.ensures.value c.in_ok-enter.ensures.entered in
    ready_added i.max i.propagator c.add_anew.new.propagator c.enter.new.self i.levels.base c.add_anew.new.self.base i.levels.marks.items c.add_anew.new.self.marks.items c.args.clause.now c.add_anew.result ready range has c.add_anew.ensures.greatest c.add_anew.ensures.stage c.add_anew.ensures.ok c.add_anew.ensures.err

pub returns-clause-ok : goal.returns-clause-ok
returns-clause-ok c =
    let i = c.self.inside in
    view_more i.max i.propagator c.add_anew.new.propagator c.args.clause.now c.in_ok-add_anew.ensures.ok ∙ ap (λ (v : SolverView). with_clause v c.args.clause.now) c.self.view_is
