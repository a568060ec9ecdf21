use Rattle.std.proofs.Common.{[], ◌∷◌, w32, sym, ap, ◌∙◌, subst, inr}
use Rattle.std.proofs.lemmas.Int.{to_z-of_z}
use Rattle.clause_core.specs.Clause.{Clause, IsClauseInRange, SameSet}
use Rattle.cdcl_solver.specs.Solvers.{SolverView, with_clause}
use Rattle.cdcl_solver.proofs.ShowLemmas.{range_within, two_equal, two_lemma}
use Rattle.cdcl_solver.proofs.solver.Solver.keep.Goals as goal

pub add-requires : goal.add-requires
add-requires c =
    let e = to_z-of_z w32 c.args.one c.ranges.one in
    let f = to_z-of_z w32 c.args.other c.ranges.other in
    let same = subst (λ (xs : Clause). SameSet c.in_ok-clause.clause xs) (two_equal _ _ c.args.one c.args.other e f) c.in_ok-clause.ensures in
    subst (λ (v : SolverView). IsClauseInRange v.max c.in_ok-clause.clause) (sym c.derives.ensures.same) (range_within c.args.self.now.max c.in_ok-clause.clause (c.args.one ∷ c.args.other ∷ []) same.0 c.requires.range)

pub returns-clause-kept : goal.returns-clause-kept
returns-clause-kept c =
    let e = to_z-of_z w32 c.args.one c.ranges.one in
    let f = to_z-of_z w32 c.args.other c.ranges.other in
    let same = subst (λ (xs : Clause). SameSet c.in_ok-clause.clause xs) (two_equal _ _ c.args.one c.args.other e f) c.in_ok-clause.ensures in
    let none = simp (e, f) at c.derives.ensures.none in
    let clause = c.in_ok-clause.clause in
    inr (
      clause,
      two_lemma c.args.self.now.live c.args.one c.args.other clause same c.requires.apart c.requires.follows (none c.if-derives.false),
      range_within c.args.self.now.max clause (c.args.one ∷ c.args.other ∷ []) same.0 c.requires.range,
      c.in_ok-add.ensures.ok ∙ ap (λ (v : SolverView). with_clause v clause) c.derives.ensures.same,
      c.in_ok-push.ensures.ok,
    )
