use Rattle.std.proofs.Common.{◌∙◌, [], ◌∷◌, SFits, neg_ℤ, ap, rules, subst, w32}
use Rattle.std.specs.Result.{IfOk}
use Rattle.std.proofs.lemmas.Int.{to_z-of_z}
use Rattle.std.proofs.Common.{IsTrue}
use Rattle.clause_core.specs.UnitPropagation.{IsRup}
use Rattle.unit_prop.specs.Standing.{live_of}
use Rattle.cdcl_solver.specs.Solvers.{SolverView}
use Rattle.cdcl_solver.proofs.ShowLemmas.{near_follows, two_pushed}
use Rattle.cdcl_solver.proofs.solver.Solver.follows_near.Goals as goal

pub returns : goal.returns
returns c =
    let first : SFits w32 c.negation.result = search rules in
    let second : SFits w32 c.negation-2.result = search rules in
    let one = to_z-of_z w32 c.negation.result first ∙ c.negation.ensures ∙ ap neg_ℤ (to_z-of_z w32 c.args.one c.ranges.one) in
    let other = to_z-of_z w32 c.negation-2.result second ∙ c.negation-2.ensures ∙ ap neg_ℤ (to_z-of_z w32 c.args.other c.ranges.other) in
    let lits = two_pushed _ _ _ _ _ (neg_ℤ c.args.one) (neg_ℤ c.args.other) c.new-lits.ensures.items c.in_ok-push.ensures.items c.in_ok-push-2.ensures.items one other in
    subst (λ (v : SolverView). IfOk c.is_refuted_near.result (λ near. IsTrue near → IsRup v.live (c.args.one ∷ c.args.other ∷ []))) c.self.view_is
    (near_follows (live_of c.self.inside.propagator.clauses) _ c.args.one c.args.other c.is_refuted_near.result lits c.is_refuted_near.ensures)
