use Rattle.std.proofs.Common.{true≢false, ◌≡◌, ◌≢◌, ◌<◌, ◌≤◌, ℤ, List, None, Some, pos, neg_ℤ, nat_abs, map, length, sym, ap, subst, ◌∙◌, arith, w32}
use Rattle.std.specs.List.{Contains}
use Rattle.std.proofs.lemmas.Int.{to_z-of_z}
use Rattle.std.proofs.lemmas.List.Elements.{All-contains}
use Rattle.clause_core.proofs.CallerLemmas.{contains_map}
use Rattle.unit_prop.specs.Standing.{IsReasonOf, at}
use Rattle.unit_prop.specs.Trail.{signed_variable}
use Rattle.drup_checker.proofs.Tightening.{met_assumed, opposed_reason, reason_place}
use Rattle.drup_checker.proofs.tight.chain_to.Goals as goal

pub explain-requires-clause-opposed : goal.explain-requires-clause-opposed
explain-requires-clause-opposed c =
    let s = c.args.propagator.now in
    let fits = to_z-of_z w32 c.args.lit c.ranges.lit in
    let p = c.place_of-from.result in
    let b : p < length s.trail.literals = omega (arith, c.place_of-from.ensures.bound, ap length c.trail.ensures.value) in
    let here : at s.trail.literals p ≡ c.args.lit = subst (λ (xs : List ℤ). at xs p ≡ c.args.lit) c.trail.ensures.value (rw fits at c.place_of-from.ensures.here) in
    let var : c.variable_of.result ≡ signed_variable (at s.trail.literals p) = rw fits at c.variable_of.ensures ∙ sym (ap signed_variable here) in
    let is : IsReasonOf s.trail (signed_variable (at s.trail.literals p)) (Some c.in-Some.reason) = rw (var, c.in-Some.is) at c.reason.ensures in
    let opposed = subst (λ (l : ℤ). Contains (map neg_ℤ c.args.clause.now) (neg_ℤ l)) (sym here) (contains_map c.args.clause.now c.args.lit c.requires.has) in
    λ d live. opposed_reason s (map neg_ℤ c.args.clause.now) p c.in-Some.reason d c.requires.sound b (reason_place s p c.in-Some.reason c.requires.sound b is) live opposed

pub unreachable-requires : goal.unreachable-requires
unreachable-requires c =
    let s = c.args.propagator.now in
    let fits = to_z-of_z w32 c.args.lit c.ranges.lit in
    let var : c.variable_of.result ≡ signed_variable c.args.lit = rw fits at c.variable_of.ensures in
    let is : IsReasonOf s.trail (signed_variable c.args.lit) None = rw (var, c.in_default.is) at c.reason.ensures in
    let sign = (All-contains (λ k. (k ≢ pos 0) × (nat_abs k ≤ c.args.max)) c.args.clause.now c.args.lit c.requires.in_range c.requires.has).0 in
    let t = met_assumed s c.args.clause.now c.args.lit c.requires.sound c.requires.assumed sign c.requires.has c.requires.stands is in
    true≢false (sym (c.is_tautology.ensures.1 t) ∙ c.if-is_tautology.false)
