use Rattle.std.proofs.Common.{◌≡◌, ◌<◌, ◌+◌, ◌-◌, ◌++◌, ◌∷◌, [], ℕ, suc, Bool, false, List, None, Some, neg_ℤ, map, length, replicate, slice_index_or, sym, ap, ap₂, subst, ◌∙◌, arith, rules, refl, w32, SFits}
use Rattle.std.proofs.lemmas.Int.{to_z-of_z}
use Rattle.std.proofs.lemmas.List.{get_or_read}
use Rattle.std.proofs.lemmas.List.Elements.{Contains-get_or}
use Rattle.clause_core.specs.Clause.{IsClauseInRange}
use Rattle.unit_prop.specs.Standing.{IsReasonOf, at}
use Rattle.unit_prop.specs.Trail.{signed_variable}
use Rattle.drup_checker.proofs.Words.{IsReached}
use Rattle.drup_checker.specs.Tightness.{IsVariableSeen, Marks}
use Rattle.drup_checker.proofs.LiveClauses.{written}
use Rattle.drup_checker.proofs.Tightening.{opposed_range, reached_assumed, reached_first, reached_forced, reached_unseen, reason_place, reason_range}
use Rattle.drup_checker.proofs.tight.explain.Goals as goal

pub mark-requires : goal.mark-requires
mark-requires c k d low =
    let s = c.args.propagator.now in
    let range = subst (λ (m : ℕ). IsClauseInRange m c.args.clause.now) (sym c.requires.max) c.requires.in_range in
    let most = opposed_range s c.args.from c.args.clause.now c.clause.result.now c.requires.sound c.requires.from range (c.requires.opposed c.clause.result.now c.clause.ensures.value) (slice_index_or c.clause.result.now k d) (Contains-get_or c.clause.result.now k d low) in
    omega (arith, most, ap length c.deref_mut.ensures.value, c.in_ok-seen.ensures.len, c.in_ok-seen.seen.ok.0, c.requires.max)

pub walk-init : goal.walk-init
walk-init c =
    let s = c.args.propagator.now in
    let v = c.in_ok-seen.seen in
    let same : c.deref_mut.result.now ≡ v.items = c.deref_mut.ensures.value in
    let many : length c.deref_mut.result.now ≡ suc s.trail.greatest = omega (arith, ap length same, c.in_ok-seen.ensures.len, v.ok.0, c.requires.max) in
    let nothing : c.deref_mut.result.now ≡ replicate (c.args.max + 1) false = same ∙ c.in_ok-seen.ensures.items_if_clones_equal (λ y h. search rules) in
    let reached = reached_first s c.requires.sound (map neg_ℤ c.args.clause.now) c.args.from (c.args.max + 1) c.deref_mut.result.now c.mark.new.seen c.args.last c.clause.result.now c.requires.from c.clause.ensures.value
    (c.requires.opposed c.clause.result.now c.clause.ensures.value) nothing many c.mark.ensures in
    let places : c.push.new.self.items ≡ c.args.last ∷ [] = c.in_ok-push.ensures.items ∙ ap₂ (λ (xs : List ℕ) (x : ℕ). xs ++ x ∷ []) c.new-places.ensures.items c.place.ensures in
    record {
      within = c.requires.from;
      reached = subst (λ (xs : List Bool). IsReached s (map neg_ℤ c.args.clause.now) xs c.push.new.self.items c.args.from) (sym (written v.len c.mark.new.seen v.items (omega (arith, v.ok.0)) (c.mark.ensures.places ∙ ap length same)))
          (subst (λ (ps : List ℕ). IsReached s (map neg_ℤ c.args.clause.now) c.mark.new.seen ps c.args.from) (sym places) reached);
    }

pub mark-requires-in-Some : goal.mark-requires-in-Some
mark-requires-in-Some c k d low =
    let s = c.args.propagator.now in
    let p : ℕ = c.walk.place - 1 in
    let same = c.trail-trail.ensures.value in
    let b : p < length s.trail.literals = omega (arith, c.walk.invariant.within, c.walk-test.true) in
    let fits : SFits w32 (at c.trail-trail.result.now p) = search rules in
    let var : c.variable_of-var.result ≡ signed_variable (at s.trail.literals p) = rw (to_z-of_z, same) at c.variable_of-var.ensures in
    let is : IsReasonOf s.trail (signed_variable (at s.trail.literals p)) (Some c.in-Some.reason) = rw (var, c.in-Some.is) at c.reason.ensures in
    let reason = reason_place s p c.in-Some.reason c.requires.sound b is in
    let most = reason_range s p c.in-Some.reason c.clause-in-Some.result.now c.requires.sound b reason c.clause-in-Some.ensures.value (slice_index_or c.clause-in-Some.result.now k d) (Contains-get_or c.clause-in-Some.result.now k d low) in
    omega (arith, most, ap length c.deref_mut-in-Some.ensures.value, c.walk.invariant.reached.size)

pub walk-preserved-in-Continue-branch-3 : goal.walk-preserved-in-Continue-branch-3
walk-preserved-in-Continue-branch-3 c =
    let s = c.args.propagator.now in
    let p : ℕ = c.walk.place - 1 in
    let opposed = map neg_ℤ c.args.clause.now in
    let v = c.walk.seen in
    let same = c.trail-trail.ensures.value in
    let b : p < length s.trail.literals = omega (arith, c.walk.invariant.within, c.walk-test.true) in
    let fits : SFits w32 (at c.trail-trail.result.now p) = search rules in
    let var : c.variable_of-var.result ≡ signed_variable (at s.trail.literals p) = rw (to_z-of_z, same) at c.variable_of-var.ensures in
    let is : IsReasonOf s.trail (signed_variable (at s.trail.literals p)) (Some c.in-Some.reason) = rw (var, c.in-Some.is) at c.reason.ensures in
    let reason = reason_place s p c.in-Some.reason c.requires.sound b is in
    let one : c.walk.place ≡ p + 1 = omega (arith, c.walk-test.true) in
    let reached = subst (IsReached s opposed v.items c.walk.places.items) one c.walk.invariant.reached in
    let room : c.variable_of-var.result < length v.items = omega (arith, var, (c.requires.sound.within p b).1, c.walk.invariant.reached.size) in
    let read = get_or_read v.items c.variable_of-var.result _ room c.index.ensures false in
    let needs : IsVariableSeen v.items (signed_variable (at s.trail.literals p)) = subst (IsVariableSeen v.items) var (sym read ∙ c.if-index.true) in
    let marks = subst (λ (xs : List Bool). Marks c.clause-in-Some.result.now xs c.mark-in-Some.new.seen) c.deref_mut-in-Some.ensures.value c.mark-in-Some.ensures in
    let places : c.push-in-Some.new.self.items ≡ c.walk.places.items ++ c.in-Some.reason ∷ [] = c.in_ok-push-2.ensures.items ∙ ap (λ (x : ℕ). c.walk.places.items ++ x ∷ []) c.place-in-Some.ensures in
    record {
      within = omega (arith, b);
      reached = subst (λ (xs : List Bool). IsReached s opposed xs c.push-in-Some.new.self.items p) (sym (written v.len c.mark-in-Some.new.seen v.items (omega (arith, v.ok.0)) marks.places))
          (subst (λ (ps : List ℕ). IsReached s opposed c.mark-in-Some.new.seen ps p) (sym places)
          (reached_forced s c.requires.sound opposed v.items c.walk.places.items p reached b c.mark-in-Some.new.seen c.in-Some.reason c.clause-in-Some.result.now needs reason c.clause-in-Some.ensures.value marks));
    }

pub walk-preserved-in_default : goal.walk-preserved-in_default
walk-preserved-in_default c =
    let s = c.args.propagator.now in
    let p : ℕ = c.walk.place - 1 in
    let opposed = map neg_ℤ c.args.clause.now in
    let same = c.trail-trail.ensures.value in
    let b : p < length s.trail.literals = omega (arith, c.walk.invariant.within, c.walk-test.true) in
    let fits : SFits w32 (at c.trail-trail.result.now p) = search rules in
    let var : c.variable_of-var.result ≡ signed_variable (at s.trail.literals p) = rw (to_z-of_z, same) at c.variable_of-var.ensures in
    let is : IsReasonOf s.trail (signed_variable (at s.trail.literals p)) None = rw (var, c.in_default.is) at c.reason.ensures in
    let one : c.walk.place ≡ p + 1 = omega (arith, c.walk-test.true) in
    let reached = subst (IsReached s opposed c.walk.seen.items c.walk.places.items) one c.walk.invariant.reached in
    record { within = omega (arith, b); reached = reached_assumed s c.requires.sound opposed c.walk.seen.items c.walk.places.items p reached b c.requires.assumed (is p b refl) }

pub walk-preserved : goal.walk-preserved
walk-preserved c =
    let s = c.args.propagator.now in
    let p : ℕ = c.walk.place - 1 in
    let opposed = map neg_ℤ c.args.clause.now in
    let v = c.walk.seen in
    let same = c.trail-trail.ensures.value in
    let b : p < length s.trail.literals = omega (arith, c.walk.invariant.within, c.walk-test.true) in
    let fits : SFits w32 (at c.trail-trail.result.now p) = search rules in
    let var : c.variable_of-var.result ≡ signed_variable (at s.trail.literals p) = rw (to_z-of_z, same) at c.variable_of-var.ensures in
    let one : c.walk.place ≡ p + 1 = omega (arith, c.walk-test.true) in
    let reached = subst (IsReached s opposed v.items c.walk.places.items) one c.walk.invariant.reached in
    let room : c.variable_of-var.result < length v.items = omega (arith, var, (c.requires.sound.within p b).1, c.walk.invariant.reached.size) in
    let read = get_or_read v.items c.variable_of-var.result _ room c.index.ensures false in
    let unseen : slice_index_or v.items (signed_variable (at s.trail.literals p)) false ≡ false = subst (λ (x : ℕ). slice_index_or v.items x false ≡ false) var (sym read ∙ c.if-index.false) in
    record { within = omega (arith, b); reached = reached_unseen s c.requires.sound opposed v.items c.walk.places.items p reached b unseen }
