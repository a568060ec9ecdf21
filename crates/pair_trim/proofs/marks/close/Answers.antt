use Rattle.std.proofs.Common.{◌≡◌, ◌<◌, ◌≤◌, ◌+◌, ◌-◌, [], ℕ, List, length, slice_index_or, sym, subst, ◌∙◌, arith}
use Rattle.std.proofs.lemmas.List.{get_or_default}
use Rattle.clause_core.specs.KeptClauses.{AreBelow}
use Rattle.pair_trim.specs.Marking.{IsClosedFrom, SetsMarks}
use Rattle.pair_trim.proofs.Marking.{closed_set}
use Rattle.pair_trim.proofs.marks.close.Goals as goal

pub set_all-requires : goal.set_all-requires
set_all-requires c =
    let uses = c.args.uses.now in
    let p : ℕ = c.walk.place - 1 in
    let low : p < length uses = omega (arith, c.walk.invariant.within, c.walk-test.true) in
    let is : c.as_slice.result.now ≡ slice_index_or uses p [] = c.as_slice.ensures ∙ (c.index-uses-place.is ∙ get_or_default uses p c.index-uses-place.result [] low) in
    let below = c.requires.earlier p low in
    let long : p ≤ length c.walk.marks = omega (arith, c.walk.auto.marks, c.requires.long) in
    subst (AreBelow (length c.walk.marks)) (sym is) (λ k d b. let h = below k d b in let most = h.1 in (h.0, omega arith))

pub walk-preserved-then-marks-place : goal.walk-preserved-then-marks-place
walk-preserved-then-marks-place c =
    let uses = c.args.uses.now in
    let p : ℕ = c.walk.place - 1 in
    let low : p < length uses = omega (arith, c.walk.invariant.within, c.walk-test.true) in
    let one : c.walk.place ≡ p + 1 = omega (arith, c.walk-test.true) in
    let is : c.as_slice.result.now ≡ slice_index_or uses p [] = c.as_slice.ensures ∙ (c.index-uses-place.is ∙ get_or_default uses p c.index-uses-place.result [] low) in
    record {
      within = omega (arith, low);
      closed = closed_set p uses c.args.marks.now c.walk.marks (subst (λ (n : ℕ). IsClosedFrom n uses c.args.marks.now c.walk.marks) one c.walk.invariant.closed) low c.set_all.new.marks c.if-marks-place.true (c.requires.earlier p low)
          (subst (λ (ns : List ℕ). SetsMarks ns c.walk.marks c.set_all.new.marks) is c.set_all.ensures);
    }
