use Rattle.std.proofs.Common.{◌≡◌, ◌≢◌, ℕ, List, ◌<◌, length, arith, refl, sym, ap, subst, true, false}
use Rattle.std.proofs.lemmas.List.{length_push}
use Rattle.graph_core.specs.declared.numbers.Numbers.{Numbers}
use Rattle.operand_search.specs.Lanes.{AreLanes, lane}
use Rattle.operand_search.proofs.Bits.{lanes_more}
use Rattle.operand_search.specs.Runs.{IsRun, start, more}
use Rattle.operand_search.proofs.search.next_numbers.Goals as goal

pub loop-place-init : goal.loop-place-init
loop-place-init c = record {
  run = subst (λ ps. IsRun c.args.operands.now c.args.most_ones c.args.inputs.now ps true c.args.inputs.now) (sym c.new-numbers.ensures.items) start;
  lanes = subst (λ ps. AreLanes c.args.operands.now ps c.args.lanes.now) (sym c.new-numbers.ensures.items) (λ j d low. absurd (omega arith));
  few = c.requires.few;
  left = omega arith;
  many = ap length c.new-numbers.ensures.items;
}

pub returns-then-not-advance-clause-run : goal.returns-then-not-advance-clause-run
returns-then-not-advance-clause-run c =
    subst (λ ps. IsRun c.args.operands.now c.args.most_ones c.args.inputs.now ps false c.advance.new.bits) (sym {A = List Numbers} c.in_ok-push.ensures.items)
    (more c.loop-place.numbers.items c.numbers_of.result false c.loop-place.inputs c.advance.new.bits c.loop-place.invariant.run
    (record { range = c.numbers_of.ensures.range; is = c.numbers_of.ensures.inputs }) c.if-not-advance.ensures.step)

pub loop-place-preserved : goal.loop-place-preserved
loop-place-preserved c =
    let falls = c.if-not-advance.ensures.smaller refl in
    let size = length_push c.loop-place.numbers.items c.numbers_of.result in
    let items = ap length c.in_ok-push.ensures.items in
    let test = c.loop-place-test.true in
    let count = c.loop-place.invariant.many in
    let lanes : AreLanes c.args.operands.now c.push.new.self.items c.set_lane.new.words =
    subst (λ ps. AreLanes c.args.operands.now ps c.set_lane.new.words) (sym {A = List Numbers} c.in_ok-push.ensures.items)
    (lanes_more c.args.operands.now c.loop-place.numbers.items c.numbers_of.result c.loop-place.lanes c.set_lane.new.words c.loop-place.inputs (omega arith)
    c.loop-place.invariant.lanes (record { range = c.numbers_of.ensures.range; is = c.numbers_of.ensures.inputs }) (subst (λ i. lane i c.set_lane.new.words ≡ c.loop-place.inputs) (sym count) c.set_lane.ensures.here)
    (subst (λ m. (i : ℕ) → i < 64 → i ≢ m → lane i c.set_lane.new.words ≡ lane i c.loop-place.lanes) (sym count) c.set_lane.ensures.others)) in
    record {
      run = subst (λ ps. IsRun c.args.operands.now c.args.most_ones c.args.inputs.now ps true c.advance.new.bits) (sym {A = List Numbers} c.in_ok-push.ensures.items)
          (more c.loop-place.numbers.items c.numbers_of.result true c.loop-place.inputs c.advance.new.bits c.loop-place.invariant.run
          (record { range = c.numbers_of.ensures.range; is = c.numbers_of.ensures.inputs }) c.if-not-advance.ensures.step);
      lanes = lanes;
      few = c.if-not-advance.ensures.step.few;
      left = omega arith;
      many = omega arith;
    }

pub returns-then-not-advance-clause-lanes : goal.returns-then-not-advance-clause-lanes
returns-then-not-advance-clause-lanes c =
    let test = c.loop-place-test.true in
    let count = c.loop-place.invariant.many in
    subst (λ ps. AreLanes c.args.operands.now ps c.set_lane.new.words) (sym {A = List Numbers} c.in_ok-push.ensures.items)
    (lanes_more c.args.operands.now c.loop-place.numbers.items c.numbers_of.result c.loop-place.lanes c.set_lane.new.words c.loop-place.inputs (omega arith)
    c.loop-place.invariant.lanes (record { range = c.numbers_of.ensures.range; is = c.numbers_of.ensures.inputs }) (subst (λ i. lane i c.set_lane.new.words ≡ c.loop-place.inputs) (sym count) c.set_lane.ensures.here)
    (subst (λ m. (i : ℕ) → i < 64 → i ≢ m → lane i c.set_lane.new.words ≡ lane i c.loop-place.lanes) (sym count) c.set_lane.ensures.others))
