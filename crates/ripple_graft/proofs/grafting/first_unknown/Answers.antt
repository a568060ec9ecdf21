use Rattle.ripple_graft.proofs.CutTests.{index_fits, known_all, known_so_far, left_unknown, none_before, right_unknown}
use Rattle.ripple_graft.proofs.grafting.first_unknown.Goals.{then-not-is_known-via-then-not-is_known, then-not-is_known-via-else-not-is_known+then-not-is_known-2}
use Rattle.ripple_graft.proofs.grafting.first_unknown.Goals as goal

pub overflow_cast-result : goal.overflow_cast-result
overflow_cast-result c = index_fits c.loop-i.i _ c.loop-i-test.true c.requires

pub returns-then-not-is_known : goal.returns-then-not-is_known
returns-then-not-is_known c = record {
  within = c.loop-i-test.true;
  earlier = c.loop-i.invariant;
  unknown = elim c.then-not-is_known.branch [
    | then-not-is_known-via-then-not-is_known w ↦ left_unknown c.args.extended.now c.args.pairs.now c.loop-i.i (record { 0 = 0 }) (record { 0 = 0 }) c.is_known.result c.loop-i-test.true w.if-not-is_known.true c.is_known.ensures
    | then-not-is_known-via-else-not-is_known+then-not-is_known-2 w ↦ right_unknown c.args.extended.now c.args.pairs.now c.loop-i.i (record { 0 = 0 }) (record { 0 = 0 }) w.is_known-else-not-is_known.result
        c.loop-i-test.true w.if-not-is_known-2.true w.is_known-else-not-is_known.ensures
  ];
}

pub loop-i-init : goal.loop-i-init
loop-i-init c = none_before c.args.extended.now c.args.pairs.now

pub loop-i-preserved : goal.loop-i-preserved
loop-i-preserved c =
    known_so_far c.args.extended.now c.args.pairs.now c.loop-i.i (record { 0 = 0 }) (record { 0 = 0 }) c.loop-i-test.true (c.is_known.ensures.0 c.if-not-is_known.false)
    (c.is_known-else-not-is_known.ensures.0 c.if-not-is_known-2.false) c.loop-i.invariant

pub returns : goal.returns
returns c = known_all c.args.extended.now c.args.pairs.now c.loop-i.i c.loop-i-test.false c.loop-i.invariant
