use Rattle.slice_planner.proofs.GroupSteps.{no_gate, reads_more}
use Rattle.slice_planner.proofs.taking.reads_of.Goals as goal

pub loop-gate-preserved : goal.loop-gate-preserved
loop-gate-preserved c = record {
  counts = reads_more c.args.gates.now c.loop-gate.gate-index c.args.v c.is_of.result c.is_of-in-loop-gate.result c.loop-gate.count no_gate c.loop-gate-test.true c.loop-gate.invariant.counts c.is_of.ensures.value c.is_of-in-loop-gate.ensures.value;
}
