use Rattle.std.proofs.Common.{arith}
use Rattle.stage_rewriter.proofs.OpenGoals.{one_gate_more}
use Rattle.stage_rewriter.proofs.resting.gates_rest.Goals as goal

pub loop-gate-preserved : goal.loop-gate-preserved
loop-gate-preserved c k d low = one_gate_more c.args.marks.now c.args.gates.now c.loop-gate.gate-index (record { v = 0; left = record { 0 = 0 }; right = record { 0 = 0 } }) (omega (arith, c.loop-gate-test.true)) c.loop-gate.invariant (c.gate_rests.ensures.0 c.if-not-gate_rests.false) k d low
