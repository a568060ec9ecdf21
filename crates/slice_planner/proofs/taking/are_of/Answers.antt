use Rattle.std.proofs.Common.{sym}
use Rattle.slice_planner.proofs.GroupSteps.{variables_have}
use Rattle.slice_planner.proofs.taking.are_of.Goals as goal

pub returns-then-gate-v : goal.returns-then-gate-v
returns-then-gate-v c = sym (variables_have c.args.gates.now c.loop-gate.gate-index c.args.v _ c.loop-gate-test.true c.if-gate-v.true)
