use Rattle.std.proofs.Common.{arith}
use Rattle.same_core.proofs.Ranges.{gates_are_low}
use Rattle.same_core.proofs.merged.merge_gates.Goals as goal

pub moved_gate-requires-clause-own : goal.moved_gate-requires-clause-own
moved_gate-requires-clause-own c =
    let low = gates_are_low c.args.other.now c.gates-gate-items.ensures.built c.gates-gate-items.result.now c.gates-gate-items.ensures.value c.loop-gate.gate-index (record { v = 0; left = record { 0 = 0 }; right = record { 0 = 0 } }) c.loop-gate-test.true in
    let small = c.gates-gate-items.ensures.built.small in
    omega (arith, low.1, small)

pub moved_gate-requires-clause-left : goal.moved_gate-requires-clause-left
moved_gate-requires-clause-left c = (gates_are_low c.args.other.now c.gates-gate-items.ensures.built c.gates-gate-items.result.now c.gates-gate-items.ensures.value c.loop-gate.gate-index _ c.loop-gate-test.true).2

pub moved_gate-requires-clause-right : goal.moved_gate-requires-clause-right
moved_gate-requires-clause-right c = (gates_are_low c.args.other.now c.gates-gate-items.ensures.built c.gates-gate-items.result.now c.gates-gate-items.ensures.value c.loop-gate.gate-index _ c.loop-gate-test.true).3
