use Rattle.ripple_graft.proofs.PlacedBeside.{gate_room, pair_known, placing_begins, placing_ends, placing_goes_on}
use Rattle.ripple_graft.proofs.placing.with_gates.Goals as goal

pub loop-left-init : goal.loop-left-init
loop-left-init c = placing_begins c.args.extended c.args.gates.now c.requires.fit

pub with_gate-requires-clause-known : goal.with_gate-requires-clause-known
with_gate-requires-clause-known c =
    pair_known c.args.extended c.args.gates.now c.loop-left.left-index c.loop-left.longer (record { 0 = 0 }, record { 0 = 0 }) c.loop-left-test.true c.loop-left.invariant

pub with_gate-requires-clause-room : goal.with_gate-requires-clause-room
with_gate-requires-clause-room c =
    gate_room c.args.extended c.args.gates.now c.loop-left.left-index c.loop-left.longer (record { 0 = 0 }, record { 0 = 0 }) c.loop-left-test.true c.loop-left.invariant c.requires.room

pub loop-left-preserved : goal.loop-left-preserved
loop-left-preserved c =
    placing_goes_on c.args.extended c.args.gates.now c.loop-left.left-index c.loop-left.longer (record { 0 = 0 }, record { 0 = 0 }) c.loop-left-test.true c.loop-left.invariant _ c.in_ok-longer.ensures

pub returns : goal.returns
returns c = placing_ends c.args.extended c.args.gates.now c.loop-left.left-index c.loop-left.longer c.loop-left-test.false c.loop-left.invariant
