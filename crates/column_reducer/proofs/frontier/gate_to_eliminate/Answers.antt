use Rattle.std.proofs.Common.{refl}
use Rattle.column_reducer.proofs.Following.{gate_not_free, gate_within}
use Rattle.column_reducer.proofs.frontier.gate_to_eliminate.Goals as goal

pub gate-requires : goal.gate-requires
gate-requires c = record { in_range = gate_within c.args.extended.now c.requires.0 c.args.v c.gates-gates.ensures.extension c.requires.1 }

pub unreachable-requires : goal.unreachable-requires
unreachable-requires c = gate_not_free c.args.extended.now c.requires.0 c.args.v c.requires.1 (c.in-None.ensures.none.0 refl)
