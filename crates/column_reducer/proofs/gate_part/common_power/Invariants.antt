use Rattle.std.proofs.Common.{◌≤◌}
use Rattle.column_reducer.proofs.gate_part.common_power.Given as goal

abbrev pub invariant-loop-i : goal.invariant-loop-i
invariant-loop-i l = l.power ≤ l.most
