use Rattle.std.proofs.Common.{◌≡◌, ◌≤◌, take, length}
use Rattle.graph_core.specs.declared.bounds.TheConstants.{MOST_INPUTS}
use Rattle.graph_core.specs.Graph.Operands.{inputs_in}
use Rattle.witness_finder.specs.Positions.{bits_at}
use Rattle.witness_finder.proofs.ones.numbers_at.Given as goal

abbrev pub invariant-loop-i : goal.invariant-loop-i
invariant-loop-i l = record {
  count : l.count ≡ length (inputs_in l.operands);
  few : l.count ≤ MOST_INPUTS;
  room : length l.values ≡ MOST_INPUTS;
  done : take l.i l.values ≡ take l.i (bits_at l.operands l.variables);
}
