use Rattle.std.proofs.Common.{◌≡◌, ◌≤◌, length}
use Rattle.operand_search.specs.Enumeration.{left_over, ones}
use Rattle.operand_search.specs.Runs.{NoneBefore}
use Rattle.operand_search.proofs.search.least_from.Given as goal

abbrev pub invariant-loop-numbers : goal.invariant-loop-numbers
invariant-loop-numbers l = record {
  size : length l.inputs ≡ length l.graph.inputs;
  few : ones l.inputs ≤ l.most_ones;
  clear : NoneBefore l.graph l.operands l.inputs;
}

abbrev pub decreases-loop-numbers : goal.decreases-loop-numbers
decreases-loop-numbers l = left_over l.inputs
