use Rattle.std.proofs.Common.{◌≡◌, ◌+◌, ◌≤◌, length, true}
use Rattle.operand_search.specs.Enumeration.{left_over, ones}
use Rattle.operand_search.specs.Lanes.{AreLanes}
use Rattle.operand_search.specs.Runs.{IsRun}
use Rattle.operand_search.proofs.search.next_numbers.Given as goal

abbrev pub invariant-loop-place : goal.invariant-loop-place
invariant-loop-place l = record {
  run : IsRun l.operands l.most_ones l.initial.inputs l.numbers.items true l.inputs;
  lanes : AreLanes l.operands l.numbers.items l.lanes;
  few : ones l.inputs ≤ l.most_ones;
  left : left_over l.inputs + l.place ≤ left_over l.initial.inputs;
  many : length l.numbers.items ≡ l.place;
}
