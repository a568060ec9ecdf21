use Rattle.std.proofs.Common.{◌≡◌, ◌+◌, ◌≤◌, length}
use Rattle.column_reducer.specs.Gathering.{AreBatchesWritten}
use Rattle.column_reducer.proofs.batch_lines.write_batches.Given as goal

abbrev pub invariant-loop-batch : goal.invariant-loop-batch
invariant-loop-batch l = record {
  written : AreBatchesWritten l.fn.lines.extended l.fn.lines.sides l.fn.lines.table l.fn.total l.left.items l.weighted.items l.lines;
  last : l.lines.last + length l.left.items ≡ l.fn.lines.last + length l.fn.batches.items;
  few : length l.lines.lines + length l.left.items ≤ length l.fn.batches.items;
}

abbrev pub decreases-loop-batch : goal.decreases-loop-batch
decreases-loop-batch l = length l.left.items
