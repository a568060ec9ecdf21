use Rattle.std.proofs.Common.{ℕ, suc, ◌<◌, ◌≤◌}
use Rattle.std.specs.Prelude.{slice_index, slice_index_or}
use Rattle.adder_finder.specs.declared.stage.Next.{Next}
use Rattle.adder_finder.proofs.stage.covered_columns.Given as goal

abbrev pub invariant-loop-i : goal.invariant-loop-i
invariant-loop-i l = (k : ℕ) (n : Next) → k < l.i → slice_index l.needs (slice_index_or l.nexts k n).side ≤ suc k
