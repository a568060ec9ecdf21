use Rattle.std.proofs.Common.{◌≡◌, ◌++◌, drop, slice_index, take}
use Rattle.pair_trim.specs.Lines.{all_renumbered}
use Rattle.pair_trim.proofs.imports.renumber.Given as goal

abbrev pub invariant-loop-place : goal.invariant-loop-place
invariant-loop-place l = l.lines ≡ all_renumbered (slice_index l.ranks) (take l.place l.initial.lines) ++ drop l.place l.initial.lines
