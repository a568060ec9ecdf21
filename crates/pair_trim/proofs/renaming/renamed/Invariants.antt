use Rattle.std.proofs.Common.{◌≡◌, map, slice_index, take}
use Rattle.pair_trim.proofs.renaming.renamed.Given as goal

abbrev pub invariant-loop-number : goal.invariant-loop-number
invariant-loop-number l = l.items.items ≡ map (slice_index l.ranks) (take l.number-index l.number-items)
