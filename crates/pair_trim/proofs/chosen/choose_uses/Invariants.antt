use Rattle.std.proofs.Common.{◌≡◌, map, slice_index, take}
use Rattle.clause_core.specs.KeptClauses.{chosen}
use Rattle.pair_trim.proofs.chosen.choose_uses.Given as goal

abbrev pub invariant-loop-place : goal.invariant-loop-place
invariant-loop-place l = l.kept.items ≡ chosen l.marks (take l.place (map (map (slice_index l.ranks)) l.uses))
