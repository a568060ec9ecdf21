use Rattle.std.proofs.Common.{◌≡◌, map, take}
use Rattle.same_core.specs.Merged.{moved_literal, pairs_of}
use Rattle.same_core.proofs.merged.merge_outputs.Given as goal

abbrev pub invariant-loop-place : goal.invariant-loop-place
invariant-loop-place l = l.pairs.items ≡ pairs_of (take l.place l.graph.outputs) (map (moved_literal l.graph l.other) (take l.place l.other.outputs))
