use Rattle.std.proofs.Common.{◌≡◌, map, take}
use Rattle.pair_trim.proofs.operands.first_of.Given as goal

abbrev pub invariant-loop-part : goal.invariant-loop-part
invariant-loop-part g l = l.ids.items ≡ map (λ part. part.0) (take l.part-index l.parts)
