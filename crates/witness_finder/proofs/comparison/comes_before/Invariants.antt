use Rattle.std.proofs.Common.{◌≡◌, take}
use Rattle.witness_finder.specs.Positions.{bits_at}
use Rattle.witness_finder.proofs.comparison.comes_before.Given as goal

abbrev pub invariant-loop-i : goal.invariant-loop-i
invariant-loop-i l = take l.i (bits_at l.operands l.first) ≡ take l.i (bits_at l.operands l.second)
