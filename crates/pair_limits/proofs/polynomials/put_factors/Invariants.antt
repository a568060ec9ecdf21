use Rattle.std.proofs.Common.{◌&&◌, ◌==◌, drop}
use Rattle.poly_text.specs.WrittenLines.{factors_text}
use Rattle.pair_limits.proofs.Behind.{TakesUpTo}
use Rattle.pair_limits.proofs.polynomials.put_factors.Given as goal

abbrev pub invariant-loop-index : goal.invariant-loop-index
invariant-loop-index l = TakesUpTo (factors_text l.bare l.variables) (factors_text ((l.index == 0) && l.bare) (drop l.index l.variables)) l.initial.room l.room
