use Rattle.std.proofs.Common.{◌≡◌, ◌<◌, ◌^◌, take}
use Rattle.mv_nums.specs.Numeral.{decimal_value}
use Rattle.mv_nums.proofs.numeral.number_of.Given as goal

abbrev pub invariant-loop-byte : goal.invariant-loop-byte
invariant-loop-byte l = (l.number ≡ decimal_value (take l.byte-index l.digits)) × (l.number < 2 ^ 128)
