use Rattle.std.proofs.Common.{◌≡◌, ◌<◌, ◌^◌, All, take}
use Rattle.mv_nums.specs.Numeral.{IsDigit, decimal_value}
use Rattle.mv_nums.proofs.numeral.short_number.Given as goal

abbrev pub invariant-loop-byte : goal.invariant-loop-byte
invariant-loop-byte l = record {
  digits : All IsDigit (take l.byte-index l.bytes);
  number : l.number ≡ decimal_value (take l.byte-index l.bytes);
  small : l.number < 10 ^ l.byte-index;
}
