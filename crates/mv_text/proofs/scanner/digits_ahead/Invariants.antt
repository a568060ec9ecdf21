use Rattle.std.proofs.Common.{◌≡◌, ◌≤◌, ◌-◌, ◌++◌, length, drop, take}
use Rattle.graph_core.specs.Text.Numerals.{digits_of, behind_digits}
use Rattle.mv_text.proofs.scanner.digits_ahead.Given as goal

abbrev pub invariant-loop-count : goal.invariant-loop-count
invariant-loop-count l = record {
  within : l.count ≤ length l.bytes;
  digits : digits_of l.bytes ≡ take l.count l.bytes ++ digits_of (drop l.count l.bytes);
  left : behind_digits l.bytes ≡ behind_digits (drop l.count l.bytes);
}

abbrev pub decreases-loop-count : goal.decreases-loop-count
decreases-loop-count l = length l.bytes - l.count
