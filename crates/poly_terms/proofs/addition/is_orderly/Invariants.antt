use Rattle.std.proofs.Common.{◌^◌, ◌≤◌, drop, length}
use Rattle.poly_terms.specs.Entries.{IsOrderly}
use Rattle.poly_terms.proofs.addition.is_orderly.Given as goal

abbrev pub invariant-loop-i : goal.invariant-loop-i
invariant-loop-i l = record {
  within : l.i ≤ length l.entries;
  orderly : IsOrderly (2 ^ l.exponent) (drop l.i l.entries);
}

abbrev pub decreases-loop-i : goal.decreases-loop-i
decreases-loop-i l = l.i
