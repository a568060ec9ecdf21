use Rattle.std.proofs.Common.{◌≡◌, take}
use Rattle.poly_terms.proofs.numbers.widened.Given as goal

abbrev pub invariant-loop-number : goal.invariant-loop-number
invariant-loop-number l = l.all.items ≡ take l.number-index l.narrow
