use Rattle.std.proofs.Common.{◌≡◌, ℕ, ◌<◌, [], get_or}
use Rattle.poly_terms.specs.PolySums.{AreTaken, IsLess}
use Rattle.poly_terms.proofs.poly_sum.take_out.Given as goal

abbrev pub invariant-loop-number : goal.invariant-loop-number
invariant-loop-number l = record {
  less : IsLess l.initial.coefficients l.coefficients;
  taken : AreTaken l.initial.coefficients l.coefficients [] l.out.items;
  gone : (k : ℕ) → k < l.number-index → get_or l.coefficients (get_or l.numbers k 0) 0 ≡ 0;
}
