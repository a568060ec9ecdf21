use Rattle.std.proofs.Common.{◌≡◌, ℕ, ◌<◌, get_or}
use Rattle.poly_terms.specs.PolySums.{IsLess}
use Rattle.poly_terms.proofs.poly_sum.clear_all.Given as goal

abbrev pub invariant-loop-number : goal.invariant-loop-number
invariant-loop-number l = record {
  less : IsLess l.initial.coefficients l.coefficients;
  gone : (k : ℕ) → k < l.number-index → get_or l.coefficients (get_or l.numbers k 0) 0 ≡ 0;
}
