use Rattle.std.proofs.Common.{ℕ, ◌<◌, [], get_or}
use Rattle.poly_terms.specs.Indexed.{IsGone, TakesOut}
use Rattle.poly_terms.proofs.indexed.take_out.Given as goal

abbrev pub invariant-loop-place : goal.invariant-loop-place
invariant-loop-place l = record {
  taken : TakesOut l.table l.v l.initial.coefficients l.coefficients [] l.out.items;
  gone : (k : ℕ) → k < l.place → IsGone l.table l.v l.coefficients (get_or l.numbers k 0);
}
