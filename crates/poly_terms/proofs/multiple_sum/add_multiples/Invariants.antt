use Rattle.std.proofs.Common.{◌*◌, ◌^◌, take}
use Rattle.algebra_core.specs.Polynomials.{sum_of}
use Rattle.poly_terms.specs.Monomials.{Grows, total_in}
use Rattle.poly_terms.specs.PolySums.{AreListed, Gains}
use Rattle.poly_terms.specs.Tables.{said}
use Rattle.poly_terms.proofs.multiple_sum.add_multiples.Given as goal

abbrev pub invariant-loop-number : goal.invariant-loop-number
invariant-loop-number l = record {
  listed : AreListed l.coefficients l.numbers.items;
  grows : Grows l.initial.table l.table;
  gains : Gains (2 ^ l.width) l.initial.table l.table l.initial.coefficients l.coefficients
      (λ σ. total_in l.initial.table σ l.entries * sum_of (2 ^ l.width) (said (take l.number-index l.parts)) σ);
}
