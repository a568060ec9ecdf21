use Rattle.std.proofs.Common.{◌*◌, ◌^◌, take}
use Rattle.algebra_core.specs.Polynomials.{product}
use Rattle.poly_terms.specs.Monomials.{Grows, total_in}
use Rattle.poly_terms.specs.PolySums.{AreListed, Gains}
use Rattle.poly_terms.proofs.multiple_sum.add_scaled.Given as goal

abbrev pub invariant-loop-entry : goal.invariant-loop-entry
invariant-loop-entry l = record {
  listed : AreListed l.coefficients l.numbers.items;
  grows : Grows l.initial.table l.table;
  gains : Gains (2 ^ l.width) l.initial.table l.table l.initial.coefficients l.coefficients (λ σ. l.number * product σ l.monomial * total_in l.initial.table σ (take l.entry-index l.entries));
}
