use Rattle.std.proofs.Common.{◌*◌, ◌^◌, [], get_or, take}
use Rattle.algebra_core.specs.Polynomials.{product}
use Rattle.poly_terms.specs.Monomials.{Grows, total_in}
use Rattle.poly_terms.specs.PolySums.{AreListed, Gains}
use Rattle.poly_terms.proofs.product_sum.add_multiple.Given as goal

abbrev pub invariant-loop-entry : goal.invariant-loop-entry
invariant-loop-entry l = record {
  listed : AreListed l.coefficients l.numbers.items;
  grows : Grows l.initial.table l.table;
  gains : Gains (2 ^ l.width) l.initial.table l.table l.initial.coefficients l.coefficients
      (λ σ. l.by.1 * product σ (get_or l.initial.table l.by.0 []) * total_in l.initial.table σ (take l.entry-index l.entries));
}
