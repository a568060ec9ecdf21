use Rattle.std.proofs.Common.{◌*◌, ◌^◌, take}
use Rattle.poly_terms.specs.Monomials.{Grows, total_in}
use Rattle.poly_terms.specs.PolySums.{AreListed, Gains}
use Rattle.poly_terms.proofs.product_sum.add_products.Given as goal

abbrev pub invariant-loop-by : goal.invariant-loop-by
invariant-loop-by l = record {
  listed : AreListed l.coefficients l.numbers.items;
  grows : Grows l.initial.table l.table;
  gains : Gains (2 ^ l.width) l.initial.table l.table l.initial.coefficients l.coefficients (λ σ. total_in l.initial.table σ l.left * total_in l.initial.table σ (take l.by-index l.right));
}
