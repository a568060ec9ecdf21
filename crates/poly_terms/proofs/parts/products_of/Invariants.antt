use Rattle.std.proofs.Common.{◌*◌, ◌^◌, [], take}
use Rattle.algebra_core.specs.Polynomials.{sum_of}
use Rattle.poly_terms.specs.Monomials.{Adds, Grows, total_in}
use Rattle.poly_terms.specs.Tables.{said}
use Rattle.poly_terms.proofs.parts.products_of.Given as goal

abbrev pub invariant-loop-coefficient : goal.invariant-loop-coefficient
invariant-loop-coefficient l = record {
  grows : Grows l.initial.table l.table;
  adds : Adds (2 ^ l.exponent) l.initial.table l.table [] l.out.items
      (λ σ. total_in l.initial.table σ l.entries * sum_of (2 ^ l.exponent) (said (take l.coefficient-index l.parts)) σ);
}
