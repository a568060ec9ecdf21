use Rattle.std.proofs.Common.{◌*◌, ◌^◌, take}
use Rattle.algebra_core.specs.Polynomials.{product}
use Rattle.poly_terms.specs.Monomials.{Adds, Grows, total_in}
use Rattle.poly_terms.proofs.multiplication.multiply_behind.Given as goal

abbrev pub invariant-loop-entry : goal.invariant-loop-entry
invariant-loop-entry l = record {
  grows : Grows l.initial.table l.table;
  adds : Adds (2 ^ l.exponent) l.initial.table l.table l.initial.out.items l.out.items (λ σ. l.coefficient * product σ l.monomial * total_in l.initial.table σ (take l.entry-index l.entries));
}
