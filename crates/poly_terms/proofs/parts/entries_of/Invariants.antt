use Rattle.std.proofs.Common.{ℕ, [], take}
use Rattle.algebra_core.specs.Polynomials.{sum_of}
use Rattle.poly_terms.specs.Monomials.{Adds, Grows}
use Rattle.poly_terms.specs.Tables.{said}
use Rattle.poly_terms.proofs.parts.entries_of.Given as goal

abbrev pub invariant-loop-coefficient : goal.invariant-loop-coefficient
invariant-loop-coefficient l = record {
  grows : Grows l.initial.table l.table;
  adds : (m : ℕ) → Adds m l.initial.table l.table [] l.out.items (λ σ. sum_of m (said (take l.coefficient-index l.parts)) σ);
}
