use Rattle.std.proofs.Common.{ℕ, [], take}
use Rattle.poly_terms.specs.Monomials.{Adds, Grows, total_in}
use Rattle.poly_terms.proofs.carrying.carry_all.Given as goal

abbrev pub invariant-loop-term : goal.invariant-loop-term
invariant-loop-term l = record {
  grows : Grows l.initial.table l.table;
  adds : (m : ℕ) → Adds m l.initial.table l.table [] l.out.items (λ σ. total_in l.from σ (take l.term-index l.terms));
}
