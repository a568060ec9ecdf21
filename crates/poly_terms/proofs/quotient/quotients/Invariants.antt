use Rattle.std.proofs.Common.{◌≡◌, ℕ, [], drop, take}
use Rattle.poly_terms.specs.Monomials.{Adds, Grows, places_of, replaced}
use Rattle.poly_terms.proofs.quotient.quotients.Given as goal

abbrev pub invariant-loop-entry : goal.invariant-loop-entry
invariant-loop-entry l = record {
  grows : Grows l.initial.table l.table;
  adds : (m : ℕ) → Adds m l.initial.table l.table [] l.out.items (λ σ. replaced l.initial.table l.v σ 1 (take l.entry-index l.entries));
  left : drop l.j l.places ≡ places_of l.initial.table l.v (drop l.entry-index l.entries);
}
