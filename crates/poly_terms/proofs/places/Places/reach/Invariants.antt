use Rattle.std.proofs.Common.{◌≡◌, ℕ, [], get_or, length}
use Rattle.poly_terms.proofs.places.Places.reach.Given as goal

abbrev pub invariant-loop : goal.invariant-loop
invariant-loop l = record {
  same : (u : ℕ) → get_or l.self-inside.by_variable.items u [] ≡ get_or l.initial.self-inside.by_variable.items u [];
  counter : length l.self-inside.by_variable.items ≡ l.counter;
}
