use Rattle.std.proofs.Common.{◌≡◌, drop, take}
use Rattle.poly_terms.specs.Monomials.{free_of, places_of}
use Rattle.poly_terms.proofs.substitution.entries_free_of.Given as goal

abbrev pub invariant-loop-entry : goal.invariant-loop-entry
invariant-loop-entry l = record {
  out : l.out.items ≡ free_of l.table l.v (take l.entry-index l.entries);
  left : drop l.j l.places ≡ places_of l.table l.v (drop l.entry-index l.entries);
}
