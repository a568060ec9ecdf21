use Rattle.std.proofs.Common.{◌^◌, take}
use Rattle.poly_terms.specs.Indexed.{HasAddedTerms}
use Rattle.poly_terms.proofs.indexed.add_all.Given as goal

abbrev pub invariant-loop-entry : goal.invariant-loop-entry
invariant-loop-entry l = HasAddedTerms (2 ^ l.width) l.table l.initial.coefficients l.coefficients l.places (take l.entry-index l.entries)
