use Rattle.std.proofs.Common.{◌^◌, take}
use Rattle.poly_terms.specs.Entries.{IsMultiple}
use Rattle.poly_terms.proofs.scaling.multiples.Given as goal

abbrev pub invariant-loop-entry : goal.invariant-loop-entry
invariant-loop-entry l = IsMultiple (2 ^ l.exponent) l.by (take l.entry-index l.entries) l.out.items
