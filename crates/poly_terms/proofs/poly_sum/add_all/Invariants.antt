use Rattle.std.proofs.Common.{◌^◌, take}
use Rattle.poly_terms.specs.PolySums.{AreListed, IsAdded}
use Rattle.poly_terms.proofs.poly_sum.add_all.Given as goal

abbrev pub invariant-loop-entry : goal.invariant-loop-entry
invariant-loop-entry l = record {
  listed : AreListed l.coefficients l.numbers.items;
  added : IsAdded (2 ^ l.width) l.initial.coefficients l.coefficients (take l.entry-index l.entries);
}
