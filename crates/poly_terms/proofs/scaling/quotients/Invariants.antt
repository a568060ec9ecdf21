use Rattle.std.proofs.Common.{◌≡◌, ◌%◌, ◌^◌, take}
use Rattle.std.specs.List.{All}
use Rattle.poly_terms.specs.Entries.{IsQuotient}
use Rattle.poly_terms.proofs.scaling.quotients.Given as goal

abbrev pub invariant-loop-entry : goal.invariant-loop-entry
invariant-loop-entry l = record {
  quotient : IsQuotient (2 ^ l.exponent) (2 ^ l.k) (take l.entry-index l.entries) l.out.items;
  multiples : All (λ e. e.1 % 2 ^ l.k ≡ 0) (take l.entry-index l.entries);
}
