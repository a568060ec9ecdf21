use Rattle.std.proofs.Common.{◌≡◌, ◌+◌, ◌++◌, take}
use Rattle.poly_terms.proofs.monomial.put_all.Given as goal

abbrev pub invariant-loop-v : goal.invariant-loop-v
invariant-loop-v l = record {
  place : l.place ≡ l.count + l.v-index;
  items : take l.place l.both ≡ take l.count l.initial.both ++ take l.v-index l.variables;
}
