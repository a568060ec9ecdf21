use Rattle.std.proofs.Common.{◌≡◌, length}
use Rattle.poly_terms.specs.Chains.{AreLinked}
use Rattle.poly_terms.proofs.chains.linked.Given as goal

abbrev pub invariant-loop-number : goal.invariant-loop-number
invariant-loop-number l = record {
  chains : length l.heads ≡ l.count;
  long : length l.links ≡ l.number;
  linked : AreLinked l.count l.monomials l.heads l.links;
}
