use Rattle.std.proofs.Common.{◌<◌, take, length, get_or}
use Rattle.std.specs.List.{All}
use Rattle.algebra_core.specs.Polynomials.{Term}
use Rattle.poly_terms.specs.Tables.{monomials_in}
use Rattle.witness_finder.proofs.Searching.{IsBest}
use Rattle.witness_finder.proofs.search.least_place.Given as goal

abbrev pub invariant-loop-i : goal.invariant-loop-i
invariant-loop-i l = record {
  place : l.best < length (monomials_in l.terms l.poly);
  best : (d : Term) → All (IsBest l.operands (get_or (monomials_in l.terms l.poly) l.best d).variables) (take l.i (monomials_in l.terms l.poly));
}
