use Rattle.std.proofs.Common.{◌≡◌, ◌==◌, true, drop, map}
use Rattle.poly_terms.specs.Tables.{modulus_in, monomials_in}
use Rattle.poly_text.specs.WrittenLines.{poly_text, signed_term, terms_text}
use Rattle.mv_text.proofs.CallerLemmas.{PutsUpTo}
use Rattle.poly_text.proofs.poly_writing.put_poly.Given as goal

abbrev pub invariant-loop-i : goal.invariant-loop-i
invariant-loop-i g l = record {
  «open» : (g.D.Desk.seen l.desk).writes l.output.slot ≡ true;
  puts : PutsUpTo (poly_text (modulus_in l.terms) (monomials_in l.terms l.poly)) (terms_text (l.i == 0) (map (signed_term (modulus_in l.terms)) (drop l.i (monomials_in l.terms l.poly)))) l.initial.output l.output (g.D.Desk.seen l.initial.desk) (g.D.Desk.seen l.desk);
}
