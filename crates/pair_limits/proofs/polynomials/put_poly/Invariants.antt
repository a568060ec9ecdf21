use Rattle.std.proofs.Common.{◌==◌, drop, map}
use Rattle.poly_terms.specs.Tables.{modulus_in, monomials_in}
use Rattle.poly_text.specs.WrittenLines.{poly_text, signed_term, terms_text}
use Rattle.pair_limits.proofs.Behind.{TakesUpTo}
use Rattle.pair_limits.proofs.polynomials.put_poly.Given as goal

abbrev pub invariant-loop-i : goal.invariant-loop-i
invariant-loop-i l = TakesUpTo (poly_text (modulus_in l.terms) (monomials_in l.terms l.poly)) (terms_text (l.i == 0) (map (signed_term (modulus_in l.terms)) (drop l.i (monomials_in l.terms l.poly)))) l.initial.room l.room
