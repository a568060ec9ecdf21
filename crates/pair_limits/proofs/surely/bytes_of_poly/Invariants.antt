use Rattle.std.proofs.Common.{◌≤◌, ◌+◌, ◌==◌, drop, length, map}
use Rattle.poly_terms.specs.Tables.{modulus_in, monomials_in}
use Rattle.poly_text.specs.WrittenLines.{poly_text, signed_term, terms_text}
use Rattle.pair_limits.proofs.surely.bytes_of_poly.Given as goal

abbrev pub invariant-loop-i : goal.invariant-loop-i
invariant-loop-i l =
    let m = modulus_in l.terms in
    let ts = monomials_in l.terms l.poly in
    length (poly_text m ts) ≤ l.bytes + length (terms_text (l.i == 0) (map (signed_term m) (drop l.i ts)))
