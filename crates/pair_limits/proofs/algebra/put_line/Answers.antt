use Rattle.std.proofs.Common.{ap, subst, sym, true}
use Rattle.std.specs.Prelude.{codes, decimal}
use Rattle.std.specs.List.{All}
use Rattle.poly_terms.specs.Tables.{IsOf, modulus_in, monomials_in}
use Rattle.poly_text.specs.Lines.{AreOf, parts_in}
use Rattle.poly_text.specs.WrittenLines.{parts_text, poly_text, text_in}
use Rattle.pair_limits.proofs.Behind.{text_is, text_more, text_then}
use Rattle.pair_limits.proofs.algebra.put_line.Goals as goal

pub put_stated-requires : goal.put_stated-requires
put_stated-requires c = subst (AreOf c.args.terms.now) c.in-Sum.is c.requires

pub returns-in-Sum : goal.returns-in-Sum
returns-in-Sum c =
    let t = c.args.terms.now in
    let ids = text_more (decimal c.in-Sum.j) (codes ", ") (text_more (decimal c.in-Sum.i) (codes ", ") c.put_id.ensures c.put_id-in-Sum.ensures) c.put_id-in-Sum-2.ensures in
    text_is (sym (ap (text_in t) c.in-Sum.is)) (text_more (poly_text (modulus_in t) (monomials_in t c.in-Sum.poly)) (codes ";") ids c.put_stated.ensures)

pub put_poly-requires : goal.put_poly-requires
put_poly-requires c = (subst (AreOf c.args.terms.now) c.in-Product.is c.requires).0

pub put_stated-requires-in-Product : goal.put_stated-requires-in-Product
put_stated-requires-in-Product c = (subst (AreOf c.args.terms.now) c.in-Product.is c.requires).1

pub returns-in-Product : goal.returns-in-Product
returns-in-Product c =
    let t = c.args.terms.now in
    let ids = text_more (decimal c.in-Product.i) (codes ", ") c.put_id-in-Product.ensures c.put_id-in-Product-2.ensures in
    let factor = text_then (text_then ids c.put_poly.ensures) c.put.ensures in
    text_is (sym (ap (text_in t) c.in-Product.is)) (text_more (poly_text (modulus_in t) (monomials_in t c.in-Product.poly)) (codes ";") factor c.put_stated-in-Product.ensures)

pub put_parts-requires : goal.put_parts-requires
put_parts-requires c =
    subst (All (λ part. IsOf c.args.terms.now part.1)) (sym c.as_slice.ensures) (subst (AreOf c.args.terms.now) c.in-Combination.is c.requires).0

pub put_stated-requires-in-Combination : goal.put_stated-requires-in-Combination
put_stated-requires-in-Combination c = (subst (AreOf c.args.terms.now) c.in-Combination.is c.requires).1

pub returns-in-Combination : goal.returns-in-Combination
returns-in-Combination c =
    let t = c.args.terms.now in
    let parts = text_is (ap (λ l. parts_text (modulus_in t) true (parts_in t l)) c.as_slice.ensures) c.put_parts.ensures in
    let front = text_then (text_then c.put_id-in-Combination.ensures parts) c.put-in-Combination.ensures in
    text_is (sym (ap (text_in t) c.in-Combination.is)) (text_more (poly_text (modulus_in t) (monomials_in t c.in-Combination.poly)) (codes ";") front c.put_stated-in-Combination.ensures)

pub put_stated-requires-in-Import : goal.put_stated-requires-in-Import
put_stated-requires-in-Import c = subst (AreOf c.args.terms.now) c.in-Import.is c.requires

pub returns-in-Import : goal.returns-in-Import
returns-in-Import c =
    let t = c.args.terms.now in
    let ids = text_more (decimal c.in-Import.clause) (codes ", ") c.put_id-in-Import.ensures c.put_id-in-Import-2.ensures in
    text_is (sym (ap (text_in t) c.in-Import.is)) (text_more (poly_text (modulus_in t) (monomials_in t c.in-Import.poly)) (codes ";") ids c.put_stated-in-Import.ensures)

pub returns-in-Drop : goal.returns-in-Drop
returns-in-Drop c = text_is (sym (ap (text_in c.args.terms.now) c.in-Drop.is)) c.put_id-in-Drop.ensures

pub returns-in-Close : goal.returns-in-Close
returns-in-Close c = text_is (sym (ap (text_in c.args.terms.now) c.in-Close.is)) c.put_closing.ensures
