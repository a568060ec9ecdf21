use Rattle.std.proofs.Common.{ap, lit≤, subst, sym, true}
use Rattle.std.specs.Prelude.{codes, decimal}
use Rattle.std.specs.List.{All}
use Rattle.poly_terms.specs.Tables.{IsOf, modulus_in, monomials_in}
use Rattle.poly_text.specs.Lines.{AreOf, parts_in}
use Rattle.poly_text.specs.WrittenLines.{parts_text, poly_text, text_in}
use Rattle.mv_text.proofs.CallerLemmas.{Puts-is, Puts-more, Puts-then}
use Rattle.poly_text.proofs.writing.put_line.Goals as goal

pub put_id-requires-clause-open : goal.put_id-requires-clause-open
put_id-requires-clause-open g c = c.requires.open

pub put_id-requires-clause-fits : goal.put_id-requires-clause-fits
put_id-requires-clause-fits g c = lit≤ tt

pub put_id-requires-in-Sum-clause-open : goal.put_id-requires-in-Sum-clause-open
put_id-requires-in-Sum-clause-open g c = c.put_id.ensures.open

pub put_id-requires-in-Sum-clause-fits : goal.put_id-requires-in-Sum-clause-fits
put_id-requires-in-Sum-clause-fits g c = lit≤ tt

pub put_id-requires-in-Sum-2-clause-open : goal.put_id-requires-in-Sum-2-clause-open
put_id-requires-in-Sum-2-clause-open g c = c.put_id-in-Sum.ensures.open

pub put_id-requires-in-Sum-2-clause-fits : goal.put_id-requires-in-Sum-2-clause-fits
put_id-requires-in-Sum-2-clause-fits g c = lit≤ tt

pub put_stated-requires-clause-open : goal.put_stated-requires-clause-open
put_stated-requires-clause-open g c = c.put_id-in-Sum-2.ensures.open

pub put_stated-requires-clause-of : goal.put_stated-requires-clause-of
put_stated-requires-clause-of g c = subst (AreOf c.args.terms.now) c.in-Sum.is c.requires.of

pub returns-in-Sum-clause-open : goal.returns-in-Sum-clause-open
returns-in-Sum-clause-open g c = c.put_stated.ensures.open

pub returns-in-Sum-clause-puts : goal.returns-in-Sum-clause-puts
returns-in-Sum-clause-puts g c =
    let t = c.args.terms.now in
    let ids = Puts-more (decimal c.in-Sum.j) (codes ", ") (Puts-more (decimal c.in-Sum.i) (codes ", ") c.put_id.ensures.puts c.put_id-in-Sum.ensures.puts) c.put_id-in-Sum-2.ensures.puts in
    Puts-is (sym (ap (text_in t) c.in-Sum.is)) (Puts-more (poly_text (modulus_in t) (monomials_in t c.in-Sum.poly)) (codes ";") ids c.put_stated.ensures.puts)

pub put_id-requires-in-Product-clause-open : goal.put_id-requires-in-Product-clause-open
put_id-requires-in-Product-clause-open g c = c.requires.open

pub put_id-requires-in-Product-clause-fits : goal.put_id-requires-in-Product-clause-fits
put_id-requires-in-Product-clause-fits g c = lit≤ tt

pub put_id-requires-in-Product-2-clause-open : goal.put_id-requires-in-Product-2-clause-open
put_id-requires-in-Product-2-clause-open g c = c.put_id-in-Product.ensures.open

pub put_id-requires-in-Product-2-clause-fits : goal.put_id-requires-in-Product-2-clause-fits
put_id-requires-in-Product-2-clause-fits g c = lit≤ tt

pub put_poly-requires-clause-open : goal.put_poly-requires-clause-open
put_poly-requires-clause-open g c = c.put_id-in-Product-2.ensures.open

pub put_poly-requires-clause-of : goal.put_poly-requires-clause-of
put_poly-requires-clause-of g c = (subst (AreOf c.args.terms.now) c.in-Product.is c.requires.of).0

pub put-requires-clause-open : goal.put-requires-clause-open
put-requires-clause-open g c = c.put_poly.ensures.open

pub put-requires-clause-fits : goal.put-requires-clause-fits
put-requires-clause-fits g c = lit≤ tt

pub put_stated-requires-in-Product-clause-open : goal.put_stated-requires-in-Product-clause-open
put_stated-requires-in-Product-clause-open g c = c.put.ensures.open

pub put_stated-requires-in-Product-clause-of : goal.put_stated-requires-in-Product-clause-of
put_stated-requires-in-Product-clause-of g c = (subst (AreOf c.args.terms.now) c.in-Product.is c.requires.of).1

pub returns-in-Product-clause-open : goal.returns-in-Product-clause-open
returns-in-Product-clause-open g c = c.put_stated-in-Product.ensures.open

pub returns-in-Product-clause-puts : goal.returns-in-Product-clause-puts
returns-in-Product-clause-puts g c =
    let t = c.args.terms.now in
    let ids = Puts-more (decimal c.in-Product.i) (codes ", ") c.put_id-in-Product.ensures.puts c.put_id-in-Product-2.ensures.puts in
    let factor = Puts-then (Puts-then ids c.put_poly.ensures.puts) c.put.ensures.puts in
    Puts-is (sym (ap (text_in t) c.in-Product.is)) (Puts-more (poly_text (modulus_in t) (monomials_in t c.in-Product.poly)) (codes ";") factor c.put_stated-in-Product.ensures.puts)

pub put_id-requires-in-Combination-clause-open : goal.put_id-requires-in-Combination-clause-open
put_id-requires-in-Combination-clause-open g c = c.requires.open

pub put_id-requires-in-Combination-clause-fits : goal.put_id-requires-in-Combination-clause-fits
put_id-requires-in-Combination-clause-fits g c = lit≤ tt

pub put_parts-requires-clause-open : goal.put_parts-requires-clause-open
put_parts-requires-clause-open g c = c.put_id-in-Combination.ensures.open

pub put_parts-requires-clause-of : goal.put_parts-requires-clause-of
put_parts-requires-clause-of g c =
    subst (All (λ part. IsOf c.args.terms.now part.1)) (sym c.as_slice.ensures) (subst (AreOf c.args.terms.now) c.in-Combination.is c.requires.of).0

pub put-requires-in-Combination-clause-open : goal.put-requires-in-Combination-clause-open
put-requires-in-Combination-clause-open g c = c.put_parts.ensures.open

pub put-requires-in-Combination-clause-fits : goal.put-requires-in-Combination-clause-fits
put-requires-in-Combination-clause-fits g c = lit≤ tt

pub put_stated-requires-in-Combination-clause-open : goal.put_stated-requires-in-Combination-clause-open
put_stated-requires-in-Combination-clause-open g c = c.put-in-Combination.ensures.open

pub put_stated-requires-in-Combination-clause-of : goal.put_stated-requires-in-Combination-clause-of
put_stated-requires-in-Combination-clause-of g c = (subst (AreOf c.args.terms.now) c.in-Combination.is c.requires.of).1

pub returns-in-Combination-clause-open : goal.returns-in-Combination-clause-open
returns-in-Combination-clause-open g c = c.put_stated-in-Combination.ensures.open

pub returns-in-Combination-clause-puts : goal.returns-in-Combination-clause-puts
returns-in-Combination-clause-puts g c =
    let t = c.args.terms.now in
    let parts = Puts-is (ap (λ l. parts_text (modulus_in t) true (parts_in t l)) c.as_slice.ensures) c.put_parts.ensures.puts in
    let front = Puts-then (Puts-then c.put_id-in-Combination.ensures.puts parts) c.put-in-Combination.ensures.puts in
    Puts-is (sym (ap (text_in t) c.in-Combination.is)) (Puts-more (poly_text (modulus_in t) (monomials_in t c.in-Combination.poly)) (codes ";") front c.put_stated-in-Combination.ensures.puts)

pub put_id-requires-in-Import-clause-open : goal.put_id-requires-in-Import-clause-open
put_id-requires-in-Import-clause-open g c = c.requires.open

pub put_id-requires-in-Import-clause-fits : goal.put_id-requires-in-Import-clause-fits
put_id-requires-in-Import-clause-fits g c = lit≤ tt

pub put_id-requires-in-Import-2-clause-open : goal.put_id-requires-in-Import-2-clause-open
put_id-requires-in-Import-2-clause-open g c = c.put_id-in-Import.ensures.open

pub put_id-requires-in-Import-2-clause-fits : goal.put_id-requires-in-Import-2-clause-fits
put_id-requires-in-Import-2-clause-fits g c = lit≤ tt

pub put_stated-requires-in-Import-clause-open : goal.put_stated-requires-in-Import-clause-open
put_stated-requires-in-Import-clause-open g c = c.put_id-in-Import-2.ensures.open

pub put_stated-requires-in-Import-clause-of : goal.put_stated-requires-in-Import-clause-of
put_stated-requires-in-Import-clause-of g c = subst (AreOf c.args.terms.now) c.in-Import.is c.requires.of

pub returns-in-Import-clause-open : goal.returns-in-Import-clause-open
returns-in-Import-clause-open g c = c.put_stated-in-Import.ensures.open

pub returns-in-Import-clause-puts : goal.returns-in-Import-clause-puts
returns-in-Import-clause-puts g c =
    let t = c.args.terms.now in
    let ids = Puts-more (decimal c.in-Import.clause) (codes ", ") c.put_id-in-Import.ensures.puts c.put_id-in-Import-2.ensures.puts in
    Puts-is (sym (ap (text_in t) c.in-Import.is)) (Puts-more (poly_text (modulus_in t) (monomials_in t c.in-Import.poly)) (codes ";") ids c.put_stated-in-Import.ensures.puts)

pub put_id-requires-in-Drop-clause-open : goal.put_id-requires-in-Drop-clause-open
put_id-requires-in-Drop-clause-open g c = c.requires.open

pub put_id-requires-in-Drop-clause-fits : goal.put_id-requires-in-Drop-clause-fits
put_id-requires-in-Drop-clause-fits g c = lit≤ tt

pub returns-in-Drop-clause-open : goal.returns-in-Drop-clause-open
returns-in-Drop-clause-open g c = c.put_id-in-Drop.ensures.open

pub returns-in-Drop-clause-puts : goal.returns-in-Drop-clause-puts
returns-in-Drop-clause-puts g c = Puts-is (sym (ap (text_in c.args.terms.now) c.in-Drop.is)) c.put_id-in-Drop.ensures.puts

pub put-requires-in-Close-clause-open : goal.put-requires-in-Close-clause-open
put-requires-in-Close-clause-open g c = c.requires.open

pub put-requires-in-Close-clause-fits : goal.put-requires-in-Close-clause-fits
put-requires-in-Close-clause-fits g c = lit≤ tt

pub put_id-requires-in-Close-clause-open : goal.put_id-requires-in-Close-clause-open
put_id-requires-in-Close-clause-open g c = c.put-in-Close.ensures.open

pub put_id-requires-in-Close-clause-fits : goal.put_id-requires-in-Close-clause-fits
put_id-requires-in-Close-clause-fits g c = lit≤ tt

pub returns-in-Close-clause-open : goal.returns-in-Close-clause-open
returns-in-Close-clause-open g c = c.put_id-in-Close.ensures.open

pub returns-in-Close-clause-puts : goal.returns-in-Close-clause-puts
returns-in-Close-clause-puts g c =
    Puts-is (sym (ap (text_in c.args.terms.now) c.in-Close.is))
    (Puts-more (decimal c.in-Close.id) (codes ";") c.put-in-Close.ensures.puts c.put_id-in-Close.ensures.puts)
