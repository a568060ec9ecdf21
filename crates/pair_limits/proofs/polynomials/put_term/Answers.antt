use Rattle.std.proofs.Common.{◌≡◌, ◌^◌, ◌*◌, ◌==◌, ◌∙◌, ap, ap₂, get_or, nat_lt}
use Rattle.poly_terms.specs.Tables.{modulus_in, monomials_in}
use Rattle.poly_text.specs.WrittenLines.{lesser_of, product_text, sign_text, zero_term}
use Rattle.poly_text.proofs.WrittenTerms.{normal_here, coefficient_here, variables_here}
use Rattle.pair_limits.proofs.Behind.{text_is, text_then}
use Rattle.pair_limits.proofs.polynomials.put_term.Goals as goal

pub signed-negative-requires-clause-some : goal.signed-negative-requires-clause-some
signed-negative-requires-clause-some c =
    let t = c.args.terms.now in
    let p = c.args.poly.now in
    rw (coefficient_here t p c.requires.of c.args.i c.requires.place c.coefficient.result c.coefficient.ensures) (normal_here t p c.requires.of c.args.i c.requires.place).1

pub signed-negative-requires-clause-below : goal.signed-negative-requires-clause-below
signed-negative-requires-clause-below c =
    let t = c.args.terms.now in
    let p = c.args.poly.now in
    rw (coefficient_here t p c.requires.of c.args.i c.requires.place c.coefficient.result c.coefficient.ensures, c.exponent.ensures.exponent) (normal_here t p c.requires.of c.args.i c.requires.place).2

pub returns : goal.returns
returns c =
    let t = c.args.terms.now in
    let p = c.args.poly.now in
    let term = get_or (monomials_in t p) c.args.i zero_term in
    let coefficient = coefficient_here t p c.requires.of c.args.i c.requires.place c.coefficient.result c.coefficient.ensures in
    let variables = variables_here t p c.requires.of c.args.i c.requires.place c.vars.result.now c.vars.ensures in
    let m : 2 ^ c.exponent.result ≡ modulus_in t = ap (λ w. 2 ^ w) c.exponent.ensures.exponent in
    let sign = c.signed-negative.ensures.sign ∙ ap₂ (λ k n. nat_lt k (2 * n)) m coefficient in
    let lesser = c.signed-negative.ensures.lesser ∙ ap₂ lesser_of m coefficient in
    text_then (text_is (c.sign.ensures ∙ ap (sign_text (c.args.i == 0)) sign) c.put.ensures)
    (text_is (ap₂ product_text lesser variables) c.put_product.ensures)
