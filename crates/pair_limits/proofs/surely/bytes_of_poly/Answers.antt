use Rattle.std.proofs.Common.{ℕ, ◌≡◌, ◌≤◌, ◌<◌, ◌+◌, ◌^◌, ◌==◌, ◌∙◌, arith, ap, subst, pow_mono, length-append, drop, get_or, length, map}
use Rattle.poly_terms.specs.Tables.{modulus_in, monomials_in}
use Rattle.poly_text.specs.WrittenLines.{signed_term, term_text, terms_text, zero_term}
use Rattle.poly_text.proofs.WrittenTerms.{next_term, normal_here, variables_here}
use Rattle.pair_limits.proofs.Lengths.{poly_begins, term_short, written_small}
use Rattle.pair_limits.proofs.surely.bytes_of_poly.Goals as goal

pub loop-i-init : goal.loop-i-init
loop-i-init c = poly_begins (modulus_in c.args.terms.now) (monomials_in c.args.terms.now c.args.poly.now)

pub loop-i-preserved : goal.loop-i-preserved
loop-i-preserved c =
    let i = c.loop-i.i in
    let t = c.args.terms.now in
    let p = c.args.poly.now in
    let m = modulus_in t in
    let ts = monomials_in t p in
    let here = get_or ts i zero_term in
    let early : i < length ts = rw (← c.size-size.ensures.monomials) c.loop-i-test.true in
    let narrow : t.exponent ≤ 128 = rw (← c.exponent-width.ensures.exponent) c.exponent-width.ensures.in_range.1 in
    let width : m ≤ 2 ^ 128 = pow_mono narrow in
    let same = variables_here t p c.requires i early c.vars.result.now c.vars.ensures in
    let words : (k : ℕ) → get_or here.variables k 0 < 2 ^ 32 = subst (λ vs. (k : ℕ) → get_or vs k 0 < 2 ^ 32) same c.bytes_of_term.ensures.words in
    let term = term_short (i == 0) (signed_term m here) (written_small m here width (normal_here t p c.requires i early).2) words in
    let later = terms_text (i + 1 == 0) (map (signed_term m) (drop (i + 1) ts)) in
    let text = term_text (i == 0) (signed_term m here) in
    let whole : length (terms_text (i == 0) (map (signed_term m) (drop i ts))) ≡ length text + length later = ap length (next_term m ts i early) ∙ length-append text later in
    omega (arith, c.loop-i.invariant, whole, term, ap length same, c.in_ok-more.ensures, c.in_ok-bytes.ensures)
