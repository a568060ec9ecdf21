use Rattle.std.proofs.Common.{◌+◌, ◌==◌, ◌∙◌, sym, subst, drop, map, get_or}
use Rattle.poly_terms.specs.Tables.{modulus_in, monomials_in}
use Rattle.poly_text.specs.WrittenLines.{poly_text, signed_term, term_text, terms_text, zero_term}
use Rattle.poly_text.proofs.WrittenTerms.{next_term, no_term, no_term_left, some_terms}
use Rattle.pair_limits.proofs.Behind.{TakesUpTo, text_is, up_to_all, up_to_more, up_to_none}
use Rattle.pair_limits.proofs.polynomials.put_poly.Goals as goal

pub returns-then-size-eq0 : goal.returns-then-size-eq0
returns-then-size-eq0 c = text_is (sym (no_term (modulus_in c.args.terms.now) (monomials_in c.args.terms.now c.args.poly.now) (sym c.size-size.ensures.monomials ∙ c.if-size-eq0.true))) c.put.ensures

pub loop-i-init : goal.loop-i-init
loop-i-init c =
    let m = modulus_in c.args.terms.now in
    let ts = monomials_in c.args.terms.now c.args.poly.now in
    let r = c.args.room.now in
    subst (λ rest. TakesUpTo (poly_text m ts) rest r r) (some_terms m ts (λ e. c.if-size-eq0.false (c.size-size.ensures.monomials ∙ e))) (up_to_none (poly_text m ts) r)

pub put_term-requires-clause-place : goal.put_term-requires-clause-place
put_term-requires-clause-place c = rw (← c.size-size.ensures.monomials) c.loop-i-test.true

pub loop-i-preserved : goal.loop-i-preserved
loop-i-preserved c =
    let i = c.loop-i.i in
    let t = c.args.terms.now in
    let ts = monomials_in t c.args.poly.now in
    up_to_more (term_text (i == 0) (signed_term (modulus_in t) (get_or ts i zero_term))) (terms_text (i + 1 == 0) (map (signed_term (modulus_in t)) (drop (i + 1) ts)))
    (next_term (modulus_in t) ts i (rw (← c.size-size.ensures.monomials) c.loop-i-test.true)) c.loop-i.invariant c.put_term.ensures

pub returns : goal.returns
returns c =
    let t = c.args.terms.now in
    let ts = monomials_in t c.args.poly.now in
    up_to_all (no_term_left (modulus_in t) (c.loop-i.i == 0) ts c.loop-i.i (rw (← c.size-size.ensures.monomials) c.loop-i-test.false)) c.loop-i.invariant
