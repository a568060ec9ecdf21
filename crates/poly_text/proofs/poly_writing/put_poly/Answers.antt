use Rattle.std.proofs.Common.{◌+◌, ◌==◌, ◌∙◌, lit≤, sym, subst, drop, map, get_or}
use Rattle.poly_terms.specs.Tables.{modulus_in, monomials_in}
use Rattle.poly_text.specs.WrittenLines.{poly_text, signed_term, term_text, terms_text, zero_term}
use Rattle.mv_text.proofs.CallerLemmas.{PutsUpTo, Puts-is, up_to_all, up_to_none, up_to_more}
use Rattle.poly_text.proofs.WrittenTerms.{next_term, no_term, no_term_left, some_terms}
use Rattle.poly_text.proofs.poly_writing.put_poly.Goals as goal

pub put-requires-clause-open : goal.put-requires-clause-open
put-requires-clause-open g c = c.requires.open

pub put-requires-clause-fits : goal.put-requires-clause-fits
put-requires-clause-fits g c = lit≤ tt

pub returns-then-size-eq0-clause-open : goal.returns-then-size-eq0-clause-open
returns-then-size-eq0-clause-open g c = c.put.ensures.open

pub returns-then-size-eq0-clause-puts : goal.returns-then-size-eq0-clause-puts
returns-then-size-eq0-clause-puts g c = Puts-is (sym (no_term (modulus_in c.args.terms.now) (monomials_in c.args.terms.now c.args.poly.now) (sym c.size-size.ensures.monomials ∙ c.if-size-eq0.true))) c.put.ensures.puts

pub loop-i-init : goal.loop-i-init
loop-i-init g c =
    let m = modulus_in c.args.terms.now in
    let ts = monomials_in c.args.terms.now c.args.poly.now in
    let v = g.D.Desk.seen c.args.desk.now in
    record {
      «open» = c.requires.open;
      puts = subst (λ rest. PutsUpTo (poly_text m ts) rest c.args.output.now c.args.output.now v v) (some_terms m ts (λ e. c.if-size-eq0.false (c.size-size.ensures.monomials ∙ e))) (up_to_none (poly_text m ts) c.args.output.now v);
    }

pub put_term-requires-clause-open : goal.put_term-requires-clause-open
put_term-requires-clause-open g c = c.loop-i.invariant.open

pub put_term-requires-clause-of : goal.put_term-requires-clause-of
put_term-requires-clause-of g c = c.requires.of

pub put_term-requires-clause-place : goal.put_term-requires-clause-place
put_term-requires-clause-place g c = rw (← c.size-size.ensures.monomials) c.loop-i-test.true

pub loop-i-preserved : goal.loop-i-preserved
loop-i-preserved g c =
    let i = c.loop-i.i in
    let t = c.args.terms.now in
    let ts = monomials_in t c.args.poly.now in
    record {
      «open» = c.put_term.ensures.open;
      puts = up_to_more (term_text (i == 0) (signed_term (modulus_in t) (get_or ts i zero_term))) (terms_text (i + 1 == 0) (map (signed_term (modulus_in t)) (drop (i + 1) ts)))
          (next_term (modulus_in t) ts i (rw (← c.size-size.ensures.monomials) c.loop-i-test.true)) c.loop-i.invariant.puts c.put_term.ensures.puts;
    }

pub returns-clause-open : goal.returns-clause-open
returns-clause-open g c = c.loop-i.invariant.open

pub returns-clause-puts : goal.returns-clause-puts
returns-clause-puts g c =
    let t = c.args.terms.now in
    let ts = monomials_in t c.args.poly.now in
    up_to_all (no_term_left (modulus_in t) (c.loop-i.i == 0) ts c.loop-i.i (rw (← c.size-size.ensures.monomials) c.loop-i-test.false)) c.loop-i.invariant.puts
