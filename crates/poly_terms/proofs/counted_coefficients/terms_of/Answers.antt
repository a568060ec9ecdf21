use Rattle.std.proofs.Common.{◌<◌, ◌≤◌, [], ◌∷◌, ◌++◌, get_or, length, take, ap, sym, ◌∙◌, arith}
use Rattle.std.proofs.lemmas.List.{length-take-le, take_more, take_all}
use Rattle.poly_terms.specs.Indexed.{terms_from}
use Rattle.poly_terms.proofs.Sparse.{terms-push}
use Rattle.poly_terms.proofs.Ends.{not_given}
use Rattle.poly_terms.proofs.counted_coefficients.terms_of.Goals as goal

pub loop-number-preserved : goal.loop-number-preserved
loop-number-preserved c =
    let cs = c.args.coefficients.now in
    let i = c.loop-number.number in
    let low : i < length cs = omega (arith, c.loop-number-test.true, c.len-number-end.ensures) in
    c.in_ok-push_term.ensures ∙ ap (λ n. c.loop-number.out.items ++ terms_from i (n ∷ [])) c.at.ensures ∙ ap (λ es. es ++ terms_from i (get_or cs i 0 ∷ [])) c.loop-number.invariant ∙
    sym (ap (terms_from 0) (take_more cs i 0 low) ∙ terms-push (take i cs) i (get_or cs i 0) (length-take-le i cs (omega (arith, low))))

pub returns-in_err-push_term : goal.returns-in_err-push_term
returns-in_err-push_term c = not_given _ _ c.from_residual.result c.from_residual.ensures.1

pub returns : goal.returns
returns c =
    let cs = c.args.coefficients.now in
    let all : length cs ≤ c.loop-number.number = omega (arith, c.loop-number-test.false, c.len-number-end.ensures) in
    c.loop-number.invariant ∙ ap (terms_from 0) (take_all c.loop-number.number cs all)
