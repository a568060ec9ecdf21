use Rattle.std.proofs.Common.{◌*◌, ◌%◌, ◌^◌, ◌+◌, ◌++◌, ◌∷◌, [], take, sym, ap, subst, ◌∙◌}
use Rattle.poly_terms.specs.Entries.{IsMultiple}
use Rattle.poly_terms.proofs.Scaled.{multiple_on}
use Rattle.poly_terms.proofs.Ends.{not_given}
use Rattle.std.proofs.lemmas.List.{take_all}
use Rattle.poly_terms.proofs.scaling.multiples.Goals as goal

pub loop-entry-preserved : goal.loop-entry-preserved
loop-entry-preserved c =
    let m = 2 ^ c.args.exponent in
    let by = c.args.by in
    let es = c.args.entries.now in
    let i = c.loop-entry.entry-index in
    let out = c.loop-entry.out.items in
    subst (IsMultiple m by (take (i + 1) es)) (sym (c.in_ok-push.ensures.items ∙ ap (λ x. out ++ x ∷ []) c.with_coefficient.ensures))
    (multiple_on m by es out i c.entry-item.result c.product-coefficient.result c.loop-entry-test.true c.entry-item.is
    (c.product-coefficient.ensures ∙ ap (λ n. (by * n) % m) c.coefficient.ensures) c.loop-entry.invariant)

pub returns-in_err-out : goal.returns-in_err-out
returns-in_err-out c = not_given _ _ c.from_residual.result c.from_residual.ensures.1

pub returns-in_err-push : goal.returns-in_err-push
returns-in_err-push c = not_given _ _ c.from_residual-in_err-push.result c.from_residual-in_err-push.ensures.1

pub returns : goal.returns
returns c =
    subst (λ es. IsMultiple (2 ^ c.args.exponent) c.args.by es c.loop-entry.out.items) (take_all c.loop-entry.entry-index c.args.entries.now c.loop-entry-test.false) c.loop-entry.invariant
