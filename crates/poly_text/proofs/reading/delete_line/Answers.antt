use Rattle.std.proofs.Common.{◌≡◌, refl, subst}
use Rattle.algebra_core.specs.Text.{IsId}
use Rattle.mv_text.specs.Steps.{Gives}
use Rattle.poly_terms.specs.Laws.{extends_itself}
use Rattle.poly_text.proofs.FormSteps.{form_fails, form_taken}
use Rattle.poly_text.proofs.LineSteps.{drop_none, drop_some, no_drop_text}
use Rattle.poly_text.proofs.reading.delete_line.Goals as goal

pub returns-in_err-text : goal.returns-in_err-text
returns-in_err-text c t max =
    form_fails c.from_residual.result c.in_err-text.field-0.0 c.from_residual.ensures.1 (extends_itself t)
    (λ n. no_drop_text n c.args.scanner.now) c.in_err-text.ensures.err

pub returns-in-Some : goal.returns-in-Some
returns-in-Some c t max =
    form_taken _ _ refl (extends_itself t)
    (λ n g. drop_some t max n c.in-Some.id c.args.scanner.now c.text.new.self c.in_ok-text.ensures.ok (subst (Gives IsId (λ n k. n ≡ k) n) c.in-Some.is g))

pub returns-in-None : goal.returns-in-None
returns-in-None c t max =
    form_taken _ _ refl (extends_itself t)
    (λ n g. drop_none t max n c.args.scanner.now c.text.new.self c.in_ok-text.ensures.ok (subst (Gives IsId (λ n k. n ≡ k) n) c.in-None.is g))
