use Rattle.std.proofs.Common.{◌∙◌}
use Rattle.poly_terms.specs.Laws.{extends_itself, extends_on, modulus_stays}
use Rattle.poly_text.proofs.FormSteps.{form_fails, form_taken}
use Rattle.poly_text.proofs.LineSteps.{no_product_factor, no_product_id, no_product_poly, no_product_text, product_line_taken}
use Rattle.poly_text.proofs.pac_reader.PacReader.multiple.Goals as goal

pub returns-in_err-text : goal.returns-in_err-text
returns-in_err-text c =
    form_fails c.from_residual.result c.in_err-text.field-0.0 c.from_residual.ensures.1 (extends_itself c.args.terms.now)
    (λ n. no_product_text n c.args.scanner.now) c.in_err-text.ensures.err

pub returns-in_err-i : goal.returns-in_err-i
returns-in_err-i c =
    form_fails c.from_residual-in_err-i.result c.in_err-i.field-0.0 c.from_residual-in_err-i.ensures.1 (extends_itself c.args.terms.now)
    (λ n. no_product_id n c.args.scanner.now c.text.new.self c.in_ok-text.ensures.ok) c.in_err-i.ensures.err

pub ended_poly-requires : goal.ended_poly-requires
ended_poly-requires c = c.requires

pub returns-in_err-factor : goal.returns-in_err-factor
returns-in_err-factor c =
    form_fails c.from_residual-in_err-factor.result c.in_err-factor.field-0.0 c.from_residual-in_err-factor.ensures.1 c.in_err-factor.ensures.extends
    (λ n. no_product_factor n c.in_ok-i.ensures.ok.read c.args.scanner.now c.text.new.self c.ended_id.new.scanner c.in_ok-text.ensures.ok c.in_ok-i.ensures.ok.taken) c.in_err-factor.ensures.err

pub ended_poly-requires-2 : goal.ended_poly-requires-2
ended_poly-requires-2 c = modulus_stays c.args.terms.now c.ended_poly.new.terms c.in_ok-factor.ensures.extends ∙ c.requires

pub returns-in_err-poly : goal.returns-in_err-poly
returns-in_err-poly c =
    form_fails c.from_residual-in_err-poly.result c.in_err-poly.field-0.0 c.from_residual-in_err-poly.ensures.1 (extends_on c.args.terms.now c.ended_poly.new.terms c.ended_poly-2.new.terms c.in_ok-factor.ensures.extends c.in_err-poly.ensures.extends)
    (λ n. no_product_poly n c.in_ok-i.ensures.ok.read c.in_ok-factor.ensures.ok.read c.args.scanner.now c.text.new.self c.ended_id.new.scanner c.ended_poly.new.scanner
    c.in_ok-text.ensures.ok c.in_ok-i.ensures.ok.taken c.in_ok-factor.ensures.ok.taken) c.in_err-poly.ensures.err

pub returns : goal.returns
returns c =
    form_taken c.product_line.result _ c.product_line.ensures (extends_on c.args.terms.now c.ended_poly.new.terms c.ended_poly-2.new.terms c.in_ok-factor.ensures.extends c.in_ok-poly.ensures.extends)
    (λ n g. product_line_taken c.ended_poly.new.terms c.ended_poly-2.new.terms c.args.self.now.max n c.args.scanner.now c.text.new.self c.ended_id.new.scanner c.ended_poly.new.scanner c.ended_poly-2.new.scanner c.args.id c.in_ok-i.i c.in_ok-factor.factor c.in_ok-poly.poly
    c.in_ok-poly.ensures.extends c.in_ok-text.ensures.ok g c.in_ok-i.ensures.ok c.in_ok-factor.ensures.ok c.in_ok-poly.ensures.ok)
