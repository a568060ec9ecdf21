use Rattle.std.proofs.Common.{◌∙◌}
use Rattle.poly_terms.specs.Laws.{extends_itself, extends_on, modulus_stays}
use Rattle.poly_text.proofs.FormSteps.{form_fails, form_taken}
use Rattle.poly_text.proofs.LineSteps.{combination_taken, no_combination_parts, no_combination_poly, no_combination_text}
use Rattle.poly_text.proofs.pac_reader.PacReader.combination.Goals as goal

pub returns-in_err-text : goal.returns-in_err-text
returns-in_err-text c =
    form_fails c.from_residual.result c.in_err-text.field-0.0 c.from_residual.ensures.1 (extends_itself c.args.terms.now)
    (λ n. no_combination_text n c.args.scanner.now) c.in_err-text.ensures.err

pub ended_parts-requires : goal.ended_parts-requires
ended_parts-requires c = c.requires

pub returns-in_err-parts : goal.returns-in_err-parts
returns-in_err-parts c =
    form_fails c.from_residual-in_err-parts.result c.in_err-parts.field-0.0 c.from_residual-in_err-parts.ensures.1 c.in_err-parts.ensures.extends
    (λ n. no_combination_parts n c.args.scanner.now c.text.new.self c.in_ok-text.ensures.ok) c.in_err-parts.ensures.err

pub ended_poly-requires : goal.ended_poly-requires
ended_poly-requires c = modulus_stays c.args.terms.now c.ended_parts.new.terms c.in_ok-parts.ensures.extends ∙ c.requires

pub returns-in_err-poly : goal.returns-in_err-poly
returns-in_err-poly c =
    form_fails c.from_residual-in_err-poly.result c.in_err-poly.field-0.0 c.from_residual-in_err-poly.ensures.1 (extends_on c.args.terms.now c.ended_parts.new.terms c.ended_poly.new.terms c.in_ok-parts.ensures.extends c.in_err-poly.ensures.extends)
    (λ n. no_combination_poly n c.in_ok-parts.ensures.ok.read c.args.scanner.now c.text.new.self c.ended_parts.new.scanner c.in_ok-text.ensures.ok c.in_ok-parts.ensures.ok.taken) c.in_err-poly.ensures.err

pub returns : goal.returns
returns c =
    form_taken c.combination_line.result _ c.combination_line.ensures (extends_on c.args.terms.now c.ended_parts.new.terms c.ended_poly.new.terms c.in_ok-parts.ensures.extends c.in_ok-poly.ensures.extends)
    (λ n g. combination_taken c.ended_parts.new.terms c.ended_poly.new.terms c.args.self.now.max n c.args.scanner.now c.text.new.self c.ended_parts.new.scanner c.ended_poly.new.scanner c.args.id c.in_ok-parts.parts c.in_ok-poly.poly
    c.in_ok-poly.ensures.extends c.in_ok-text.ensures.ok g c.in_ok-parts.ensures.ok c.in_ok-poly.ensures.ok)
