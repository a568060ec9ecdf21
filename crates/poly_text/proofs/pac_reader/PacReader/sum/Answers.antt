use Rattle.poly_terms.specs.Laws.{extends_itself}
use Rattle.poly_text.proofs.FormSteps.{form_fails, form_taken}
use Rattle.poly_text.proofs.LineSteps.{no_sum_first, no_sum_poly, no_sum_second, no_sum_text, sum_taken}
use Rattle.poly_text.proofs.pac_reader.PacReader.sum.Goals as goal

pub returns-in_err-text : goal.returns-in_err-text
returns-in_err-text c =
    form_fails c.from_residual.result c.in_err-text.field-0.0 c.from_residual.ensures.1 (extends_itself c.args.terms.now)
    (λ n. no_sum_text n c.args.scanner.now) c.in_err-text.ensures.err

pub returns-in_err-i : goal.returns-in_err-i
returns-in_err-i c =
    form_fails c.from_residual-in_err-i.result c.in_err-i.field-0.0 c.from_residual-in_err-i.ensures.1 (extends_itself c.args.terms.now)
    (λ n. no_sum_first n c.args.scanner.now c.text.new.self c.in_ok-text.ensures.ok) c.in_err-i.ensures.err

pub returns-in_err-j : goal.returns-in_err-j
returns-in_err-j c =
    form_fails c.from_residual-in_err-j.result c.in_err-j.field-0.0 c.from_residual-in_err-j.ensures.1 (extends_itself c.args.terms.now)
    (λ n. no_sum_second n c.in_ok-i.ensures.ok.read c.args.scanner.now c.text.new.self c.ended_id.new.scanner c.in_ok-text.ensures.ok c.in_ok-i.ensures.ok.taken) c.in_err-j.ensures.err

pub ended_poly-requires : goal.ended_poly-requires
ended_poly-requires c = c.requires

pub returns-in_err-poly : goal.returns-in_err-poly
returns-in_err-poly c =
    form_fails c.from_residual-in_err-poly.result c.in_err-poly.field-0.0 c.from_residual-in_err-poly.ensures.1 c.in_err-poly.ensures.extends
    (λ n. no_sum_poly n c.in_ok-i.ensures.ok.read c.in_ok-j.ensures.ok.read c.args.scanner.now c.text.new.self c.ended_id.new.scanner c.ended_id-2.new.scanner
    c.in_ok-text.ensures.ok c.in_ok-i.ensures.ok.taken c.in_ok-j.ensures.ok.taken) c.in_err-poly.ensures.err

pub returns : goal.returns
returns c =
    form_taken c.sum_line.result _ c.sum_line.ensures c.in_ok-poly.ensures.extends
    (λ n g. sum_taken c.ended_poly.new.terms c.args.self.now.max n c.args.scanner.now c.text.new.self c.ended_id.new.scanner c.ended_id-2.new.scanner c.ended_poly.new.scanner c.args.id c.in_ok-i.i c.in_ok-j.j c.in_ok-poly.poly
    c.in_ok-text.ensures.ok g c.in_ok-i.ensures.ok c.in_ok-j.ensures.ok c.in_ok-poly.ensures.ok)
