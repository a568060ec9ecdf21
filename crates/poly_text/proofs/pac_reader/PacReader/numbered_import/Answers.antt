use Rattle.poly_terms.specs.Laws.{extends_itself}
use Rattle.poly_text.proofs.FormSteps.{form_fails, form_taken}
use Rattle.poly_text.proofs.LineSteps.{import_taken, no_import_number, no_import_poly, no_import_text}
use Rattle.poly_text.proofs.pac_reader.PacReader.numbered_import.Goals as goal

pub returns-in_err-text : goal.returns-in_err-text
returns-in_err-text c =
    form_fails c.from_residual.result c.in_err-text.field-0.0 c.from_residual.ensures.1 (extends_itself c.args.terms.now)
    (λ n. no_import_text n c.args.scanner.now) c.in_err-text.ensures.err

pub returns-in_err-clause : goal.returns-in_err-clause
returns-in_err-clause c =
    form_fails c.from_residual-in_err-clause.result c.in_err-clause.field-0.0 c.from_residual-in_err-clause.ensures.1 (extends_itself c.args.terms.now)
    (λ n. no_import_number n c.args.scanner.now c.text.new.self c.in_ok-text.ensures.ok) c.in_err-clause.ensures.err

pub ended_poly-requires : goal.ended_poly-requires
ended_poly-requires c = c.requires

pub returns-in_err-poly : goal.returns-in_err-poly
returns-in_err-poly c =
    form_fails c.from_residual-in_err-poly.result c.in_err-poly.field-0.0 c.from_residual-in_err-poly.ensures.1 c.in_err-poly.ensures.extends
    (λ n. no_import_poly n c.in_ok-clause.ensures.ok.read c.args.scanner.now c.text.new.self c.ended_id.new.scanner c.in_ok-text.ensures.ok c.in_ok-clause.ensures.ok.taken) c.in_err-poly.ensures.err

pub returns : goal.returns
returns c =
    form_taken c.import_line.result _ c.import_line.ensures c.in_ok-poly.ensures.extends
    (λ n g. import_taken c.ended_poly.new.terms c.args.self.now.max n c.args.scanner.now c.text.new.self c.ended_id.new.scanner c.ended_poly.new.scanner c.args.id c.in_ok-clause.clause c.in_ok-poly.poly
    c.in_ok-text.ensures.ok g c.in_ok-clause.ensures.ok c.in_ok-poly.ensures.ok)
