use Rattle.algebra_core.specs.Reading.{poly_at}
use Rattle.algebra_core.specs.Text.{IsInRange}
use Rattle.poly_text.specs.Values.{IsPolyOf}
use Rattle.poly_text.proofs.Misfits.{ended_taken, misfit_passed, no_end, no_item, no_value}
use Rattle.poly_text.proofs.pac_reader.PacReader.ended_poly.Goals as goal

pub poly-requires : goal.poly-requires
poly-requires c = c.requires

pub returns-in_err-poly-clause-ok : goal.returns-in_err-poly-clause-ok
returns-in_err-poly-clause-ok c = no_value c.from_residual.result _ c.in_err-poly.field-0.0 c.from_residual.ensures.1

pub returns-in_err-poly-clause-err : goal.returns-in_err-poly-clause-err
returns-in_err-poly-clause-err c =
    misfit_passed c.from_residual.result c.in_err-poly.field-0.0 c.from_residual.ensures.1
    (no_item poly_at c.args.end.now c.args.scanner.now) c.in_err-poly.ensures.err

pub returns-in_err-poly-clause-extends : goal.returns-in_err-poly-clause-extends
returns-in_err-poly-clause-extends c = c.in_err-poly.ensures.extends

pub returns-in_err-text-clause-ok : goal.returns-in_err-text-clause-ok
returns-in_err-text-clause-ok c = no_value c.from_residual-in_err-text.result _ c.in_err-text.field-0.0 c.from_residual-in_err-text.ensures.1

pub returns-in_err-text-clause-err : goal.returns-in_err-text-clause-err
returns-in_err-text-clause-err c =
    misfit_passed c.from_residual-in_err-text.result c.in_err-text.field-0.0 c.from_residual-in_err-text.ensures.1
    (no_end poly_at c.args.end.now c.in_ok-poly.ensures.ok.read c.args.scanner.now c.poly.new.scanner c.in_ok-poly.ensures.ok.taken) c.in_err-text.ensures.err

pub returns-in_err-text-clause-extends : goal.returns-in_err-text-clause-extends
returns-in_err-text-clause-extends c = c.in_ok-poly.ensures.extends

pub returns-clause-ok : goal.returns-clause-ok
returns-clause-ok c =
    ended_taken poly_at c.args.end.now (IsInRange c.args.self.now.max) (IsPolyOf c.poly.new.terms)
    c.args.scanner.now c.poly.new.scanner c.text.new.self c.in_ok-poly.poly
    c.in_ok-poly.ensures.ok c.in_ok-text.ensures.ok

pub returns-clause-extends : goal.returns-clause-extends
returns-clause-extends c = c.in_ok-poly.ensures.extends
