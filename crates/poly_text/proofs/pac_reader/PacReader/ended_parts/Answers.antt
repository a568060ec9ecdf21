use Rattle.std.proofs.Common.{codes}
use Rattle.std.specs.List.{All}
use Rattle.algebra_core.specs.Reading.{parts_at}
use Rattle.poly_text.specs.Values.{AreAllParts, IsPartInRange}
use Rattle.poly_text.proofs.Misfits.{ended_taken, misfit_passed, no_end, no_item, no_value}
use Rattle.poly_text.proofs.pac_reader.PacReader.ended_parts.Goals as goal

pub parts-requires : goal.parts-requires
parts-requires c = c.requires

pub returns-in_err-parts-clause-ok : goal.returns-in_err-parts-clause-ok
returns-in_err-parts-clause-ok c = no_value c.from_residual.result _ c.in_err-parts.field-0.0 c.from_residual.ensures.1

pub returns-in_err-parts-clause-err : goal.returns-in_err-parts-clause-err
returns-in_err-parts-clause-err c =
    misfit_passed c.from_residual.result c.in_err-parts.field-0.0 c.from_residual.ensures.1
    (no_item parts_at (codes ", ") c.args.scanner.now) c.in_err-parts.ensures.err

pub returns-in_err-parts-clause-extends : goal.returns-in_err-parts-clause-extends
returns-in_err-parts-clause-extends c = c.in_err-parts.ensures.extends

pub returns-in_err-text-clause-ok : goal.returns-in_err-text-clause-ok
returns-in_err-text-clause-ok c = no_value c.from_residual-in_err-text.result _ c.in_err-text.field-0.0 c.from_residual-in_err-text.ensures.1

pub returns-in_err-text-clause-err : goal.returns-in_err-text-clause-err
returns-in_err-text-clause-err c =
    misfit_passed c.from_residual-in_err-text.result c.in_err-text.field-0.0 c.from_residual-in_err-text.ensures.1
    (no_end parts_at (codes ", ") c.in_ok-parts.ensures.ok.read c.args.scanner.now c.parts.new.scanner c.in_ok-parts.ensures.ok.taken) c.in_err-text.ensures.err

pub returns-in_err-text-clause-extends : goal.returns-in_err-text-clause-extends
returns-in_err-text-clause-extends c = c.in_ok-parts.ensures.extends

pub returns-clause-ok : goal.returns-clause-ok
returns-clause-ok c =
    ended_taken parts_at (codes ", ") (All (IsPartInRange c.args.self.now.max)) (AreAllParts c.parts.new.terms)
    c.args.scanner.now c.parts.new.scanner c.text.new.self c.in_ok-parts.parts
    c.in_ok-parts.ensures.ok c.in_ok-text.ensures.ok

pub returns-clause-extends : goal.returns-clause-extends
returns-clause-extends c = c.in_ok-parts.ensures.extends
