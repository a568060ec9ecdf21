use Rattle.std.proofs.Common.{◌≡◌}
use Rattle.algebra_core.specs.Text.{IsId}
use Rattle.graph_core.specs.Text.Numerals.{number_at}
use Rattle.poly_text.proofs.Misfits.{ended_taken, misfit_passed, no_end, no_item, no_value}
use Rattle.poly_text.proofs.part_reading.ended_id.Goals as goal

pub returns-in_err-id-clause-ok : goal.returns-in_err-id-clause-ok
returns-in_err-id-clause-ok c = no_value c.from_residual.result _ c.in_err-id.field-0.0 c.from_residual.ensures.1

pub returns-in_err-id-clause-err : goal.returns-in_err-id-clause-err
returns-in_err-id-clause-err c =
    misfit_passed c.from_residual.result c.in_err-id.field-0.0 c.from_residual.ensures.1
    (no_item (number_at 15) c.args.end.now c.args.scanner.now) c.in_err-id.ensures.err

pub returns-in_err-text-clause-ok : goal.returns-in_err-text-clause-ok
returns-in_err-text-clause-ok c = no_value c.from_residual-in_err-text.result _ c.in_err-text.field-0.0 c.from_residual-in_err-text.ensures.1

pub returns-in_err-text-clause-err : goal.returns-in_err-text-clause-err
returns-in_err-text-clause-err c =
    misfit_passed c.from_residual-in_err-text.result c.in_err-text.field-0.0 c.from_residual-in_err-text.ensures.1
    (no_end (number_at 15) c.args.end.now c.in_ok-id.ensures.ok.read c.args.scanner.now c.id.new.scanner c.in_ok-id.ensures.ok.taken) c.in_err-text.ensures.err

pub returns-clause-ok : goal.returns-clause-ok
returns-clause-ok c =
    ended_taken (number_at 15) c.args.end.now IsId (λ n k. n ≡ k) c.args.scanner.now c.id.new.scanner c.text.new.self c.in_ok-id.id
    c.in_ok-id.ensures.ok c.in_ok-text.ensures.ok
