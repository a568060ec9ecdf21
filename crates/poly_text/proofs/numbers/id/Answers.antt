use Rattle.poly_text.proofs.Misfits.{misfit_passed, no_value}
use Rattle.poly_text.proofs.numbers.id.Goals as goal

pub returns-in_err-id-clause-ok : goal.returns-in_err-id-clause-ok
returns-in_err-id-clause-ok c = no_value c.from_residual.result _ c.in_err-id.field-0.0 c.from_residual.ensures.1

pub returns-in_err-id-clause-err : goal.returns-in_err-id-clause-err
returns-in_err-id-clause-err c = misfit_passed c.from_residual.result c.in_err-id.field-0.0 c.from_residual.ensures.1 (λ e. e) c.in_err-id.ensures.err
