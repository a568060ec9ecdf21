use Rattle.poly_text.proofs.Misfits.{misfit_passed, no_value}
use Rattle.poly_text.proofs.numbers.variable.Goals as goal

pub returns-in_err-variable-clause-ok : goal.returns-in_err-variable-clause-ok
returns-in_err-variable-clause-ok c = no_value c.from_residual.result _ c.in_err-variable.field-0.0 c.from_residual.ensures.1

pub returns-in_err-variable-clause-err : goal.returns-in_err-variable-clause-err
returns-in_err-variable-clause-err c =
    misfit_passed c.from_residual.result c.in_err-variable.field-0.0 c.from_residual.ensures.1 (λ e. e) c.in_err-variable.ensures.err
