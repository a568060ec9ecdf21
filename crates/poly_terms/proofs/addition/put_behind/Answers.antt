use Rattle.poly_terms.proofs.Ends.{not_done}
use Rattle.poly_terms.proofs.addition.put_behind.Goals as goal

pub returns-in_err-push : goal.returns-in_err-push
returns-in_err-push c = not_done _ _ c.from_residual.result c.from_residual.ensures.1
