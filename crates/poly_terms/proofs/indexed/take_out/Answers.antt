use Rattle.poly_terms.proofs.Ends.{not_done, not_given}
use Rattle.std.proofs.Common.{arith}
use Rattle.poly_terms.proofs.indexed.take_out.Goals as goal

pub returns-in_err-take_one-clause-taken : goal.returns-in_err-take_one-clause-taken
returns-in_err-take_one-clause-taken c = not_given _ _ c.from_residual.result c.from_residual.ensures.1

pub returns-in_err-take_one-clause-gone : goal.returns-in_err-take_one-clause-gone
returns-in_err-take_one-clause-gone c = not_done _ _ c.from_residual.result c.from_residual.ensures.1

pub returns-clause-taken : goal.returns-clause-taken
returns-clause-taken c = c.loop-place.invariant.taken

pub returns-clause-gone : goal.returns-clause-gone
returns-clause-gone c k h = c.loop-place.invariant.gone k (omega (arith, h, c.loop-place-test.false))
