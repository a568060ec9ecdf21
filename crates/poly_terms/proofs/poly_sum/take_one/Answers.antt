use Rattle.std.proofs.Common.{◌<◌, ◌∷◌, ◌++◌, [], get_or, ap, ◌∙◌, arith}
use Rattle.poly_terms.proofs.PolySums.{taken_one}
use Rattle.poly_terms.proofs.Sparse.{some_within}
use Rattle.poly_terms.proofs.Ends.{not_done}
use Rattle.poly_terms.proofs.poly_sum.take_one.Goals as goal

pub returns-in_ok-push-clause-taken : goal.returns-in_ok-push-clause-taken
returns-in_ok-push-clause-taken c =
    let n = c.args.number in
    let old = c.args.coefficients.now in
    let ne0 = c.if-coefficient-ne0.true in
    let some : 0 < get_or old n 0 = omega (arith, c.at-coefficient.ensures, ne0) in
    taken_one old c.clear.new.self c.args.out.now.items c.push.new.self.items n c.at-coefficient.result c.at-coefficient.ensures some (some_within old n some)
    (c.in_ok-push.ensures.items ∙ ap (λ e. c.args.out.now.items ++ e ∷ []) c.new.ensures) c.clear.ensures

pub returns-in_err-push-clause-taken : goal.returns-in_err-push-clause-taken
returns-in_err-push-clause-taken c = not_done _ _ c.from_residual.result c.from_residual.ensures.1

pub returns-in_err-push-clause-gone : goal.returns-in_err-push-clause-gone
returns-in_err-push-clause-gone c = not_done _ _ c.from_residual.result c.from_residual.ensures.1
