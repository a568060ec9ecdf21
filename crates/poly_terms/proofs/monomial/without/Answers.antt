use Rattle.std.proofs.Common.{ap, ◌∙◌}
use Rattle.std.proofs.lemmas.List.{take_all}
use Rattle.poly_terms.specs.Monomials.{without_variable}
use Rattle.poly_terms.proofs.Ends.{not_given}
use Rattle.poly_terms.proofs.monomial.without.Goals as goal

pub returns-in_err-rest : goal.returns-in_err-rest
returns-in_err-rest c = not_given _ _ c.from_residual.result c.from_residual.ensures.1

pub returns : goal.returns
returns c = c.loop-u.invariant.rest ∙ ap (without_variable c.args.v) (take_all c.loop-u.u-index c.args.variables.now c.loop-u-test.false)
