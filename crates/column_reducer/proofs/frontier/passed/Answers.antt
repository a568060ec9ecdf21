use Rattle.std.proofs.Common.{arith}
use Rattle.algebra_core.proofs.CallerLemmas.{size_is_one}
use Rattle.poly_terms.specs.Tables.{modulus_in, value_in}
use Rattle.column_reducer.proofs.frontier.passed.Goals as goal

pub returns-then-size-budget-clause-within : goal.returns-then-size-budget-clause-within
returns-then-size-budget-clause-within c is low n has =
    let one = size_is_one (modulus_in c.args.terms.now) (value_in c.args.terms.now c.args.rest.now.sum) c.size-size.result n (c.size-size.ensures.size c.args.terms.now c.requires.of) has in
    omega (arith, c.if-size-budget.true)
