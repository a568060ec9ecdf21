use Rattle.std.specs.Prelude.{take}
use Rattle.std.proofs.Common.{◌^◌, ap, ◌∙◌}
use Rattle.poly_terms.specs.Laws.{modulus_stays}
use Rattle.poly_terms.specs.Tables.{value_in}
use Rattle.frontier_core.specs.Plan.{nothing, taken}
use Rattle.column_reducer.proofs.Walks.{rest_renewed}
use Rattle.column_reducer.proofs.frontier_walk.first_passed.Goals as goal

pub passed_from-requires-clause-rest : goal.passed_from-requires-clause-rest
passed_from-requires-clause-rest c =
    let p = c.args.plan.now in
    let t0 = c.args.terms.now in
    rest_renewed p.extended c.args.operands.now t0 c.brought.new.new (taken nothing (take c.args.from p.steps)) c.args.rest.now c.in_ok-alone.alone
    (modulus_stays c.new-own.result c.brought.new.new c.in_ok-alone.ensures.extends ∙ ap (λ w. 2 ^ w) (c.new-own.ensures ∙ c.exponent.ensures.exponent)) c.in_ok-alone.ensures.of c.in_ok-alone.ensures.indexed
    (λ σ. c.in_ok-alone.ensures.value σ ∙ ap (λ q. value_in t0 q σ) c.in_ok-poly.ensures) c.requires.rest
