use Rattle.std.proofs.Common.{◌^◌, ap, ◌∙◌}
use Rattle.poly_terms.specs.Laws.{modulus_stays}
use Rattle.poly_terms.specs.Tables.{value_in}
use Rattle.column_reducer.proofs.Walks.{rest_renewed}
use Rattle.column_reducer.proofs.frontier_walk.renew.Goals as goal

pub returns : goal.returns
returns c e s f h =
    let t0 = c.args.terms.now in
    rest_renewed e s t0 c.brought.new.new f c.args.rest.now c.in_ok-rest.field-0
    (modulus_stays c.new-new.result c.brought.new.new c.in_ok-rest.ensures.extends ∙ ap (λ w. 2 ^ w) (c.new-new.ensures ∙ c.exponent.ensures.exponent)) c.in_ok-rest.ensures.of c.in_ok-rest.ensures.indexed
    (λ σ. c.in_ok-rest.ensures.value σ ∙ ap (λ p. value_in t0 p σ) c.in_ok-poly.ensures) h
