use Rattle.std.proofs.Common.{ap, rules, w32, SFits, ◌∙◌}
use Rattle.std.proofs.lemmas.Int.{to_z-of_z}
use Rattle.gate_axioms.specs.ClauseValues.{opposite}
use Rattle.gate_axioms.proofs.ClauseProducts.{literal_joins}
use Rattle.gate_axioms.proofs.clauses.with_literal.Goals as goal

pub returns-clause-value : goal.returns-clause-value
returns-clause-value c σ =
    let fits : SFits w32 c.args.lit = search rules in
    literal_joins c.args.terms.now c.literal_poly.new.terms c.args.product.now c.in_ok-factor.factor c.args.lit c.opposite.result _ σ
    c.in_ok-factor.ensures.extends c.requires.product (c.opposite.ensures ∙ ap opposite (to_z-of_z w32 c.args.lit fits)) c.in_ok-factor.ensures.value (c.in_ok-poly.ensures.value σ)
