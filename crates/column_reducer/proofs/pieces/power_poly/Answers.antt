use Rattle.std.proofs.lemmas.Result.{IfOk-weaker}
use Rattle.std.specs.Prelude.{◌≡◌, ◌^◌, ◌≤◌}
use Rattle.std.proofs.Common.{subst, ◌∙◌}
use Rattle.graph_core.specs.Graph.Assignments.{Assignment}
use Rattle.poly_terms.specs.Tables.{value_in}
use Rattle.column_reducer.proofs.PieceValues.{power_small}
use Rattle.column_reducer.proofs.pieces.power_poly.Goals as goal

pub returns-clause-value : goal.returns-clause-value
returns-clause-value c =
    let w = c.args.terms.now.exponent in
    let wide : w ≤ 128 = subst (λ n. n ≤ 128) c.exponent-exponent.ensures.exponent c.exponent-exponent.ensures.in_range.1 in
    IfOk-weaker c.constant.result _ (λ p. (σ : Assignment) → value_in c.constant.new.terms p σ ≡ 2 ^ c.args.k)
    (λ p h σ. h σ ∙ power_small c.args.k w c.requires wide) c.constant.ensures.value
