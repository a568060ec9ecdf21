use Rattle.std.proofs.lemmas.Result.{IfOk-weaker}
use Rattle.std.specs.Prelude.{◌≡◌, ◌%◌, ◌≤◌}
use Rattle.std.proofs.Common.{ap, subst, ◌∙◌}
use Rattle.graph_core.specs.Graph.Assignments.{Assignment, bit}
use Rattle.graph_core.proofs.OfGraphs.CallerLemmas.{byte_is_bit}
use Rattle.poly_terms.specs.Tables.{modulus_in, value_in}
use Rattle.column_reducer.proofs.PieceValues.{bit_reduced}
use Rattle.column_reducer.proofs.pieces.bit_poly.Goals as goal

pub returns-clause-value : goal.returns-clause-value
returns-clause-value c =
    let m = modulus_in c.args.terms.now in
    let wide : 1 ≤ c.args.terms.now.exponent = subst (λ w. 1 ≤ w) c.exponent-exponent.ensures.exponent c.exponent-exponent.ensures.in_range.0 in
    IfOk-weaker c.constant.result _ (λ p. (σ : Assignment) → value_in c.constant.new.terms p σ ≡ bit c.args.value)
    (λ p h σ. h σ ∙ ap (λ n. n % m) (c.from.ensures ∙ byte_is_bit c.args.value) ∙ bit_reduced c.args.value c.args.terms.now.exponent wide) c.constant.ensures.value
