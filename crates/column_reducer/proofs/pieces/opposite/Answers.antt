use Rattle.std.proofs.lemmas.Result.{IfOk-weaker}
use Rattle.std.specs.Prelude.{◌≡◌}
use Rattle.std.proofs.Common.{◌+◌, ◌%◌, subst, sym}
use Rattle.graph_core.specs.Graph.Assignments.{Assignment}
use Rattle.algebra_core.specs.Polynomials.{difference}
use Rattle.poly_terms.specs.Tables.{modulus_in, value_in}
use Rattle.column_reducer.proofs.PieceValues.{opposite_has}
use Rattle.column_reducer.proofs.pieces.opposite.Goals as goal

pub returns-clause-value : goal.returns-clause-value
returns-clause-value c =
    let t = c.args.terms.now in
    let p = c.args.p.now in
    let one : (c.value.result + 1) % modulus_in t ≡ 0 = subst (λ n. (n + 1) % modulus_in t ≡ 0) (sym c.value.ensures.value) c.minus_one-less.ensures.value in
    IfOk-weaker c.multiple.result _ (λ r. (σ : Assignment) → value_in t r σ ≡ difference (modulus_in t) 0 (value_in t p σ))
    (λ r h σ. opposite_has t p r c.value.result σ one (h σ)) c.multiple.ensures.value
