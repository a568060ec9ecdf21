use Rattle.std.proofs.Common.{◌≡◌, ◌+◌, ◌*◌, ◌%◌, ◌^◌, ap, sym, refl, subst, ◌∙◌}
use Rattle.std.proofs.lemmas.Option.{same_Some}
use Rattle.frontier_core.specs.Columns.{product_column, column_claim, column_value}
use Rattle.graph_core.specs.declared.literal.Lit.{Lit}
use Rattle.graph_core.specs.Graph.Assignments.{bit, literal}
use Rattle.poly_terms.specs.Tables.{modulus_in, value_in}
use Rattle.gate_axioms.specs.Form.{AddsNumber, optional_bit}
use Rattle.gate_axioms.proofs.Adding.{adds_on, adds_same}
use Rattle.gate_axioms.proofs.Columns.{claim_is, column_has}
use Rattle.gate_axioms.proofs.Values.{form_has, poly_has}
use Rattle.gate_axioms.proofs.axioms.column_poly.Goals as goal

pub returns-clause-value : goal.returns-clause-value
returns-clause-value c l is σ =
    let old = c.args.terms.now in
    let new = c.poly_in.new.terms in
    let p = c.in_ok-poly.poly in
    let s = c.args.operands.now in
    let k = c.args.k in
    let o = c.new_output-output.result in
    let n = c.shift-weight.result.value in
    let opposite = c.neg-opposite.result.value in
    let w = c.shift-weight.result.width in
    let start = c.new-form.result in
    let first = c.add_literal.new.self in
    let mid = c.add_column.new.self in
    let form = c.add_optional.new.self in
    let grown = c.in_ok-poly.ensures.extends in
    let width = c.shift-weight.ensures.width ∙ c.one.ensures.width in
    let weight : n ≡ (c.one.result.value * 2 ^ k) % modulus_in old = c.shift-weight.ensures.value ∙ ap (λ w'. (c.one.result.value * 2 ^ k) % 2 ^ w') c.one.ensures.width in
    let none : (opposite + n) % modulus_in old ≡ 0 = ap (λ w'. (opposite + n) % 2 ^ w') (sym width) ∙ c.neg-opposite.ensures.value in
    let second : AddsNumber w first mid (λ σ. opposite * product_column (2 ^ w) s.claim.sign σ s.a s.b k) =
    rw (← c.neg-opposite.ensures.width, ← c.sign.ensures, ← c.a_literals.ensures.value, ← c.b_literals.ensures.value) (c.in_ok-add_column.ensures) in
    let third : AddsNumber w mid form (λ σ. opposite * optional_bit σ c.c.result) = rw (← c.neg-opposite.ensures.width) (c.in_ok-add_optional.ensures) in
    let claim : AddsNumber w first form (λ σ. opposite * column_claim (2 ^ w) s k σ) =
    adds_same w first form _ (λ σ. opposite * column_claim (2 ^ w) s k σ)
    (adds_on w first mid form _ _ (λ σ. opposite * product_column (2 ^ w) s.claim.sign σ s.a s.b k + opposite * optional_bit σ c.c.result) second third (λ σ. refl))
    (λ σ. claim_is (2 ^ w) s k σ opposite c.c.result c.c.ensures) in
    let both = adds_on w start first form _ _ (λ σ. n * bit (literal σ o) + opposite * column_claim (2 ^ w) s k σ) c.in_ok-add_literal.ensures claim (λ σ. refl) in
    let all : AddsNumber w start form (λ σ. n * bit (literal σ o) + opposite * column_claim (modulus_in old) s k σ) =
    subst (λ w'. AddsNumber w start form (λ σ. n * bit (literal σ o) + opposite * column_claim (2 ^ w') s k σ)) width both in
    let has = poly_has old new p form _ grown c.in_ok-poly.ensures.value (form_has old w start form _ width c.new-form.ensures all) in
    let P : Lit → Type 0 = λ l. value_in new p σ ≡ column_value c.args.extended.now s k l σ % modulus_in old in
    subst P (same_Some o l (sym c.new_output-output.ensures ∙ is))
    (column_has old new p c.args.extended.now s k o c.one.result.value n opposite grown c.requires.same_modulus c.one.ensures.value weight none has σ)
