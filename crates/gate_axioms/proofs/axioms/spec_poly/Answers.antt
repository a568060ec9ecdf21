use Rattle.std.proofs.Common.{[], ◌+◌, ◌*◌, ◌^◌, refl, sym, subst, ◌∙◌}
use Rattle.graph_core.specs.Graph.Assignments.{word}
use Rattle.graph_core.specs.Graph.Operands.{operand_word}
use Rattle.poly_terms.specs.Tables.{modulus_in}
use Rattle.gate_axioms.specs.Form.{AddsNumber}
use Rattle.gate_axioms.proofs.Adding.{adds_on}
use Rattle.gate_axioms.proofs.Values.{form_has, sum_with_product_has, specification_has}
use Rattle.gate_axioms.proofs.axioms.spec_poly.Goals as goal

pub returns-clause-value : goal.returns-clause-value
returns-clause-value c =
    let old = c.args.terms.now in
    let new = c.sum_with_product.new.terms in
    let graph = c.args.graph.now in
    let sides = c.args.operands.now in
    let p = c.in_ok-poly.poly in
    let grown = c.in_ok-poly.ensures.extends in
    let n = c.one-one.result.value in
    let o = c.minus_one-minus.result.value in
    let w = c.one-one.result.width in
    let v = c.minus_one-minus.result.width in
    let first : AddsNumber w [] c.in_ok-outputs.outputs (λ σ. n * word σ graph.outputs) = rw (← c.output_literals.ensures.value) (c.in_ok-outputs.ensures) in
    let more : AddsNumber v c.in_ok-outputs.outputs c.add_word.new.self (λ σ. o * word σ sides.c) = rw (← c.c_literals.ensures.value) (c.in_ok-add_word.ensures) in
    let both : AddsNumber w [] c.add_word.new.self (λ σ. n * word σ graph.outputs + o * word σ sides.c) =
    adds_on w [] c.in_ok-outputs.outputs c.add_word.new.self (λ σ. n * word σ graph.outputs) (λ σ. o * word σ sides.c) (λ σ. n * word σ graph.outputs + o * word σ sides.c) first
    (subst (λ k. AddsNumber k c.in_ok-outputs.outputs c.add_word.new.self (λ σ. o * word σ sides.c)) (c.minus_one-minus.ensures.width ∙ sym c.one-one.ensures.width) more) (λ σ. refl) in
    let a : AddsNumber v [] c.in_ok-opposite.opposite (λ σ. o * operand_word (modulus_in old) sides.claim.sign σ sides.a) =
    subst (λ k. AddsNumber v [] c.in_ok-opposite.opposite (λ σ. o * operand_word (2 ^ k) sides.claim.sign σ sides.a)) c.minus_one-minus.ensures.width (rw (← c.a_literals.ensures.value, ← c.sign.ensures) (c.in_ok-opposite.ensures)) in
    let b : AddsNumber w [] c.in_ok-b.b (λ σ. n * operand_word (modulus_in old) sides.claim.sign σ sides.b) =
    subst (λ k. AddsNumber w [] c.in_ok-b.b (λ σ. n * operand_word (2 ^ k) sides.claim.sign σ sides.b)) c.one-one.ensures.width (rw (← c.b_literals.ensures.value, ← c.sign-2.ensures) (c.in_ok-b.ensures)) in
    specification_has old new p graph sides o n c.requires.same_modulus grown c.minus_one-minus.ensures.value c.one-one.ensures.value
    (sum_with_product_has old new p c.add_word.new.self c.in_ok-opposite.opposite c.in_ok-b.b _ _ _ grown
    (form_has old w [] c.add_word.new.self _ c.one-one.ensures.width refl both)
    (form_has old v [] c.in_ok-opposite.opposite _ c.minus_one-minus.ensures.width refl a)
    (form_has old w [] c.in_ok-b.b _ c.one-one.ensures.width refl b)
    c.in_ok-poly.ensures.value)
