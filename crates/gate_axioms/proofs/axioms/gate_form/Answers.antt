use Rattle.std.proofs.Common.{◌+◌, ◌*◌, ◌%◌, ◌^◌, ap}
use Rattle.std.proofs.Math.Nat.{add_comm}
use Rattle.graph_core.specs.Graph.Assignments.{bit, literal, variable}
use Rattle.gate_axioms.specs.Form.{AddsNumber}
use Rattle.gate_axioms.proofs.Adding.{adds_on}
use Rattle.gate_axioms.proofs.Values.{form_has, gate_has}
use Rattle.gate_axioms.proofs.axioms.gate_form.Goals as goal

pub returns : goal.returns
returns c =
    let t = c.args.terms.now in
    let gate = c.args.gate.now in
    let w = c.minus_one.result.width in
    let o = c.minus_one.result.value in
    let n = c.one.result.value in
    let form = c.add_variable.new.self in
    let first : AddsNumber w c.args.form c.add_product.new.self (λ σ. n * (bit (literal σ gate.left) * bit (literal σ gate.right))) =
    rw (c.minus_one.ensures.width, ← c.one.ensures.width) (c.in_ok-add_product.ensures) in
    let both =
    adds_on w c.args.form c.add_product.new.self form _ _ (λ σ. o * bit (variable σ gate.v) + n * (bit (literal σ gate.left) * bit (literal σ gate.right))) first c.in_ok-add_variable.ensures
    (λ σ. ap (λ k. k % 2 ^ w) (add_comm (n * (bit (literal σ gate.left) * bit (literal σ gate.right))) (o * bit (variable σ gate.v)))) in
    gate_has t form gate o n c.minus_one.ensures.value c.one.ensures.value (form_has t w c.args.form form _ c.minus_one.ensures.width c.requires both)
