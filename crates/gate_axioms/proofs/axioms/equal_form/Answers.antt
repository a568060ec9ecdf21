use Rattle.std.proofs.Common.{◌+◌, ◌*◌, refl}
use Rattle.graph_core.specs.Graph.Assignments.{bit, literal}
use Rattle.gate_axioms.specs.Form.{AddsNumber}
use Rattle.gate_axioms.proofs.Adding.{adds_on}
use Rattle.gate_axioms.proofs.Values.{form_has, literals_have}
use Rattle.gate_axioms.proofs.axioms.equal_form.Goals as goal

pub returns : goal.returns
returns c =
    let t = c.args.terms.now in
    let w = c.one.result.width in
    let n = c.one.result.value in
    let o = c.minus_one.result.value in
    let form = c.add_literal-2.new.self in
    let second : AddsNumber w c.add_literal.new.self form (λ σ. o * bit (literal σ c.args.right)) = rw (c.one.ensures.width, ← c.minus_one.ensures.width) (c.in_ok-add_literal-2.ensures) in
    let both = adds_on w c.args.form c.add_literal.new.self form _ _ (λ σ. n * bit (literal σ c.args.left) + o * bit (literal σ c.args.right)) c.in_ok-add_literal.ensures second (λ σ. refl) in
    literals_have t form n o c.args.left c.args.right c.one.ensures.value c.minus_one.ensures.value (form_has t w c.args.form form _ c.one.ensures.width c.requires both)
