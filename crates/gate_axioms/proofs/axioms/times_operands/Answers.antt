use Rattle.std.proofs.Common.{◌∙◌}
use Rattle.poly_terms.specs.Tables.{value_in}
use Rattle.gate_axioms.proofs.Values.{form_has, times_has}
use Rattle.gate_axioms.proofs.axioms.times_operands.Goals as goal

pub returns-clause-value : goal.returns-clause-value
returns-clause-value c σ =
    let old = c.args.terms.now in
    let form = c.add_product.new.self in
    c.in_ok-poly.ensures.value σ ∙
    times_has old form c.args.gate.now c.one.result.value (value_in old c.args.p.now σ) σ c.one.ensures.value
    (form_has old c.one.result.width c.in_ok-form.form form _ c.one.ensures.width c.in_ok-form.ensures c.in_ok-add_product.ensures)
