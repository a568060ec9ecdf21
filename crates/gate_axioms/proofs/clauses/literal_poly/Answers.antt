use Rattle.gate_axioms.proofs.ClauseProducts.{literal_has}
use Rattle.gate_axioms.proofs.Values.{form_has, poly_has}
use Rattle.gate_axioms.proofs.clauses.literal_poly.Goals as goal

pub returns-clause-value : goal.returns-clause-value
returns-clause-value c =
    let old = c.args.terms.now in
    let new = c.poly_in.new.terms in
    let w = c.one.result.width in
    let form = c.add_literal.new.self in
    let grown = c.in_ok-poly.ensures.extends in
    literal_has new c.in_ok-poly.poly c.one.result.value c.args.lit c.one.ensures.value
    (poly_has old new c.in_ok-poly.poly form _ grown c.in_ok-poly.ensures.value (form_has old w c.new-form.result form _ c.one.ensures.width c.new-form.ensures c.in_ok-add_literal.ensures))
