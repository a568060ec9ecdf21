use Rattle.std.proofs.Common.{◌*◌, ◌^◌, get_or}
use Rattle.graph_core.specs.Graph.Assignments.{bit, literal}
use Rattle.gate_axioms.specs.Form.{AddsNumber, digits, partner_digit}
use Rattle.gate_axioms.proofs.Columns.{column_starts, column_goes_on, column_ends}
use Rattle.gate_axioms.proofs.form.Form.add_column.Goals as goal

pub loop-i-init : goal.loop-i-init
loop-i-init c = column_starts c.args.coefficient.width c.args.coefficient.value c.args.sign c.args.a.now c.args.b.now c.args.k c.args.self.now

pub loop-i-preserved : goal.loop-i-preserved
loop-i-preserved c =
    let w = c.args.coefficient.width in
    let n = c.counted-counted.result.value in
    let bs = c.args.b.now in
    let adds : AddsNumber w c.loop-i.self c.add_partial_product.new.self
    (λ σ. n * (bit (literal σ (get_or c.args.a.now c.loop-i.i (record { 0 = 0 }))) * partner_digit (digits (2 ^ w) c.args.sign σ bs) c.args.k c.loop-i.i)) =
    rw (← c.counted-counted.ensures.width) (c.in_ok-add_partial_product.ensures) in
    column_goes_on w c.args.coefficient.value n c.args.sign c.args.a.now bs c.args.k c.loop-i.i (record { 0 = 0 }) c.args.self.now c.loop-i.self
    c.add_partial_product.new.self c.loop-i-test.true c.counted-counted.ensures.times c.loop-i.invariant adds

pub returns : goal.returns
returns c =
    column_ends c.args.coefficient.width c.args.coefficient.value c.args.sign c.args.a.now c.args.b.now c.args.k c.loop-i.i c.args.self.now c.loop-i.self
    c.loop-i-test.false c.loop-i.invariant
