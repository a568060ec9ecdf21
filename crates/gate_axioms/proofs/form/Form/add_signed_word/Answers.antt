use Rattle.std.proofs.Common.{◌*◌, ◌-◌, get_or, length}
use Rattle.graph_core.specs.Graph.Assignments.{bit, literal}
use Rattle.gate_axioms.specs.Form.{AddsNumber}
use Rattle.gate_axioms.proofs.SignedForms.{signed_adds}
use Rattle.gate_axioms.proofs.form.Form.add_signed_word.Goals as goal

pub returns-in_ok-add_literal : goal.returns-in_ok-add_literal
returns-in_ok-add_literal c =
    let w = c.args.first.width in
    let lits = c.args.lits.now in
    let o = c.neg.result.value in
    let last : AddsNumber w c.add_word.new.self c.add_literal.new.self (λ σ. o * bit (literal σ (get_or lits (length lits - 1) (record { 0 = 0 })))) =
    rw (← c.shift-more.ensures.width, ← c.neg.ensures.width) (c.in_ok-add_literal.ensures) in
    signed_adds w c.args.first.value c.shift-more.result.value o lits (record { 0 = 0 }) c.args.self.now c.add_word.new.self c.add_literal.new.self c.if-bits-gt0.true
    c.shift-more.ensures.value (rw (← c.shift-more.ensures.width) c.neg.ensures.value) c.in_ok-add_word.ensures last
