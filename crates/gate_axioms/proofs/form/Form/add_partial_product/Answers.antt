use Rattle.std.proofs.Common.{◌*◌, ◌-◌, ◌^◌, get_or}
use Rattle.graph_core.specs.Graph.Assignments.{bit, literal}
use Rattle.gate_axioms.proofs.Columns.{nothing_adds, partner_adds, partner_none, partner_past}
use Rattle.gate_axioms.specs.Form.{AddsNumber, digits, partner_digit}
use Rattle.gate_axioms.proofs.form.Form.add_partial_product.Goals as goal
use Rattle.gate_axioms.proofs.form.Form.add_partial_product.Goals.{else-i-k-via-then-i-k+else-k-i, else-i-k-via-else-i-k}

pub returns-in_ok-add_product : goal.returns-in_ok-add_product
returns-in_ok-add_product c =
    let w = c.args.coefficient.width in
    let bs = c.args.b.now in
    let k = c.args.k in
    let i = c.args.i in
    let n = c.counted-counted.result.value in
    let adds : AddsNumber w c.args.self.now c.add_product.new.self (λ σ. n * (bit (literal σ c.args.left) * bit (literal σ (get_or bs (k - i) (record { 0 = 0 }))))) =
    rw (← c.counted-counted.ensures.width) (c.in_ok-add_product.ensures) in
    partner_adds w c.args.coefficient.value n c.args.sign c.args.left (record { 0 = 0 }) bs k i c.args.self.now c.add_product.new.self
    c.if-i-k.true c.if-k-i.true c.counted-counted.ensures.times adds

pub returns-else-i-k : goal.returns-else-i-k
returns-else-i-k c =
    let bs = c.args.b.now in
    let k = c.args.k in
    let i = c.args.i in
    let m = 2 ^ c.args.coefficient.width in
    let sign = c.args.sign in
    nothing_adds c.args.coefficient.width c.args.coefficient.value c.args.left c.args.self.now (λ σ. partner_digit (digits m sign σ bs) k i)
    (λ σ. elim c.else-i-k.branch [
      | else-i-k-via-then-i-k+else-k-i w ↦ partner_past m sign σ bs k i w.if-i-k.true w.if-k-i.false
      | else-i-k-via-else-i-k w ↦ partner_none m sign σ bs k i w.if-i-k.false
    ])
