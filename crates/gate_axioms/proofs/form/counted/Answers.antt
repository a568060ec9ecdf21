use Rattle.std.proofs.Common.{sym, subst}
use Rattle.gate_axioms.specs.Form.{CountsAs}
use Rattle.gate_axioms.proofs.Columns.{counts_inner, counts_last}
use Rattle.gate_axioms.proofs.form.counted.Goals as goal

pub returns-then-i-bits-clause-times : goal.returns-then-i-bits-clause-times
returns-then-i-bits-clause-times c =
    subst (λ sign. CountsAs c.args.coefficient.width sign c.args.bits c.args.i c.args.coefficient.value c.neg.result.value) (sym c.in-Signed.is)
    (counts_last c.args.coefficient.width c.args.bits c.args.i c.args.coefficient.value c.neg.result.value c.if-i-bits.true c.neg.ensures.value)

pub returns-else-i-bits-clause-times : goal.returns-else-i-bits-clause-times
returns-else-i-bits-clause-times c =
    subst (λ sign. CountsAs c.args.coefficient.width sign c.args.bits c.args.i c.args.coefficient.value c.args.coefficient.value) (sym c.in-Signed.is)
    (counts_inner c.args.coefficient.width c.args.bits c.args.i c.args.coefficient.value c.requires.in_range c.if-i-bits.false)
