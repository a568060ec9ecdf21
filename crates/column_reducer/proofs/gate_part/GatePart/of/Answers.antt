use Rattle.column_reducer.proofs.GateParts.{part_made}
use Rattle.column_reducer.proofs.gate_part.GatePart.of.Goals as goal

pub returns-clause-part : goal.returns-clause-part
returns-clause-part c =
    part_made c.args.terms.now c.quotient.new.self c.times_operands.new.terms c.args.gate.now c.args.taken c.in_ok-power.variable c.in_ok-by.by c.in_ok-factor.factor c.in_ok-operands.operands
    c.in_ok-power.power c.in_ok-by.ensures.extends c.in_ok-operands.ensures.extends c.requires.variable c.requires.of c.in_ok-power.ensures.of c.in_ok-by.ensures.of c.in_ok-factor.ensures.of
    c.in_ok-operands.ensures.of c.requires.all c.requires.some c.in_ok-power.ensures.value c.in_ok-power.ensures.variables c.in_ok-by.ensures.value c.in_ok-factor.ensures.value
    c.in_ok-operands.ensures.value
