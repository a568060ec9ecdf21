use Rattle.std.proofs.Common.{length, ap, arith}
use Rattle.graph_core.proofs.OfGraphs.InputPlaces.{length-inputs_in}
use Rattle.graph_core.proofs.OfGraphs.OperandLiterals.{length-literals_in}
use Rattle.graph_core.proofs.operands.Operands.inputs.Goals as goal

pub returns-clause-value : goal.returns-clause-value
returns-clause-value c =
    let a = c.a_width.ensures.value in
    let b = c.b_width.ensures.value in
    let addend = ap length c.c_literals.ensures.value in
    omega (arith, length-inputs_in c.args.self.now)

pub returns-clause-literals : goal.returns-clause-literals
returns-clause-literals c =
    let all = returns-clause-value c in
    omega (arith, length-literals_in c.args.self.now)

pub returns-clause-few : goal.returns-clause-few
returns-clause-few c =
    let a = c.a_width.ensures.value in
    let b = c.b_width.ensures.value in
    let addend = ap length c.c_literals.ensures.value in
    let narrow_a = c.a_width.ensures.sides.narrow_a in
    let narrow_b = c.a_width.ensures.sides.narrow_b in
    let wide = c.a_width.ensures.sides.addend in
    omega arith
