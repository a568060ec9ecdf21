use Rattle.std.proofs.Common.{◌/◌, ◌*◌, length, arith, ap, length-append}
use Rattle.graph_core.specs.Graph.Operands.{bits_of}
use Rattle.graph_core.proofs.OfGraphs.Multiplies.{length-inputs_of}
use Rattle.graph_core.proofs.OfGraphs.OperandBits.{length-bits_of}
use Rattle.graph_core.proofs.OfGraphs.ValueSteps.{outputs_below}
use Rattle.graph_core.proofs.graph.Graph.sum_on.Goals as goal

pub value_into-requires-clause-as_many : goal.value_into-requires-clause-as_many
value_into-requires-clause-as_many c =
    let n = c.len-bits.result / 4 in
    let front = c.in_ok-inputs.inputs.items in
    let size = length-inputs_of c.args.order n c.args.a c.args.b in
    let made = ap length c.in_ok-inputs.ensures in
    let all = ap length c.in_ok-push_bits.ensures in
    let seen = ap (λ g. length g.inputs) c.self.view_is in
    let len = c.len-bits.ensures in
    let shape = c.requires.shape.inputs in
    omega (arith, ap length c.deref.ensures.value, length-append front (bits_of (2 * n) c.args.c), length-bits_of (2 * n) c.args.c)

pub word_of-requires-clause-in_range : goal.word_of-requires-clause-in_range
word_of-requires-clause-in_range c k d below =
    let low = outputs_below c.args.self.now c.output_literals.ensures.built c.output_literals.result.now c.output_literals.ensures.value k d below in
    let seen = ap (λ g. g.max) c.self.view_is in
    let made = c.in_ok-values.ensures.len in
    let back = c.deref_mut.ensures.writes_back in
    let lent = ap length c.deref_mut.ensures.value in
    omega (arith, ap length c.deref-2.ensures.value)
