use Rattle.same_core.proofs.Inputs.{input_pushed}
use Rattle.same_core.proofs.solving.inputs_at.Goals as goal

pub loop-input-preserved : goal.loop-input-preserved
loop-input-preserved c =
    input_pushed c.args.graph.now c.input_literals-input-items.ensures.built c.input_literals-input-items.result.now c.input_literals-input-items.ensures.value c.args.values.now.items c.requires c.loop-input.input-index c.loop-input-test.true
    c.loop-input.inputs.items c.push.new.self.items c.loop-input.invariant c.var.result c.var.ensures c.index.result.now c.index.ensures c.in_ok-push.ensures.items
