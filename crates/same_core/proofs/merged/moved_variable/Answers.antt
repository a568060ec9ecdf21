use Rattle.std.proofs.Common.{◌+◌, ◌∙◌}
use Rattle.same_core.proofs.MergeSteps.{next_place}
use Rattle.same_core.proofs.merged.moved_variable.Goals as goal

pub loop-place-preserved : goal.loop-place-preserved
loop-place-preserved c =
    c.loop-place.invariant ∙
    next_place c.args.variable (c.args.graph.now.max + c.args.variable) c.args.other.now.inputs c.input_literals-others.result.now c.args.graph.now.inputs c.loop-place.place _ c.input_literals-others.ensures.value c.loop-place-test.true
    c.requires.shape.inputs (λ e. c.if-var-variable.false (c.var.ensures ∙ e))
