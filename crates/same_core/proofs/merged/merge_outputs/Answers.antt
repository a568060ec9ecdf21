use Rattle.std.proofs.Common.{◌∙◌, ap, arith, length}
use Rattle.same_core.specs.Merged.{moved_literal}
use Rattle.same_core.proofs.MergeSteps.{pairs_next}
use Rattle.same_core.proofs.Ranges.{outputs_are_low}
use Rattle.same_core.proofs.merged.merge_outputs.Goals as goal

pub moved_literal-moved-requires-clause-readable : goal.moved_literal-moved-requires-clause-readable
moved_literal-moved-requires-clause-readable c =
    let one = ap length c.output_literals-outputs.ensures.value in
    let two = ap length c.output_literals-others.ensures.value in
    outputs_are_low c.args.other.now c.output_literals-others.ensures.built c.output_literals-others.result.now c.output_literals-others.ensures.value c.loop-place.place _ (omega (arith, c.loop-place-test.true, c.requires.outputs, one, two))

pub loop-place-preserved : goal.loop-place-preserved
loop-place-preserved c =
    let outputs = c.output_literals-outputs.result.now in
    let step = pairs_next (moved_literal c.args.graph.now c.args.other.now) c.args.graph.now.outputs c.args.other.now.outputs outputs c.output_literals-others.result.now c.loop-place.place (record { 0 = 0 })
    c.output_literals-outputs.ensures.value c.output_literals-others.ensures.value c.loop-place-test.true c.requires.outputs in
    c.in_ok-push.ensures.items ∙ cc
