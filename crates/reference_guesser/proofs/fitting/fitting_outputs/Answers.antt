use Rattle.std.proofs.Common.{refl}
use Rattle.reference_guesser.proofs.Fits.{outputs_step}
use Rattle.reference_guesser.proofs.fitting.fitting_outputs.Goals as goal

pub loop-output-preserved : goal.loop-output-preserved
loop-output-preserved c =
    let step = outputs_step c.args.extended c.loop-output.extended _ c.loop-output.fitting.items _ _ c.loop-output.invariant.made c.loop-output.invariant.fit (c.if-not-is_output.ensures.0 refl) c.in_ok-extended.ensures.ok c.in_ok-extended.ensures.more in
    record { made = step.0; fit = step.1 }
