use Rattle.std.proofs.Common.{◌∙◌, ◌++◌, ◌∷◌, [], ap}
use Rattle.frontier_core.specs.declared.step.Step.TheVariants.{Add}
use Rattle.column_reducer.proofs.PlainSteps.{columns_more}
use Rattle.column_reducer.proofs.plain.columns.Goals as goal

pub loop-k-preserved : goal.loop-k-preserved
loop-k-preserved c = c.in_ok-push.ensures.items ∙ ap (λ ss. ss ++ Add c.loop-k.k ∷ []) c.loop-k.invariant ∙ columns_more c.loop-k.k
