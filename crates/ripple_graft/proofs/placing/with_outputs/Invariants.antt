use Rattle.ripple_graft.proofs.PlacedBeside.{IsReplacingOutputs}
use Rattle.ripple_graft.proofs.placing.with_outputs.Given as goal

abbrev pub invariant-loop-column : goal.invariant-loop-column
invariant-loop-column l = IsReplacingOutputs l.fn.extended l.outputs l.column-index l.longer
