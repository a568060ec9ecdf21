use Rattle.ripple_graft.proofs.PlacedBeside.{IsPlacing}
use Rattle.ripple_graft.proofs.placing.with_gates.Given as goal

abbrev pub invariant-loop-left : goal.invariant-loop-left
invariant-loop-left l = IsPlacing l.fn.extended l.gates l.left-index l.longer
