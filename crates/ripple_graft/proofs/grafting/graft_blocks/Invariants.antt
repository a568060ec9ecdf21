use Rattle.ripple_graft.proofs.GraftedGraphs.{IsSoFar}
use Rattle.ripple_graft.proofs.grafting.graft_blocks.Given as goal

abbrev pub invariant-loop-i : goal.invariant-loop-i
invariant-loop-i l = IsSoFar l.graph l.blocks l.i l.extended
