use Rattle.ripple_graft.proofs.GraftedGraphs.{grafted_none}
use Rattle.ripple_graft.proofs.extended.Extended.without_cut.Goals as goal

pub invariant_of-result : goal.invariant_of-result
invariant_of-result c = grafted_none c.args.graph.now
