use Rattle.ripple_graft.proofs.GraftedGraphs.{alone_kept, more_kept}
use Rattle.ripple_graft.proofs.extended.Extended.kept.Goals as goal

pub returns-in-None : goal.returns-in-None
returns-in-None c = alone_kept c.self.inside.graph.now c.self.inside.added c.nothing_added.result c.args.self c.self.view_is c.in-None.is c.nothing_added.ensures

pub returns-in-Some : goal.returns-in-Some
returns-in-Some c = rw c.in-Some.is (more_kept c.self.inside.graph.now c.self.inside.added c.in-Some.added c.args.self c.self.view_is c.in-Some.is)
