use Rattle.graph_core.proofs.OfGraphs.TableLemmas.{seen_schedule}
use Rattle.graph_core.proofs.graph.Graph.schedule.Goals as goal

pub returns-clause-schedule : goal.returns-clause-schedule
returns-clause-schedule c = seen_schedule c.as_slice.result.now c.self.invariant c.self.view_is c.as_slice.ensures.value
