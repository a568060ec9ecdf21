use Rattle.std.proofs.Common.{ap}
use Rattle.cdcl_solver.specs.Orders.{OrderView}
use Rattle.cdcl_solver.proofs.LoadLemmas.{loads_none}
use Rattle.cdcl_solver.proofs.SolverLemmas.{alone_none, ready_none, view_none}
use Rattle.cdcl_solver.proofs.solver.Solver.new.Goals as goal

pub new-levels-requires : goal.new-levels-requires
new-levels-requires c = alone_none c.in_ok-propagator.propagator c.args.max c.in_ok-propagator.ensures

pub invariant_of-result : goal.invariant_of-result
invariant_of-result c =
    ready_none c.args.max c.in_ok-propagator.propagator c.in_ok-order.order c.new-levels.result.base c.new-levels.result.marks.items c.requires (ap (λ (o : OrderView). o.greatest) c.in_ok-order.ensures)
    (loads_none c.in_ok-propagator.propagator c.args.max c.in_ok-propagator.ensures) c.new-levels.ensures

pub returns : goal.returns
returns c = view_none c.in_ok-propagator.propagator c.args.max c.in_ok-propagator.ensures
