use Rattle.std.proofs.Common.{◌≤◌}
use Rattle.cdcl_solver.proofs.order.Order.choose.Given as goal

abbrev pub invariant-loop-step : goal.invariant-loop-step
invariant-loop-step l = l.cursor ≤ l.self.greatest
