use Rattle.std.proofs.Common.{◌≡◌}
use Rattle.cdcl_solver.proofs.order.Order.suggest.Given as goal

abbrev pub invariant-loop-lit : goal.invariant-loop-lit
invariant-loop-lit l = l.self ≡ l.initial.self
