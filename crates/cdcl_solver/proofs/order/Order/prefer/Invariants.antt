use Rattle.std.proofs.Common.{◌≡◌}
use Rattle.cdcl_solver.proofs.order.Order.prefer.Given as goal

abbrev pub invariant-loop-var : goal.invariant-loop-var
invariant-loop-var l = l.self ≡ l.initial.self
