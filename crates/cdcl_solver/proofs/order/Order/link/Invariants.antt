use Rattle.std.proofs.Common.{◌≡◌}
use Rattle.cdcl_solver.proofs.order.Order.link.Given as goal

abbrev pub invariant-loop-place : goal.invariant-loop-place
invariant-loop-place l = l.self ≡ l.initial.self
