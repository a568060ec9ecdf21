use Rattle.std.proofs.Common.{ℕ, ◌<◌}
use Rattle.std.specs.List.{Contains}
use Rattle.unit_prop.specs.Standing.{at}
use Rattle.unit_prop.specs.Trail.{signed_variable}
use Rattle.cdcl_solver.specs.Orders.{GrowsOrder}
use Rattle.cdcl_solver.proofs.order.Order.enter.Given as goal

abbrev pub invariant-loop-lit : goal.invariant-loop-lit
invariant-loop-lit l = record {
  grows : GrowsOrder l.initial.self l.self;
  entered : (i : ℕ) → i < l.lit-index → Contains l.self.vars (signed_variable (at l.lits i));
}
