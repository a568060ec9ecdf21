use Rattle.std.proofs.Common.{◌+◌, ◌-◌, ◌≤◌, length}
use Rattle.unit_prop.specs.Standing.{IsPropagated}
use Rattle.cdcl_solver.specs.Levels.{IsStage}
use Rattle.cdcl_solver.specs.Search.{ExtendsStanding}
use Rattle.cdcl_solver.proofs.descent.descend.Given as goal

abbrev pub invariant-loop-lit : goal.invariant-loop-lit
invariant-loop-lit l = record {
  extends : ExtendsStanding l.initial.propagator l.propagator;
  settled : IsPropagated l.propagator;
  stage : IsStage l.propagator l.levels.base l.levels.marks.items;
  cursor : l.cursor ≤ l.order.greatest;
}

abbrev pub decreases-loop-lit : goal.decreases-loop-lit
decreases-loop-lit l = l.propagator.trail.greatest + 1 - length l.propagator.trail.literals
