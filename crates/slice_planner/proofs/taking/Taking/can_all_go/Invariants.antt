use Rattle.std.specs.Prelude.{map, take}
use Rattle.frontier_core.specs.declared.step.Step.TheVariants.{Eliminate}
use Rattle.frontier_core.specs.Plan.{AreSteps, nothing, taken}
use Rattle.slice_planner.specs.Arranged.{variables}
use Rattle.slice_planner.proofs.taking.Taking.can_all_go.Given as goal

abbrev pub invariant-loop-place : goal.invariant-loop-place
invariant-loop-place l = AreSteps l.self.extended (taken nothing l.self.steps) (map Eliminate (variables (take l.place l.group)))
