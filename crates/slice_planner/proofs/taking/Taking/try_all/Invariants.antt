use Rattle.std.specs.Prelude.{◌≡◌, ◌++◌, drop}
use Rattle.frontier_core.specs.Plan.{nothing, taken}
use Rattle.slice_planner.specs.SlicePlan.{swept}
use Rattle.slice_planner.specs.Arranged.{lists_in}
use Rattle.slice_planner.proofs.taking.Taking.try_all.Given as goal

-- what is there now, and the sweep of the groups that are left, is the sweep of all
abbrev pub invariant-loop-place : goal.invariant-loop-place
invariant-loop-place l = record {
  extended : l.self.extended ≡ l.initial.self.extended;
  below : l.self.below ≡ l.initial.self.below;
  steps : l.self.steps ++ swept l.self.extended (taken nothing l.self.steps) (drop l.place (lists_in l.arrangement)) ≡ l.initial.self.steps ++ swept l.initial.self.extended (taken nothing l.initial.self.steps) (lists_in l.arrangement);
}
