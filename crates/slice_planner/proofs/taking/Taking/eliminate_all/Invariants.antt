use Rattle.std.specs.Prelude.{◌≡◌, ◌++◌, map, take}
use Rattle.frontier_core.specs.declared.step.Step.TheVariants.{Eliminate}
use Rattle.slice_planner.specs.Arranged.{variables}
use Rattle.slice_planner.proofs.taking.Taking.eliminate_all.Given as goal

abbrev pub invariant-loop-gate : goal.invariant-loop-gate
invariant-loop-gate l = record {
  extended : l.self.extended ≡ l.initial.self.extended;
  below : l.self.below ≡ l.initial.self.below;
  steps : l.self.steps ≡ l.initial.self.steps ++ map Eliminate (variables (take l.gate-index l.group));
}
