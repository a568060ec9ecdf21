-- Column plans: plans whose columns are added from the last down, in whatever order the gates are eliminated.
use Rattle.std.specs.Prelude.{◌≡◌, List, length}
use Rattle.graph_core.specs.Graph.Extended.{Extended}
use Rattle.frontier_core.specs.declared.step.Step.{Step}
use Rattle.frontier_core.specs.Plan.{IsPlan}
use Rattle.slice_planner.specs.SlicePlan.{columns_added, count_down}

-- A plan that adds the columns from the last down to 0, each once.
pub record IsColumnPlan (e : Extended) (steps : List Step) : Type 0 where
  pub plan : IsPlan e steps
  pub columns : columns_added steps ≡ count_down (length e.graph.outputs)
