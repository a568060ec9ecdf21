-- Slice plans: plans whose columns are added from the last down, and whose gates are eliminated group by group.
use Rattle.std.specs.Prelude.{◌≡◌, List, length}
use Rattle.graph_core.specs.Graph.Extended.{Extended}
use Rattle.frontier_core.specs.declared.step.Step.{Step}
use Rattle.frontier_core.specs.Plan.{IsPlan}
use Rattle.slice_planner.specs.AdderLists.{AreAddersAndProducts}
use Rattle.slice_planner.specs.GroupPlans.{AreInOrder}
use Rattle.slice_planner.specs.Groups.{GoesByGroups, groups}
use Rattle.slice_planner.specs.SlicePlan.{columns_added, count_down}

-- A plan that adds the columns from the last down to 0, each once. Over adders and products of inputs, each gate listed
-- after those that it reads, it goes by the groups of the list.
pub record IsSlicePlan (e : Extended) (steps : List Step) : Type 0 where
  pub plan : IsPlan e steps
  pub columns : columns_added steps ≡ count_down (length e.graph.outputs)
  pub groups : AreAddersAndProducts e.gates → AreInOrder e.gates → GoesByGroups (groups e.gates) steps
