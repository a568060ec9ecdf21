-- The slice plan over a made graph leaves small frontiers.
use Rattle.std.specs.Prelude.{ℕ, zero, suc, List, [], ◌∷◌, take}
use Rattle.std.proofs.Common.{arith}
use Rattle.graph_core.specs.Graph.Extended.{Extended, without_cut}
use Rattle.frontier_core.specs.declared.step.Step.{Step}
use Rattle.frontier_core.specs.Plan.{Taken, nothing, step, AreSteps}
use Rattle.enough_budget.specs.Budgets.{MadeBudgetIsEnough}
use Rattle.enough_budget.specs.MadeSlices.{SlicePlansAreSmall}
use Rattle.enough_budget.proofs.MadeOrder.{made_gates_are_in_order}
use Rattle.enough_budget.proofs.Singles.{made_groups_are_adders}
use Rattle.enough_budget.proofs.Swapped.{made_slices_are_small}

front_steps : (e : Extended) (f : Taken) (t : ℕ) (steps : List Step) → AreSteps e f steps → AreSteps e f (take t steps)
front_steps e f zero steps h = tt
front_steps e f (suc t) [] h = tt
front_steps e f (suc t) (s ∷ steps) h = (h.0, front_steps e (step f s) t steps h.1)

pub slice_plans_are_small : SlicePlansAreSmall
slice_plans_are_small kind n g steps t size pos same slices has_size =
    made_slices_are_small kind n g (take t steps) size pos same (front_steps (without_cut g) nothing t steps slices.plan.follow)
    (slices.groups (made_groups_are_adders kind n g pos same) (made_gates_are_in_order kind n g pos same) t) has_size

pub made_budget_is_enough : MadeBudgetIsEnough
made_budget_is_enough kind n g budget pos same enough passes =
    let few = slice_plans_are_small kind n g passes.steps passes.step passes.size pos same passes.slices passes.has in
    let above = passes.above in
    omega arith
