-- Budgets that are enough for the slice plans over made graphs with a ripple-carry adder.
use Rattle.std.specs.Prelude.{ℕ, ◌+◌, ◌*◌, ◌<◌, ◌≤◌, List, take}
use Rattle.graph_core.specs.declared.order.Order.TheVariants.{Separate}
use Rattle.graph_core.specs.Graph.{Aig, SameUpToOperands}
use Rattle.graph_core.specs.Graph.Operands.{Sides, sides_of}
use Rattle.graph_core.specs.Graph.Extended.{Extended, without_cut, modulus}
use Rattle.algebra_core.specs.NormalForm.{HasSize}
use Rattle.frontier_core.specs.declared.step.Step.{Step}
use Rattle.frontier_core.specs.Plan.{nothing, taken, value_of_taken}
use Rattle.graph_maker.specs.declared.kind.Kind.{Kind}
use Rattle.graph_maker.specs.declared.adder.Adder.TheVariants.{Ripple}
use Rattle.graph_maker.specs.Made.{made}
use Rattle.slice_planner.specs.Slices.{IsSlicePlan}

-- A slice plan, and a frontier of it with more monomials than a budget.
pub record PassesBySlices (e : Extended) (s : Sides) (budget : ℕ) : Type 0 where
  pub steps : List Step
  pub slices : IsSlicePlan e steps
  pub step : ℕ
  pub size : ℕ
  pub above : budget < size
  pub has : HasSize (modulus e) (value_of_taken e s (taken nothing (take step steps))) size

-- No slice plan over such a graph of n bits passes a budget of 8 n^2 + 64 monomials, or a greater one.
abbrev pub MadeBudgetIsEnough : Type 0
MadeBudgetIsEnough = (kind : Kind) (n : ℕ) (g : Aig) (budget : ℕ) → 0 < n → SameUpToOperands (made kind n Ripple) g → 8 * n * n + 64 ≤ budget →
    ¬ (PassesBySlices (without_cut g) (sides_of Separate g) budget)
