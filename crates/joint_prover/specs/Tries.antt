-- The plans that were tried, and the one that ended.
use Rattle.std.specs.Prelude.{◌≡◌, ◌⊎◌, ℕ, ◌<◌, ◌≤◌, List, [], ◌∷◌, take, is_some}
use Rattle.std.specs.declared.option.Option.{Option}
use Rattle.std.specs.declared.option.Option.TheVariants.{None, Some}
use Rattle.frontier_core.specs.Frontier.{IsFrontier, frontier_value}
use Rattle.frontier_core.specs.Plan.{nothing, taken}
use Rattle.frontier_core.specs.PlainOrder.{HasPlainSize}
use Rattle.frontier_core.specs.declared.step.Step.{Step}
use Rattle.graph_core.specs.Graph.Extended.{modulus, Extended, without_cut}
use Rattle.algebra_core.specs.NormalForm.{HasSize}
use Rattle.graph_core.specs.Graph.{Aig}
use Rattle.graph_core.specs.Graph.Operands.{Sides, sides_for}
use Rattle.graph_core.specs.declared.claim.Claim.{Claim}
use Rattle.joint_prover.specs.declared.replacement.Replacement.{Replacement}
use Rattle.slice_planner.specs.ColumnPlans.{IsColumnPlan}
use Rattle.slice_planner.specs.Slices.{IsSlicePlan}
use Rattle.column_reducer.specs.Reducing.{KeepsBudget, planned}
use Rattle.joint_prover.specs.Replacements.{extended_by}
use Rattle.joint_prover.specs.declared.verdict.Tried.{Tried}

-- The columns and gates are those that the first steps of a slice plan take.
pub record IsOfSlices (e : Extended) (tried : Tried) : Type 0 where
  pub steps : List Step
  pub slices : IsSlicePlan e steps
  pub count : ℕ
  pub columns : tried.columns.items ≡ (taken nothing (take count steps)).added
  pub gates : tried.gates.items ≡ (taken nothing (take count steps)).eliminated

-- A frontier of a slice plan with more monomials than the budget: its columns, its gates, and how many monomials it has.
pub record IsAbove (e : Extended) (s : Sides) (budget : ℕ) (tried : Tried) : Type 0 where
  pub of_slices : IsOfSlices e tried
  pub frontier : IsFrontier e tried.columns.items tried.gates.items
  pub size : HasSize (modulus e) (frontier_value e s tried.columns.items tried.gates.items) tried.size
  pub above : budget < tried.size

-- over the graph with this, or alone
pub record IsTried (g : Aig) (claim : Claim) (budget : ℕ) (r : Option Replacement) (tried : Tried) : Type 0 where
  pub rewritten : tried.rewritten ≡ is_some r
  pub above : IsAbove (extended_by g r) (sides_for claim g) budget tried

-- What was tried in this order: where an adder is used, the plan over the graph with it; and the plan over the graph.
abbrev pub AreTried : Aig → Claim → ℕ → Option Replacement → List Tried → Type 0
AreTried g claim budget None tried = (only : Tried) × (tried ≡ only ∷ []) × IsTried g claim budget None only
AreTried g claim budget (Some r) tried =
    (first : Tried) × (second : Tried) × (tried ≡ first ∷ second ∷ []) × IsTried g claim budget (Some r) first × IsTried g claim budget None second

-- ---- the plan that ended

-- No frontier of the plain order has more monomials than the budget.
abbrev pub IsWithinBudget : Aig → Claim → ℕ → Type 0
IsWithinBudget g claim budget = (t n : ℕ) → HasPlainSize (without_cut g) (sides_for claim g) t n → n ≤ budget

-- A plan that adds the columns from the last down, and no frontier of it has more monomials than the budget.
pub record EndsWithin (e : Extended) (s : Sides) (budget : ℕ) : Type 0 where
  pub steps : List Step
  pub columns : IsColumnPlan e steps
  pub within : KeepsBudget (planned e steps 0) s budget

-- And it is over this graph.
abbrev pub EndsWithinBy : Aig → Claim → ℕ → Option Replacement → Type 0
EndsWithinBy g claim budget r = EndsWithin (extended_by g r) (sides_for claim g) budget

-- Where something takes the place of outputs, the plan over the graph with it has passed the budget.
abbrev pub HasPassedBudget : Aig → Claim → ℕ → Option Replacement → Type 0
HasPassedBudget g claim budget used = (r : Replacement) → used ≡ Some r → (tried : Tried) × IsTried g claim budget (Some r) tried

-- The plan that ended kept to the budget. It is over the graph with what is in use; or over the graph alone, and a plan over that came
-- before it; or it is the plain one, and the slice plans came before it.
abbrev pub EndsOver : Aig → Claim → ℕ → Option Replacement → Option Replacement → Type 0
EndsOver g claim budget used (Some r) = (used ≡ Some r) × EndsWithinBy g claim budget (Some r)
EndsOver g claim budget used None =
    (HasPassedBudget g claim budget used × EndsWithinBy g claim budget None) ⊎
    (((tried : List Tried) × AreTried g claim budget used tried) × IsWithinBudget g claim budget)

-- A plan ended; or lines were drafted, over the graph with what is in use, or over the graph alone where nothing is.
abbrev pub IsProvedOver : Aig → Claim → ℕ → Option Replacement → Option Replacement → Type 0
IsProvedOver g claim budget used r = EndsOver g claim budget used r ⊎ (r ≡ used)
