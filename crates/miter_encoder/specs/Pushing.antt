-- Goals that are appended, one after the other. Private clauses alone cite it.
use Rattle.std.specs.Prelude.{◌≡◌, ℕ, List, [], ◌∷◌, ◌++◌}
use Rattle.std.specs.declared.option.Option.{Option}
use Rattle.graph_core.specs.declared.literal.Lit.{Lit}
use Rattle.graph_core.specs.Graph.Literals.{negation_of}
use Rattle.clause_core.specs.Clause.{Clause}
use Rattle.clause_core.specs.GateClauses.{clause_of}
use Rattle.miter_encoder.specs.ColumnGoals.{IsGoalOf}
use Rattle.miter_encoder.specs.declared.goal.Goal.{Goal}

abbrev pub PushesGoal : List Goal → List Goal → ℕ → Option Clause → Type 0
PushesGoal old new column o = (g : Goal) × (new ≡ old ++ g ∷ []) × IsGoalOf column o g

abbrev pub PushesGoals : List Goal → List Goal → ℕ → Lit → Lit → Type 0
PushesGoals old new column before after = (g h : Goal) × (new ≡ old ++ g ∷ h ∷ []) ×
    IsGoalOf column (clause_of (negation_of before ∷ after ∷ [])) g × IsGoalOf column (clause_of (before ∷ negation_of after ∷ [])) h
