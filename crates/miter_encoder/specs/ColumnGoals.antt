-- The goals of columns, as of those that an extended graph replaces, in any order.
use Rattle.std.specs.Prelude.{◌≡◌, ◌<◌, ◌⊎◌, ◌+◌, ℕ, true, false, List, [], ◌∷◌}
use Rattle.std.specs.declared.option.Option.{Option}
use Rattle.std.specs.declared.option.Option.TheVariants.{None, Some}
use Rattle.std.specs.List.{All, Any}
use Rattle.graph_core.specs.Graph.Assignments.{Assignment, literal}
use Rattle.graph_core.specs.declared.literal.Lit.{Lit}
use Rattle.graph_core.specs.Graph.Extended.{Column, Extended}
use Rattle.clause_core.specs.Clause.{Clause, SameSet, holds}
use Rattle.clause_core.specs.GateClauses.{goals_of}
use Rattle.miter_encoder.specs.declared.goal.Goal.{Goal}

-- of the column, and met where there is no clause, or else the clause as a set
abbrev pub IsGoalOf : ℕ → Option Clause → Goal → Type 0
IsGoalOf column None g = (g.column ≡ column) × (g.met ≡ true)
IsGoalOf column (Some d) g = (g.column ≡ column) × (g.met ≡ false) × SameSet g.clause d

-- it is met, or its clause holds
abbrev pub GoalHolds : Assignment → Goal → Type 0
GoalHolds σ g = (g.met ≡ true) ⊎ (holds σ g.clause ≡ true)

-- the goal is one of a replaced column's
abbrev pub IsOfColumns : List Column → Goal → Type 0
IsOfColumns columns g = Any (λ c. Any (λ o. IsGoalOf c.number o g) (goals_of c)) columns

-- each of the column's goals is there
abbrev pub HasGoals : List Goal → Column → Type 0
HasGoals goals c = All (λ o. Any (IsGoalOf c.number o) goals) (goals_of c)

-- They are those of the columns, and all of them.
pub record AreGoalsOfColumns (columns : List Column) (goals : List Goal) : Type 0 where
  pub each : All (IsOfColumns columns) goals
  pub all : All (HasGoals goals) columns

-- those of the replaced columns
abbrev pub AreGoalsOf : Extended → List Goal → Type 0
AreGoalsOf e goals = AreGoalsOfColumns e.replaced goals

-- the columns of pairs from this number on: of each pair the first literal is the old output, and the second the new one
abbrev pub columns_from : ℕ → List (Lit × Lit) → List Column
columns_from k [] = []
columns_from k (p ∷ pairs) = record { number = k; old = p.0; new = p.1 } ∷ columns_from (k + 1) pairs

-- the two literals of each pair are equal
abbrev pub AgreeOnPairs : List (Lit × Lit) → Assignment → Type 0
AgreeOnPairs pairs σ = All (λ p. literal σ p.0 ≡ literal σ p.1) pairs
