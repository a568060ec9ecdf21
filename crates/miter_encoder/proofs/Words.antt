-- Words that proofs alone cite.
use Rattle.std.specs.Prelude.{◌<◌, ℕ, List, ◌≡◌, ◌++◌, ℤ, drop}
use Rattle.std.specs.List.{All}
use Rattle.graph_core.specs.Graph.Extended.{Extended}
use Rattle.miter_encoder.specs.declared.goal.Goal.{Goal}
use Rattle.miter_encoder.specs.ColumnGoals.{IsOfColumns, HasGoals}
use Rattle.std.specs.Option.{option_map}
use Rattle.graph_core.specs.declared.literal.Lit.{Lit}
use Rattle.clause_core.specs.Clause.{IsLiteral}
use Rattle.clause_core.specs.GateClauses.{clause_of}

-- so far, of the columns below a number
pub record AreGoalsBelow (e : Extended) (goals : List Goal) (k : ℕ) : Type 0 where
  pub each : All (IsOfColumns e.replaced) goals
  pub all : All (λ c. c.number < k → HasGoals goals c) e.replaced

-- the signed variables of the first n literals that are no constants
pub record Collects (items : List ℤ) (lits : List Lit) (n : ℕ) : Type 0 where
  pub literals : All IsLiteral items
  pub whole : clause_of lits ≡ option_map (λ c. items ++ c) (clause_of (drop n lits))
