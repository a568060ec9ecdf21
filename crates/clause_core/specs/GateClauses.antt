-- The clauses of gates, and the two goals of a replaced column.
use Rattle.std.specs.Prelude.{◌≡◌, ◌↔◌, ℕ, ◌%◌, ◌≤◌, List, [], ◌∷◌, ℤ, pos, neg_ℤ, if◌then◌else◌, ◌==◌}
use Rattle.std.specs.declared.option.Option.{Option}
use Rattle.std.specs.declared.option.Option.TheVariants.{None, Some}
use Rattle.std.specs.Option.{option_map}
use Rattle.std.specs.List.{All, flat_map, filter_map}
use Rattle.graph_core.specs.declared.literal.Lit.{Lit}
use Rattle.graph_core.specs.declared.gate.Gate.{Gate}
use Rattle.graph_core.specs.Graph.Literals.{variable_of, negation_of, plain, inverted}
use Rattle.graph_core.specs.Graph.Assignments.{Assignment, literal}
use Rattle.graph_core.specs.Graph.{IsEvaluation}
use Rattle.graph_core.specs.Graph.Extended.{Column}
use Rattle.clause_core.specs.Clause.{Clause, IsClauseInRange, Satisfies}

-- the signed variable of a literal that is no constant
abbrev pub signed_of : Lit → ℤ
signed_of l = if l.0 % 2 == 0 then pos (variable_of l) else neg_ℤ (pos (variable_of l))

-- The clause of some literals: a constant that is false is left out, and one that is true leaves no clause.
abbrev pub clause_of : List Lit → Option Clause
clause_of [] = Some []
clause_of (l ∷ ls) = if l.0 == 1 then None else (if l.0 == 0 then clause_of ls else option_map (λ c. signed_of l ∷ c) (clause_of ls))

-- the literals of the three clauses of v = a AND b: not v or a, not v or b, v or not a or not b
abbrev pub gate_literals : Gate → List (List Lit)
gate_literals g = (inverted g.v ∷ g.left ∷ []) ∷ (inverted g.v ∷ g.right ∷ []) ∷ (plain g.v ∷ negation_of g.left ∷ negation_of g.right ∷ []) ∷ []

abbrev pub gate_clauses : List Gate → List Clause
gate_clauses gates = filter_map clause_of (flat_map gate_literals gates)

-- A goal of a replaced column says that its old output implies the new one, or the other way round.
abbrev pub goals_of : Column → List (Option Clause)
goals_of c = clause_of (negation_of c.old ∷ c.new ∷ []) ∷ clause_of (c.old ∷ negation_of c.new ∷ []) ∷ []

-- a goal that was dropped for a constant that is true is met, and any other holds
abbrev pub IsMet : Assignment → Option Clause → Type 0
IsMet σ None = Unit {0}
IsMet σ (Some c) = Satisfies σ (c ∷ [])

-- An assignment satisfies the clauses of gates exactly where it is an evaluation of them.
abbrev pub GateClausesMeanEvaluation : Type 0
GateClausesMeanEvaluation = (gates : List Gate) (σ : Assignment) → Satisfies σ (gate_clauses gates) ↔ IsEvaluation gates σ

-- Both goals of a column hold exactly where its old and its new output are equal.
abbrev pub GoalsMeanEquality : Type 0
GoalsMeanEquality = (c : Column) (σ : Assignment) → All (IsMet σ) (goals_of c) ↔ (literal σ c.old ≡ literal σ c.new)

-- the gates' variables are at least 1, and those that they name at most the greatest one
pub record AreGatesWithin (max : ℕ) (gates : List Gate) : Type 0 where
  pub own : All (λ x. (1 ≤ x.v) × (x.v ≤ max)) gates
  pub operands : All (λ x. (variable_of x.left ≤ max) × (variable_of x.right ≤ max)) gates

-- The clauses of such gates are in range, and so are the goals of columns.
abbrev pub GateClausesAreInRange : Type 0
GateClausesAreInRange = (max : ℕ) (gates : List Gate) → AreGatesWithin max gates → All (IsClauseInRange max) (gate_clauses gates)

abbrev pub IsGoalInRange : ℕ → Option Clause → Type 0
IsGoalInRange max None = Unit {0}
IsGoalInRange max (Some c) = IsClauseInRange max c

abbrev pub GoalsAreInRange : Type 0
GoalsAreInRange = (max : ℕ) (c : Column) → variable_of c.old ≤ max → variable_of c.new ≤ max → All (IsGoalInRange max) (goals_of c)
