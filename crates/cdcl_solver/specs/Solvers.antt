-- A solver's state between two calls, and its turns.
use Rattle.std.specs.Prelude.{◌≡◌, ℕ, ◌<◌, Bool, true, List, [], ◌∷◌, ◌++◌, length, map, ℤ, neg_ℤ}
use Rattle.std.specs.declared.option.Option.{Option}
use Rattle.std.specs.declared.option.Option.TheVariants.{None, Some}
use Rattle.std.specs.List.{All, Contains}
use Rattle.clause_core.specs.Clause.{Clause, IsClauseInRange, Satisfies, signed}
use Rattle.clause_core.specs.Log.{IsLemma}
use Rattle.clause_core.specs.UnitPropagation.{IsRup}
use Rattle.unit_prop.specs.Standing.{Standing, live_of}
use Rattle.unit_prop.specs.Trail.{IsLiteralUpTo}
use Rattle.cdcl_solver.specs.Levels.{IsStage}
use Rattle.cdcl_solver.specs.Logs.{LogView, with_added}
use Rattle.cdcl_solver.specs.Orders.{OrderView, Covers}
use Rattle.cdcl_solver.specs.Solving.{assignment_of}
use Rattle.cdcl_solver.specs.declared.solved.Solved.{Solved}
use Rattle.cdcl_solver.specs.declared.solver.Turn.{Turn}
use Rattle.cdcl_solver.specs.declared.solver.Turn.TheVariants.{Learnt, Ends, GivenUp}
use Rattle.cdcl_solver.specs.declared.solved.Solved.TheVariants.{Refuted, Model, Spent}

-- the greatest variable, and the clauses that are live, in the order in which they came
pub record SolverView : Type 0 where
  pub max : ℕ
  pub live : List Clause

-- one more clause is live
abbrev pub with_clause : SolverView → Clause → SolverView
with_clause s c = record { max = s.max; live = s.live ++ c ∷ [] }

-- Between two calls: clauses over the variables, each of which is decided, and moments to go back to.
pub record IsReady (max : ℕ) (s : Standing) (order : OrderView) (base : ℕ) (marks : List ℕ) : Type 0 where
  pub small : max < 2147483648
  pub greatest : s.trail.greatest ≡ max
  pub ordered : order.greatest ≡ max
  pub covers : Covers order.vars (live_of s.clauses)
  pub within : (c : Clause) → Contains (live_of s.clauses) c → (l : ℤ) → Contains c l → IsLiteralUpTo max l
  pub stage : IsStage s base marks

-- what is known of the assumptions at an answer: they are refuted, or true in a model, or neither is known
abbrev pub IsSolverEnd : SolverView → List ℤ → Solved → Type 0
IsSolverEnd s assumptions Refuted = IsRup s.live (map neg_ℤ assumptions)
IsSolverEnd s assumptions (Model values) =
    (length values.items ≡ s.max) × Satisfies (assignment_of values.items) s.live × All (λ l. signed (assignment_of values.items) l ≡ true) assumptions
IsSolverEnd s assumptions Spent = IsRup s.live (map neg_ℤ assumptions) → ⊥

-- One turn: it ends, or a lemma is learnt and logged.
abbrev pub TurnsSearch : SolverView → LogView → SolverView → LogView → List ℤ → Option Solved → Type 0
TurnsSearch old log new after assumptions None =
    (c : Clause) × IsLemma old.live c × IsClauseInRange old.max c × (new ≡ with_clause old c) × (after ≡ with_added log c)
TurnsSearch old log new after assumptions (Some Spent) = ⊥
TurnsSearch old log new after assumptions (Some Refuted) = IsSolverEnd old assumptions Refuted × (new ≡ old) × (after ≡ log)
TurnsSearch old log new after assumptions (Some (Model values)) = IsSolverEnd old assumptions (Model values) × (new ≡ old) × (after ≡ log)

-- The same, or it is given up where a few decisions are enough.
abbrev pub IsTurn : SolverView → LogView → SolverView → LogView → List ℤ → Bool → Turn → Type 0
IsTurn old log new after assumptions few Learnt = TurnsSearch old log new after assumptions None
IsTurn old log new after assumptions few (Ends solved) = TurnsSearch old log new after assumptions (Some solved)
IsTurn old log new after assumptions few GivenUp = (few ≡ true) × (new ≡ old) × (after ≡ log)
