-- Logs of lemmas that stand before the first goal.
use Rattle.std.specs.Prelude.{ℕ, Bool, true, false, List, [], ◌∷◌, ◌++◌}
use Rattle.graph_core.specs.declared.literal.Lit.{Lit}
use Rattle.graph_core.specs.Graph.Extended.{Extended}
use Rattle.graph_core.specs.Graph.Literals.{negation_of}
use Rattle.clause_core.specs.Clause.{Clause}
use Rattle.clause_core.specs.GateClauses.{signed_of}
use Rattle.clause_core.specs.UnitPropagation.{IsRup}
use Rattle.cdcl_solver.specs.Deletions.{AreAsMany}
use Rattle.cdcl_solver.specs.Logs.{Continues, LogView}
use Rattle.cdcl_solver.specs.Solvers.{SolverView}
use Rattle.goal_refuter.specs.Refuting.{AreOver, IsGoalsOutcome, IsKeptOver}
use Rattle.goal_refuter.specs.declared.refuting.Outcome.{Outcome}

-- The log has lemmas over the clauses, at most as many as there may be conflicts, and the solver's clauses are these and what it left.
pub record IsBegun (max : ℕ) (given : List Clause) (conflicts : ℕ) (solver : SolverView) (log : LogView) : Type 0 where
  pub lemmas_only : Continues max given conflicts (record { lines = []; left = [] }) log
  pub kept : IsKeptOver max given solver log

-- it stays so
abbrev pub StaysBegun : ℕ → SolverView → LogView → SolverView → LogView → Type 0
StaysBegun conflicts solver log after next = (max : ℕ) (given : List Clause) → IsBegun max given conflicts solver log → IsBegun max given conflicts after next

-- that each of two literals implies the other follows by unit propagation from the live clauses
abbrev pub AreShownEqual : List Clause → Lit → Lit → Type 0
AreShownEqual live one other =
    IsRup live (signed_of (negation_of one) ∷ signed_of other ∷ []) × IsRup live (signed_of one ∷ signed_of (negation_of other) ∷ [])

-- Whichever clauses, gates and columns they are of, this comes of all goals after the log.
abbrev pub IsOutcomeBehind : SolverView → LogView → List Clause → ℕ → Outcome → Type 0
IsOutcomeBehind solver log goals conflicts outcome = (e : Extended) (given : List Clause) →
    AreOver e solver.max given goals → IsBegun solver.max given conflicts solver log → IsGoalsOutcome e conflicts outcome

-- ---- with deletions

-- Where lemmas may be deleted, each clause is as often live as among those that the log left and those given.
abbrev pub KeepsCount : Bool → List Clause → List Clause → List Clause → Type 0
KeepsCount false live left given = Unit {0}
KeepsCount true live left given = AreAsMany live (left ++ given)

abbrev pub IsBegunFor : Bool → ℕ → List Clause → ℕ → SolverView → LogView → Type 0
IsBegunFor forgets max given conflicts solver log = IsBegun max given conflicts solver log × KeepsCount forgets solver.live log.left given

abbrev pub IsOutcomeFor : Bool → SolverView → LogView → List Clause → ℕ → Outcome → Type 0
IsOutcomeFor forgets solver log goals conflicts outcome = (e : Extended) (given : List Clause) →
    AreOver e solver.max given goals → IsBegunFor forgets solver.max given conflicts solver log → IsGoalsOutcome e conflicts outcome

-- The same, where lemmas may be deleted.
abbrev pub IsBegunAlike : ℕ → List Clause → ℕ → SolverView → LogView → Type 0
IsBegunAlike max given conflicts solver log = IsBegunFor true max given conflicts solver log

-- it stays so
abbrev pub StaysBegunAlike : ℕ → SolverView → LogView → SolverView → LogView → Type 0
StaysBegunAlike conflicts solver log after next =
    (max : ℕ) (given : List Clause) → IsBegunAlike max given conflicts solver log → IsBegunAlike max given conflicts after next

-- Whichever clauses, gates and columns they are of, this comes of all goals after such a log.
abbrev pub IsOutcomeAlike : SolverView → LogView → List Clause → ℕ → Outcome → Type 0
IsOutcomeAlike solver log goals conflicts outcome = IsOutcomeFor true solver log goals conflicts outcome
