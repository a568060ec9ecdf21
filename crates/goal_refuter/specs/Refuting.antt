-- The refutation of one goal's negation, and of all.
use Rattle.std.specs.Prelude.{◌≡◌, ℕ, ◌+◌, ◌≤◌, Bool, false, List, ◌++◌, length}
use Rattle.std.specs.List.{All}
use Rattle.graph_core.specs.Graph.Extended.{AgreeOnColumns, Extended}
use Rattle.graph_core.specs.Graph.{IsEvaluation}
use Rattle.clause_core.specs.Clause.{Clause, IsClauseInRange, Satisfies, holds}
use Rattle.clause_core.specs.GateClauses.{gate_clauses}
use Rattle.clause_core.specs.Likeness.{AreSameSets}
use Rattle.clause_core.specs.UnitPropagation.{IsRup}
use Rattle.cdcl_solver.specs.Loading.{SameLive}
use Rattle.cdcl_solver.specs.Logs.{Continues, LogView, lemmas, with_added}
use Rattle.cdcl_solver.specs.Solvers.{SolverView}
use Rattle.cdcl_solver.specs.Solving.{assignment_of}
use Rattle.cdcl_solver.specs.declared.solved.Solved.{Solved}
use Rattle.cdcl_solver.specs.declared.solved.Solved.TheVariants as solved
use Rattle.goal_refuter.specs.Refutations.{IsRefutationLog, IsSpent, unmet_goals}
use Rattle.goal_refuter.specs.declared.refuting.Outcome.{Outcome}
use Rattle.goal_refuter.specs.declared.refuting.Outcome.TheVariants as outcome

-- The goal follows from what lemmas left live, and was added after them.
pub record IsShownNext (max : ℕ) (given : List Clause) (goal : Clause) (conflicts : ℕ) (old new : LogView) : Type 0 where
  pub between : LogView
  pub continues : Continues max given conflicts old between
  pub rup : IsRup (between.left ++ given) goal
  pub added_is : new ≡ with_added between goal

-- The conflicts are spent, and the goal doesn't follow.
pub record IsGoalSpent (max : ℕ) (given : List Clause) (goal : Clause) (conflicts : ℕ) (old new : LogView) : Type 0 where
  pub continues : Continues max given conflicts old new
  pub spent : lemmas new ≡ lemmas old + conflicts
  pub next : ¬ (IsRup (new.left ++ given) goal)

-- A model of the clauses at which the goal doesn't hold.
pub record IsCounterexample (max : ℕ) (given : List Clause) (goal : Clause) (values : List Bool) : Type 0 where
  pub all : length values ≡ max
  pub satisfies : Satisfies (assignment_of values) given
  pub fails : holds (assignment_of values) goal ≡ false

-- what comes of the negation of a goal
abbrev pub IsRefutation : ℕ → List Clause → Clause → ℕ → LogView → LogView → Solved → Type 0
IsRefutation max given goal conflicts old new solved.Refuted = IsShownNext max given goal conflicts old new
IsRefutation max given goal conflicts old new (solved.Model values) = IsCounterexample max given goal values.items
IsRefutation max given goal conflicts old new solved.Spent = IsGoalSpent max given goal conflicts old new

-- The log of the first goals, with at most as many lemmas as there may be conflicts.
pub record IsSoFar (e : Extended) (conflicts goals : ℕ) (log : LogView) : Type 0 where
  pub lemmas_are : ℕ
  pub few : lemmas_are ≤ conflicts
  pub log_is : IsRefutationLog e goals lemmas_are log

-- The solver's clauses are these, and those that the log left.
pub record IsKeptOver (max : ℕ) (given : List Clause) (solver : SolverView) (log : LogView) : Type 0 where
  pub max_is : solver.max ≡ max
  pub live : SameLive solver.live (log.left ++ given)
  pub in_range : All (IsClauseInRange max) log.left

-- An evaluation on which an old and a new output differ.
pub record IsDiffering (e : Extended) (values : List Bool) : Type 0 where
  pub all : length values ≡ e.max
  pub evaluation : IsEvaluation e.gates (assignment_of values)
  pub differ : ¬ (AgreeOnColumns e (assignment_of values))

-- what comes of all goals
abbrev pub IsGoalsOutcome : Extended → ℕ → Outcome → Type 0
IsGoalsOutcome e conflicts (outcome.Refuted log) = IsSoFar e conflicts (length (unmet_goals e)) log
IsGoalsOutcome e conflicts (outcome.Model values) = IsDiffering e values.items
IsGoalsOutcome e conflicts (outcome.Spent goal log) = IsSpent e conflicts conflicts goal log

-- ---- over a list of clauses

-- The clauses have the sets of the clauses of the gates, and the goals those of the goals that aren't met.
pub record AreOver (e : Extended) (max : ℕ) (clauses goals : List Clause) : Type 0 where
  pub max_is : e.max ≡ max
  pub clauses_are : AreSameSets clauses (gate_clauses e.gates)
  pub goals_are : AreSameSets goals (unmet_goals e)

-- Whichever gates and columns they are of, on these values an old and a new output differ.
abbrev pub IsDifferingOver : ℕ → List Clause → List Clause → List Bool → Type 0
IsDifferingOver max clauses goals values = (e : Extended) → AreOver e max clauses goals → IsDiffering e values

-- Whichever gates and columns they are of, this comes of all goals.
abbrev pub IsOutcomeOver : ℕ → List Clause → List Clause → ℕ → Outcome → Type 0
IsOutcomeOver max clauses goals conflicts outcome = (e : Extended) → AreOver e max clauses goals → IsGoalsOutcome e conflicts outcome
