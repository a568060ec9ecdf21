-- Clauses that are shown on their own.
use Rattle.std.specs.Prelude.{◌≡◌, ◌⊎◌, Bool, true, false, ⊤, List, [], ◌++◌}
use Rattle.std.specs.declared.option.Option.TheVariants.{None}
use Rattle.std.specs.List.{Contains}
use Rattle.clause_core.specs.Clause.{Clause, IsSubset}
use Rattle.clause_core.specs.UnitPropagation.{IsRup}
use Rattle.cdcl_solver.specs.Logs.{LogView}
use Rattle.cdcl_solver.specs.Solvers.{SolverView, TurnsSearch}

-- no live clause is within the clause
abbrev pub HasNoneWithin : List Clause → Clause → Type 0
HasNoneWithin live c = (d : Clause) → Contains live d → ¬ (IsSubset d c)

-- Where it is said, the clause follows by unit propagation over the clauses and what the log left.
abbrev pub IsShownByLog : List Clause → Clause → LogView → Bool → Type 0
IsShownByLog live c log true = IsRup (log.left ++ live) c
IsShownByLog live c log false = ⊤

-- Nothing changed, or a lemma is logged and live.
abbrev pub KeepsOrLearns : SolverView → LogView → SolverView → LogView → Type 0
KeepsOrLearns old log new after = ((new ≡ old) × (after ≡ log)) ⊎ TurnsSearch old log new after [] None
