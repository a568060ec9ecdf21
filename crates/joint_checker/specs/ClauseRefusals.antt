-- The first refusal of a clause certificate: a line and its cause, or else a column whose goals aren't shown.
use Rattle.std.specs.Prelude.{ℕ, List, length}
use Rattle.algebra_core.specs.AlgebraLines.{Premises}
use Rattle.algebra_core.specs.Agreement.{AreSamePremises}
use Rattle.graph_core.specs.Graph.{Aig}
use Rattle.graph_core.specs.Text.JudgedLines.{IsExact, IsTooLong, Lengths}
use Rattle.clause_core.specs.ClauseLines.{ClauseLine, IsGoalRefusal}
use Rattle.clause_judge.specs.Faults.{ClauseFault, Goals, Line}
use Rattle.clause_judge.specs.LineRefusals.{IsRefusedLines}
use Rattle.drup_text.specs.HeaderRefusal.{IsFirstHeaderRefusal, LineCause}
use Rattle.drup_text.specs.declared.head.Header.{Header}
use Rattle.drup_text.specs.Headers.{extended_with}
use Rattle.pair_core.specs.ClauseFiles.{GivesPremises, HasLawfulLines}

-- The first line that is refused, from 1, and its cause.
abbrev pub IsClauseRefusal : Lengths → Aig → List ℕ → ℕ × LineCause → Type 0
IsClauseRefusal lengths g bytes = IsFirstHeaderRefusal (IsRefusedLines (IsTooLong lengths (length bytes))) g lengths bytes

-- Every line is lawful, and this is the least replaced column with a goal that isn't shown.
abbrev pub IsColumnRefusal : Lengths → Aig → List ℕ → ℕ → Type 0
IsColumnRefusal lengths g bytes column =
    (header : Header) × (lines : List ClauseLine) × HasLawfulLines lengths g bytes header lines × IsGoalRefusal (extended_with g header) lines column

-- The first refusal of a clause file, which gives no premises then.
abbrev pub IsFileRefusal : Lengths → Aig → List ℕ → ClauseFault → Type 0
IsFileRefusal lengths g bytes (Line p) = IsClauseRefusal lengths g bytes p
IsFileRefusal lengths g bytes (Goals column) = IsColumnRefusal lengths g bytes column

-- A clause file gives premises for a graph, or it has one first refusal, and never both; all premises that it gives say the same.
pub record ClausesAreExact : Type 0 where
  pub exact : (lengths : Lengths) (g : Aig) (bytes : List ℕ) → IsExact ((p : Premises) × GivesPremises lengths g bytes p) (IsFileRefusal lengths g bytes)
  pub one : (lengths : Lengths) (g : Aig) (bytes : List ℕ) (p q : Premises) →
      GivesPremises lengths g bytes p → GivesPremises lengths g bytes q → AreSamePremises p q
