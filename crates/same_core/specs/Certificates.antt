-- The clause certificate of two graphs, over their merged gates: when it is lawful, and its first refusal.
use Rattle.std.specs.Prelude.{◌≡◌, ◌≢◌, ◌⊎◌, ℕ, List, ◌++◌, length}
use Rattle.std.specs.List.{All}
use Rattle.graph_core.specs.Graph.Extended.{Extended}
use Rattle.graph_core.specs.Graph.{Aig, IsWellFormed}
use Rattle.graph_core.specs.Text.JudgedLines.{IsExact, IsTooLong, IsWithin, Lengths, Unless}
use Rattle.clause_core.specs.Clause.{IsClauseInRange}
use Rattle.clause_core.specs.ClauseLines.{AreGoalsShown, AreLawfulClauses, ClauseLine, IsGoalRefusal, clause_in}
use Rattle.clause_core.specs.GateClauses.{gate_clauses}
use Rattle.clause_judge.specs.Faults.{ClauseFault, Goals, Line}
use Rattle.clause_judge.specs.LineRefusals.{IsRefusedLines}
use Rattle.drup_text.specs.HeaderRefusal.{LineCause, Text, TooLong}
use Rattle.drup_text.specs.SameFiles.{IsSameFile, same_line}
use Rattle.same_core.specs.Merged.{AgreeOnInputs, AreOfOneShape, merged}

-- A file within the lengths with these lines, each of which is lawful after those before it, whatever the goals.
pub record HasLawfulMergedLines (lengths : Lengths) (e : Extended) (bytes : List ℕ) (lines : List ClauseLine) : Type 0 where
  pub text : IsSameFile bytes lines
  pub in_range : All (λ x. IsClauseInRange e.max (clause_in x)) lines
  pub lawful : AreLawfulClauses (gate_clauses e.gates) lines
  pub within : IsWithin lengths bytes

-- Its lines are lawful, and every goal is met or shown by an added clause.
pub record IsLawful (lengths : Lengths) (e : Extended) (bytes : List ℕ) : Type 0 where
  pub lines : List ClauseLine
  pub lawful : HasLawfulMergedLines lengths e bytes lines
  pub shown : AreGoalsShown lines e

-- The first line that is refused, from 1, and its cause.
abbrev pub IsMergedLineRefusal : Lengths → Extended → List ℕ → ℕ × LineCause → Type 0
IsMergedLineRefusal lengths e bytes = Unless (¬ (IsTooLong lengths (length bytes) bytes)) (IsTooLong lengths (length bytes) bytes) (1, TooLong)
    (λ p. (((body : List ℕ) → bytes ≢ same_line ++ body) × (p ≡ (1, Text))) ⊎
    ((body : List ℕ) × (bytes ≡ same_line ++ body) × IsRefusedLines (IsTooLong lengths (length bytes)) e 2 body p))

-- Every line is lawful, and this is the least output with a goal that isn't shown.
abbrev pub IsOutputRefusal : Lengths → Extended → List ℕ → ℕ → Type 0
IsOutputRefusal lengths e bytes output = (lines : List ClauseLine) × HasLawfulMergedLines lengths e bytes lines × IsGoalRefusal e lines output

-- The first refusal of a file.
abbrev pub IsMergedFileRefusal : Lengths → Extended → List ℕ → ClauseFault → Type 0
IsMergedFileRefusal lengths e bytes (Line p) = IsMergedLineRefusal lengths e bytes p
IsMergedFileRefusal lengths e bytes (Goals output) = IsOutputRefusal lengths e bytes output

-- ---- laws

-- A file is lawful, or it has one first refusal, and never both.
abbrev pub CertificatesAreExact : Type 0
CertificatesAreExact = (lengths : Lengths) (e : Extended) (bytes : List ℕ) → IsExact (IsLawful lengths e bytes) (IsMergedFileRefusal lengths e bytes)

-- Two graphs with a lawful certificate agree on all inputs.
abbrev pub LawfulGraphsAgree : Type 0
LawfulGraphsAgree = (lengths : Lengths) (g h : Aig) (bytes : List ℕ) → IsWellFormed g → IsWellFormed h → AreOfOneShape g h →
    IsLawful lengths (merged g h) bytes → AgreeOnInputs g h
