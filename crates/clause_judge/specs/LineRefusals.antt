-- The first refusal of the lines of a clause certificate: a line and its cause.
use Rattle.std.specs.Prelude.{◌≡◌, ◌≢◌, ◌⊎◌, ℕ, ◌+◌, List, [], ◌∷◌, length}
use Rattle.std.specs.List.{Any}
use Rattle.graph_core.specs.Graph.Extended.{Extended}
use Rattle.graph_core.specs.Text.JudgedLines.{BeginsWith, Behind, Never, Unless}
use Rattle.clause_core.specs.Clause.{Clause, IsClauseInRange, SameSet}
use Rattle.clause_core.specs.ClauseLines.{ClauseLine, Removes, clause_in}
use Rattle.clause_core.specs.GateClauses.{gate_clauses}
use Rattle.clause_core.specs.UnitPropagation.{IsRup}
use Rattle.clause_core.specs.declared.line.Line.TheVariants.{Add, Delete}
use Rattle.drup_text.specs.ClauseTexts.{IsClauseLine}
use Rattle.drup_text.specs.HeaderRefusal as clausal
use Rattle.drup_text.specs.HeaderRefusal.{LineCause, NoSuchClause, NotImplied, Range, Text, TooLong}
use Rattle.clause_judge.specs.declared.fail.ClauseWhy.{ClauseWhy}
use Rattle.clause_judge.specs.declared.fail.ClauseWhy.TheVariants as why

-- the definitions' cause of that name
abbrev pub line_cause : ClauseWhy → LineCause
line_cause why.Text = clausal.Text
line_cause why.Range = clausal.Range
line_cause why.NotImplied = clausal.NotImplied
line_cause why.NoSuchClause = clausal.NoSuchClause

-- ---- one line

-- a lawful line takes the live clauses to the next ones
abbrev pub TakesClauses : List Clause → ClauseLine → List Clause → Type 0
TakesClauses live (Add c) next = IsRup live c × (next ≡ c ∷ live)
TakesClauses live (Delete c) next = Removes live c next

abbrev pub IsClauseStep : Extended → List Clause → ClauseLine → List Clause → Type 0
IsClauseStep e live x next = IsClauseInRange e.max (clause_in x) × TakesClauses live x next

-- its rule fails: an added clause doesn't follow, or no live clause has the set of a deleted one
abbrev pub IsRefusedClause : List Clause → ClauseLine → LineCause → Type 0
IsRefusedClause live (Add c) = Unless (IsRup live c) (¬ (IsRup live c)) NotImplied Never
IsRefusedClause live (Delete c) = Unless (Any (λ d. SameSet d c) live) (¬ (Any (λ d. SameSet d c) live)) NoSuchClause Never

-- its first cause over the live clauses: its range, and then its rule
abbrev pub IsRefusedClauseLine : Extended → List Clause → ClauseLine → LineCause → Type 0
IsRefusedClauseLine e live x = Unless (IsClauseInRange e.max (clause_in x)) (¬ (IsClauseInRange e.max (clause_in x))) Range (IsRefusedClause live x)

-- ---- the lines after a header

-- what is wrong where bytes are left after lawful lines
abbrev pub IsRefusedClauseText : Extended → List Clause → List ℕ → LineCause → Type 0
IsRefusedClauseText e live bytes cause =
    (((x : ClauseLine) (rest : List ℕ) → BeginsWith IsClauseLine bytes x rest → ⊥) × (bytes ≢ []) × (cause ≡ Text)) ⊎
    ((x : ClauseLine) × (rest : List ℕ) × BeginsWith IsClauseLine bytes x rest × IsRefusedClauseLine e live x cause)

abbrev pub IsRefusedNextClause : Extended → (List ℕ → Type 0) → List Clause → List ℕ → LineCause → Type 0
IsRefusedNextClause e IsLong live bytes = Unless (¬ (IsLong bytes)) (IsLong bytes) TooLong (IsRefusedClauseText e live bytes)

-- the first refusal of the lines from this number on
abbrev pub IsRefusedLines : (List ℕ → Type 0) → Extended → ℕ → List ℕ → ℕ × LineCause → Type 0
IsRefusedLines IsLong e number bytes p =
    (lines : List ClauseLine) × (cause : LineCause) ×
    Behind IsClauseLine (IsClauseStep e) IsLong (λ live left. IsRefusedNextClause e IsLong live left cause) lines (gate_clauses e.gates) bytes ×
    (p ≡ (number + length lines, cause))
