-- Logs whose lines add and delete, and clauses that come and go alike in a solver and in its log.
use Rattle.std.specs.Prelude.{◌≡◌, ◌⊎◌, ℕ, ◌+◌, Bool, true, false, List, [], ◌∷◌, ◌++◌, length, count_by}
use Rattle.clause_core.specs.Clause.{Clause}
use Rattle.clause_core.specs.ClauseLines.{added, clause_in}
use Rattle.clause_core.specs.Log.{IsSpacedLine, Spacing, spacing_of}
use Rattle.clause_core.specs.declared.line.Line.{Line}
use Rattle.clause_core.specs.declared.line.Line.TheVariants.{Add, Delete}
use Rattle.cdcl_solver.specs.Logs.{LeavesLive, LogView}

-- no line deletes
abbrev pub AreAdditions : List Line → Type 0
AreAdditions [] = Unit {0}
AreAdditions (Add c ∷ lines) = AreAdditions lines
AreAdditions (Delete c ∷ lines) = ⊥

-- each line after those of the old log adds
abbrev pub OnlyAdds : LogView → LogView → Type 0
OnlyAdds old new = (more : List Line) → new.lines ≡ old.lines ++ more → AreAdditions more

-- ---- what is live

-- the clauses of the lines that are marked, the latest first, before those live already
abbrev pub left_by : List Clause → List Line → List Bool → List Clause
left_by own [] marks = own
left_by own (x ∷ lines) [] = own
left_by own (x ∷ lines) (true ∷ marks) = left_by (clause_in x ∷ own) lines marks
left_by own (x ∷ lines) (false ∷ marks) = left_by own lines marks

abbrev pub log_view_of : List Line → List Bool → LogView
log_view_of lines marks = record { lines = lines; left = left_by [] lines marks }

-- The marked lines' clauses are those left live; and how many lines add, and where the runs of deletions are.
pub record IsLog (lines : List Line) (marks : List Bool) (count : ℕ) (runs : Spacing) : Type 0 where
  pub even : length marks ≡ length lines
  pub leaves : LeavesLive [] lines (left_by [] lines marks)
  pub counted : count ≡ length (added lines)
  pub spacing : runs ≡ spacing_of lines

-- one clause less
abbrev pub Takes : List Clause → Clause → List Clause → Type 0
Takes live c next = (before after : List Clause) × (live ≡ before ++ c ∷ after) × (next ≡ before ++ after)

-- One more line, which deletes a clause where a deletion may come.
pub record DeletesLine (old : LogView) (c : Clause) (new : LogView) : Type 0 where
  pub lines : new.lines ≡ old.lines ++ Delete c ∷ []
  pub spaced : IsSpacedLine (spacing_of old.lines) (Delete c)
  pub left : Takes old.left c new.left

-- ---- a solver beside its log

-- of each kind there are as many clauses
abbrev pub AreAsMany : List Clause → List Clause → Type 0
AreAsMany a b = (kind : Clause → Bool) → count_by kind a ≡ count_by kind b

-- Of each kind as many clauses came or went in the solver as in what the log leaves.
abbrev pub ChangeAlike : List Clause → LogView → List Clause → LogView → Type 0
ChangeAlike live log now after = (kind : Clause → Bool) → count_by kind now + count_by kind log.left ≡ count_by kind live + count_by kind after.left

-- Nothing changed, or the solver and the log have one clause less.
abbrev pub StaysOrDeletes : List Clause → LogView → List Clause → LogView → Type 0
StaysOrDeletes live log now after = ((now ≡ live) × (after ≡ log)) ⊎ ((c : Clause) × Takes live c now × DeletesLine log c after)
