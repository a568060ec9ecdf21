-- A log as contracts see it: its lines, and the clauses that they leave live, the latest first.
use Rattle.std.specs.Prelude.{◌≡◌, ℕ, ◌+◌, ◌≤◌, List, [], ◌∷◌, ◌++◌, length}
use Rattle.std.specs.List.{All}
use Rattle.clause_core.specs.Clause.{Clause, IsClauseInRange}
use Rattle.clause_core.specs.ClauseLines.{Removes, added, clause_in}
use Rattle.clause_core.specs.Log.{AreLogLines, AreRunsSpaced, spacing_of}
use Rattle.clause_core.specs.declared.line.Line.{Line}
use Rattle.clause_core.specs.declared.line.Line.TheVariants.{Add, Delete}

pub record LogView : Type 0 where
  pub lines : List Line
  pub left : List Clause

-- the clauses that lines leave live, from those live before
abbrev pub LeavesLive : List Clause → List Line → List Clause → Type 0
LeavesLive own [] left = left ≡ own
LeavesLive own (Add c ∷ lines) left = LeavesLive (c ∷ own) lines left
LeavesLive own (Delete c ∷ lines) left = (next : List Clause) × Removes own c next × LeavesLive next lines left

-- one more added clause
abbrev pub with_added : LogView → Clause → LogView
with_added log c = record { lines = log.lines ++ Add c ∷ []; left = c ∷ log.left }

-- how many clauses the log adds
abbrev pub lemmas : LogView → ℕ
lemmas log = length (added log.lines)

-- More lines over the variables, each lawful over the clauses given and those left live then, and at most so many lemmas. Of the
-- earlier lines nothing is asked.
pub record Continues (max : ℕ) (given : List Clause) (limit : ℕ) (old new : LogView) : Type 0 where
  pub more : List Line
  pub lines : new.lines ≡ old.lines ++ more
  pub in_range : All (λ x. IsClauseInRange max (clause_in x)) more
  pub lawful : AreLogLines given [] old.left more new.left
  pub spaced : AreRunsSpaced (spacing_of old.lines) more
  pub few : lemmas new ≤ lemmas old + limit
