-- What stands after the header of a clause file, over any gates: when it is lawful, and its first refusal.
use Rattle.std.specs.Prelude.{◌≡◌, ◌+◌, ◌*◌, ◌<◌, ◌≤◌, ◌^◌, ℕ, List, [], length, IfErr, IfOk, IfSome, OnOk, Result, ⊤}
use Rattle.std.specs.declared.option.Option.{Option}
use Rattle.std.specs.declared.option.Option.TheVariants.{None, Some}
use Rattle.graph_core.specs.declared.gate.Gate.{Gate}
use Rattle.graph_core.specs.Graph.Extended.{Extended, AgreeOnColumns}
use Rattle.graph_core.specs.Text.JudgedLines.{Behind}
use Rattle.mv_fact.specs.Always.{Always}
use Rattle.clause_core.specs.Clause.{Clause, IsClauseInRange}
use Rattle.clause_core.specs.ClauseLines.{AreGoalsShown, ClauseLine, IsGoalRefusal, added, clause_in}
use Rattle.clause_core.specs.GateClauses.{gate_clauses}
use Rattle.clause_core.specs.Likeness.{AreSameSets}
use Rattle.drup_checker.specs.Checking.{Checking, kept}
use Rattle.drup_checker.specs.declared.keeps.Keeps.{Keeps}
use Rattle.drup_text.specs.ClauseTexts.{IsClauseLine}
use Rattle.mv_text.specs.CertificateFiles.{FileState, GoesOn, left_of_file}
use Rattle.drup_text.specs.HeaderSteps.{IsLongIn}
use Rattle.miter_encoder.specs.ColumnGoals.{AreGoalsOf}
use Rattle.miter_encoder.specs.declared.goal.Goal.{Goal}
use Rattle.mv_desk.specs.View.{View}
use Rattle.mv_desk.specs.declared.slot.Slot.TheVariants as slot
use Rattle.mv_text.specs.LineReading.{Lines}
use Rattle.clause_judge.specs.declared.fail.ClauseFail.{ClauseFail}
use Rattle.clause_judge.specs.ClauseLines.{ReadsNext}
use Rattle.clause_judge.specs.Fails.{IsFailOf}
use Rattle.clause_judge.specs.LineRefusals.{IsClauseStep, IsRefusedLines}
use Rattle.clause_judge.specs.Taking.{HasTaken, IsShownOver}
use Rattle.clause_judge.specs.declared.judging.JudgeClauses.{JudgeClauses}

-- the file ends there
abbrev pub Ends : (List ℕ → Type 0) → List Clause → List ℕ → Type 0
Ends IsLong live bytes = ¬ (IsLong bytes) × (bytes ≡ [])

-- From these live clauses on the lines are lawful, no line is too long, and nothing stands after them.
abbrev pub Pass : Extended → (List ℕ → Type 0) → List ClauseLine → List Clause → List ℕ → Type 0
Pass e IsLong = Behind IsClauseLine (IsClauseStep e) IsLong (Ends IsLong)

abbrev pub HasPassed : Extended → Lines → List ClauseLine → List ℕ → Type 0
HasPassed e lines xs body = Pass e (IsLongIn lines body) xs (gate_clauses e.gates) body

-- The lines after the header are lawful, where this reader has them before it, and they show each goal.
abbrev pub IsShownBody : Extended → Lines → List ℕ → Type 0
IsShownBody e lines body = (xs : List ClauseLine) × HasPassed e lines xs body × AreGoalsShown xs e

-- and these clauses are those that they add, where so much of them is kept, as sets; and there are so many lines
abbrev pub IsShownWith : Extended → Lines → Keeps → List Clause → ℕ → List ℕ → Type 0
IsShownWith e lines keeps clauses count body = (xs : List ClauseLine) × HasPassed e lines xs body × AreGoalsShown xs e ×
    AreSameSets clauses (kept keeps (added xs)) × (count ≡ length xs)

-- Why that isn't so, the first line having this number.
abbrev pub IsRestFail : ℕ → Extended → Lines → Option (List ℕ) → View → View → ClauseFail → Type 0
IsRestFail number e lines left = IsFailOf left (λ body. IsRefusedLines (IsLongIn lines body) e number body)
    (λ body column. (xs : List ClauseLine) × HasPassed e lines xs body × IsGoalRefusal e xs column)

-- An extended graph has these gates, with this greatest variable, and these are the goals of its columns.
pub record IsOver (max : ℕ) (gates : List Gate) (goals : List Goal) (e : Extended) : Type 0 where
  pub max_is : max ≡ e.max
  pub gates_are : e.gates ≡ gates
  pub goals_are : AreGoalsOf e goals

-- ---- from the first line on. Private clauses alone cite what follows.

-- Of a body that a reader had before it the first line was read, or its end, and a checker has taken no line.
pub record BeginsBody (e : Extended) (k : Checking) (start file : FileState) (body left : Option (List ℕ)) (first : Option ClauseLine) : Type 0 where
  pub taken : HasTaken e [] (gate_clauses e.gates) k
  pub max : k.max ≡ e.max
  pub goals : AreGoalsOf e k.goals
  pub lengths : file.lines.lengths ≡ start.lines.lengths
  pub limit : start.lines.lengths.file < 2 ^ 64
  pub read : ReadsNext e.max start file body left first

abbrev pub BeginsSomewhere : Checking → Option ClauseLine → FileState → Option (List ℕ) → Type 0
BeginsSomewhere k first file left = (e : Extended) × (start : FileState) × (body : Option (List ℕ)) × BeginsBody e k start file body left first

-- Wherever it begins, the lines are lawful and show each goal, these clauses are those that they add, as far as they are kept, and there
-- are so many lines.
abbrev pub IsShownFrom : Checking → List Clause → ℕ → Option ClauseLine → FileState → Option (List ℕ) → Type 0
IsShownFrom k clauses count first file left =
    (e : Extended) (start : FileState) (body : Option (List ℕ)) → BeginsBody e k start file body left first →
    IfSome body (IsShownWith e start.lines k.keeps clauses count)

-- Wherever it begins, and whether or not the file is told, lawful lines show each goal, and these clauses are those that they add, as far
-- as they are kept.
abbrev pub ShowsFrom : Checking → List Clause → Option ClauseLine → FileState → Option (List ℕ) → Type 0
ShowsFrom k clauses first file left =
    (e : Extended) (start : FileState) (body : Option (List ℕ)) → BeginsBody e k start file body left first → IsShownOver e k.keeps clauses

-- Wherever it begins, the old and the new output of each replaced column are equal on every evaluation.
abbrev pub JoinsFrom : Checking → Option ClauseLine → FileState → Option (List ℕ) → Type 0
JoinsFrom k first file left =
    (e : Extended) (start : FileState) (body : Option (List ℕ)) → BeginsBody e k start file body left first → Always e.gates (AgreeOnColumns e)

-- Wherever it begins, why the lines aren't lawful or don't show each goal.
abbrev pub IsFailFrom : Checking → Option ClauseLine → FileState → Option (List ℕ) → View → View → ClauseFail → Type 0
IsFailFrom k first file left entry now answer =
    (e : Extended) (start : FileState) (body : Option (List ℕ)) → BeginsBody e k start file body left first →
    (before : View) → before.read_faults ≤ entry.read_faults →
    IsRestFail (start.number + 1) e start.lines body before now answer

-- ---- how far the lines are judged

-- lawful lines from these live clauses and bytes on, up to those
abbrev pub PassTo : Extended → (List ℕ → Type 0) → List ClauseLine → List Clause → List ℕ → List Clause → List ℕ → Type 0
PassTo e IsLong xs live rest = Behind IsClauseLine (IsClauseStep e) IsLong (λ s left. (s ≡ live) × (left ≡ rest)) xs

-- Of a body that this reader had before it, these lines passed, and the bytes that are left begin where the reader is now.
pub record IsPassedTo (e : Extended) (start : Lines) (xs : List ClauseLine) (live : List Clause) (lines : Lines)
    (left : Option (List ℕ)) (body : List ℕ) : Type 0 where
  pub rest : List ℕ
  pub left_is : left ≡ Some rest
  pub count : lines.taken + length rest ≡ start.taken + length body
  -- a line has at least one byte and its line feed
  pub turns : start.taken + 2 * length xs ≤ lines.taken
  pub room : 0 < length xs → lines.taken ≤ start.lengths.file
  pub passed : PassTo e (IsLongIn start body) xs live rest (gate_clauses e.gates) body

-- The same where the body is told, with the number of the last line.
pub record StandsAt (e : Extended) (start : FileState) (body : Option (List ℕ)) (xs : List ClauseLine) (live : List Clause)
    (file : FileState) (left : Option (List ℕ)) : Type 0 where
  pub lengths : file.lines.lengths ≡ start.lines.lengths
  pub number : file.number ≡ start.number + length xs
  pub passed : IfSome body (IsPassedTo e start.lines xs live file.lines left)

-- So many lines were taken by the checker so far, and the next one was read, or the end.
pub record IsClauseReached (e : Extended) (start : FileState) (body : Option (List ℕ)) (k : Checking) (turn : ℕ)
    (next : Option ClauseLine) (file : FileState) (left : Option (List ℕ)) : Type 0 where
  pub xs : List ClauseLine
  pub live : List Clause
  pub before : FileState
  pub ahead : Option (List ℕ)
  pub turns : length xs ≡ turn
  pub taken : HasTaken e xs live k
  pub stands : StandsAt e start body xs live before ahead
  pub lengths : file.lines.lengths ≡ before.lines.lengths
  pub read : ReadsNext e.max before file ahead left next

-- the checker has the same gates and goals, and keeps as much
pub record KeepsClauseTask (old new : Checking) : Type 0 where
  pub gates : new.gates ≡ old.gates
  pub max : new.max ≡ old.max
  pub goals : new.goals ≡ old.goals
  pub keeps : new.keeps ≡ old.keeps

-- it is the same checker and the same file
pub record IsSameTask (start it : JudgeClauses) : Type 0 where
  pub checker : it.checker.ghost_name ≡ start.checker.ghost_name
  pub file : it.file.ghost_name ≡ start.file.ghost_name
  pub task : KeepsClauseTask start.checker.now it.checker.now

-- the line at hand is in range, and the file goes on after it
abbrev pub IsAtHand : ℕ → FileState → Option ClauseLine → Type 0
IsAtHand max file None = ⊤
IsAtHand max file (Some line) = IsClauseInRange max (clause_in line) × GoesOn file

pub record HasJudgedClauses (start : JudgeClauses) (first : View) (count : ℕ) (it : JudgeClauses) (now : View) : Type 0 where
  pub same : IsSameTask start it
  pub small : it.max < 2 ^ 31
  pub greatest : it.checker.now.max ≡ it.max
  pub at_hand : IsAtHand it.max it.file.now it.next.now
  pub reached : (e : Extended) (file : FileState) (body : Option (List ℕ)) →
      BeginsBody e start.checker.now file start.file.now body (left_of_file slot.Clauses start.file.now first) start.next.now →
      IsClauseReached e file body it.checker.now count it.next.now it.file.now (left_of_file slot.Clauses it.file.now now)

pub record AreClausesJudged (start : JudgeClauses) (first : View) (answer : Result ℕ ClauseFail) (it : JudgeClauses) (now : View) : Type 0 where
  pub same : IsSameTask start it
  pub lawful : IfOk answer (λ count.
      IsShownFrom start.checker.now it.checker.now.added count start.next.now start.file.now (left_of_file slot.Clauses start.file.now first))
  pub shown : OnOk answer (ShowsFrom start.checker.now it.checker.now.added start.next.now start.file.now (left_of_file slot.Clauses start.file.now first))
  pub columns : OnOk answer (JoinsFrom start.checker.now start.next.now start.file.now (left_of_file slot.Clauses start.file.now first))
  pub refused : IfErr answer (IsFailFrom start.checker.now start.next.now start.file.now (left_of_file slot.Clauses start.file.now first) first now)
