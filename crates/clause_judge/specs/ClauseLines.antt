-- One line of a clause file, over what is left of it and over the checker's clauses.
use Rattle.std.specs.Prelude.{◌≡◌, ◌+◌, ◌⊎◌, ℕ, List, IfSome}
use Rattle.std.specs.declared.option.Option.{Option}
use Rattle.std.specs.declared.option.Option.TheVariants.{None, Some}
use Rattle.clause_core.specs.ClauseLines.{ClauseLine}
use Rattle.clause_core.specs.UnitPropagation.{IsRup}
use Rattle.clause_core.specs.declared.line.Line.TheVariants.{Add, Delete}
use Rattle.command_core.specs.declared.stop.Stop.TheVariants as stop
use Rattle.drup_checker.specs.Checking.{AddsRup, Checking, Deletes, IsLeastUnshown, IsNowhere}
use Rattle.drup_text.specs.ClauseTexts.{IsClauseLine}
use Rattle.mv_text.specs.CertificateFiles.{FileState, GoesOn, IsAtEnd, IsNextRefusal, TakesText}
use Rattle.drup_text.specs.LineTexts.{IsClauseLineInRange, IsSameClauseLine}
use Rattle.mv_desk.specs.View.{View}
use Rattle.mv_desk.specs.declared.slot.Slot.TheVariants as slot
use Rattle.mv_text.specs.declared.line_fail.LineFail.{LineFail}
use Rattle.mv_text.specs.LineReading.{Lines}
use Rattle.mv_text.specs.declared.line_fail.LineFail.TheVariants as text
use Rattle.clause_judge.specs.declared.fail.ClauseFail.{ClauseFail}
use Rattle.clause_judge.specs.declared.fail.ClauseFail.TheVariants as fail
use Rattle.clause_judge.specs.declared.fail.ClauseWhy.TheVariants as why

-- ---- reading

-- The next line as its text has it, and as it is at hand, of the same set. Where the desk tells the file, it stands there.
pub record NextLine (max : ℕ) (old new : FileState) (left behind : Option (List ℕ)) (line : ClauseLine) : Type 0 where
  pub text : ClauseLine
  pub in_range : IsClauseLineInRange max text
  pub same : IsSameClauseLine text line
  pub takes : IfSome left (λ bytes. TakesText IsClauseLine old.lines new.lines bytes behind text)
  pub number : new.number ≡ old.number + 1
  pub going : GoesOn new

-- the next line; or the file ends there
abbrev pub ReadsNext : ℕ → FileState → FileState → Option (List ℕ) → Option (List ℕ) → Option ClauseLine → Type 0
ReadsNext max old new left behind None = IfSome left (IsAtEnd old.lines)
ReadsNext max old new left behind (Some line) = NextLine max old new left behind line

-- the answer of a line that isn't read
abbrev pub answer_of_line : ℕ → LineFail → ClauseFail
answer_of_line line text.Text = fail.Line line why.Text
answer_of_line line text.Range = fail.Line line why.Range
answer_of_line line text.Fault = fail.Stopped stop.ReadFault
answer_of_line line text.TooLong = fail.Stopped (stop.TooLong slot.Clauses)
answer_of_line line text.Memory = fail.Stopped stop.Memory

-- Why the line with this number isn't read.
abbrev pub IsTextFail : ℕ → ℕ → Lines → Option (List ℕ) → View → View → ClauseFail → Type 0
IsTextFail n max lines left before now answer =
    (given : LineFail) × IsNextRefusal IsClauseLine (IsClauseLineInRange max) lines left before.read_faults now.read_faults given ×
    (answer ≡ answer_of_line n given)

-- ---- checking

-- The checker takes the line.
abbrev pub TakesClauseLine : ClauseLine → Checking → Checking → Type 0
TakesClauseLine (Add c) old new = AddsRup c old new
TakesClauseLine (Delete c) old new = Deletes c old new

-- Why it doesn't take the line with this number.
abbrev pub IsRuleFail : ℕ → ClauseLine → Checking → ClauseFail → Type 0
IsRuleFail n (Add c) k answer = ((answer ≡ fail.Line n why.NotImplied) × ¬ (IsRup k.live c)) ⊎ (answer ≡ fail.Stopped stop.Memory)
IsRuleFail n (Delete c) k answer = (answer ≡ fail.Line n why.NoSuchClause) × IsNowhere c k

-- Some goal isn't shown: the least column with one.
abbrev pub IsGoalFail : Checking → ClauseFail → Type 0
IsGoalFail k answer = (column : ℕ) × IsLeastUnshown k.goals k.shown (Some column) × (answer ≡ fail.Goals column)
