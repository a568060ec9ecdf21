-- Why an algebra certificate isn't lawful, from the answers of the reader and of the checker.
use Rattle.std.specs.Prelude.{ℕ, List, IfSome}
use Rattle.std.specs.declared.option.Option.{Option}
use Rattle.algebra_core.specs.Refusal as cause
use Rattle.algebra_core.specs.Refusal.{AlgebraCause}
use Rattle.command_core.specs.Stopping.{IsLong, IsStop}
use Rattle.command_core.specs.declared.stop.Stop.TheVariants as stop
use Rattle.mv_desk.specs.View.{View}
use Rattle.mv_desk.specs.declared.slot.Slot.TheVariants as slot
use Rattle.mv_text.specs.declared.line_fail.LineFail.{LineFail}
use Rattle.mv_text.specs.declared.line_fail.LineFail.TheVariants as text
use Rattle.pac_checker.specs.declared.fault.CloseFault.{CloseFault}
use Rattle.pac_checker.specs.declared.fault.CloseFault.TheVariants as close
use Rattle.pac_checker.specs.declared.fault.LineFault.{LineFault}
use Rattle.pac_checker.specs.declared.fault.LineFault.TheVariants as rule
use Rattle.algebra_judge.specs.declared.fail.AlgebraFail.{AlgebraFail}
use Rattle.algebra_judge.specs.declared.fail.AlgebraFail.TheVariants.{Line, Stopped}
use Rattle.algebra_judge.specs.declared.fail.AlgebraWhy.{AlgebraWhy}
use Rattle.algebra_judge.specs.declared.fail.AlgebraWhy.TheVariants as why

-- the definitions' cause of that name
abbrev pub cause_of : AlgebraWhy → AlgebraCause
cause_of why.Text = cause.Text
cause_of why.Range = cause.Range
cause_of why.Id = cause.Id
cause_of (why.NoSuchLine id) = cause.NoSuchLine id
cause_of (why.NoSuchClause number) = cause.NoSuchClause number
cause_of why.NotEqual = cause.NotEqual
cause_of why.NotSpec = cause.NotSpecification

-- Why a text is refused, where it is told: a line and its cause. Or it is too long before any refusal, or something interrupts.
abbrev pub IsFailOf : Option (List ℕ) → (List ℕ → ℕ × AlgebraCause → Type 0) → View → View → AlgebraFail → Type 0
IsFailOf text Refuses before now (Line line why) = IfSome text (λ bytes. Refuses bytes (line, cause_of why))
IsFailOf text Refuses before now (Stopped why) = IsStop (IsLong slot.Algebra (IfSome text (λ bytes. (line : ℕ) × Refuses bytes (line, cause.TooLong)))) before now why

-- ---- the answers, from those of the reader and of the checker

-- a line isn't read
abbrev pub answer_of_line : ℕ → LineFail → AlgebraFail
answer_of_line line text.Text = Line line why.Text
answer_of_line line text.Range = Line line why.Range
answer_of_line line text.Fault = Stopped stop.ReadFault
answer_of_line line text.TooLong = Stopped (stop.TooLong slot.Algebra)
answer_of_line line text.Memory = Stopped stop.Memory

-- a line breaks its rule
abbrev pub answer_of_rule : ℕ → LineFault → AlgebraFail
answer_of_rule line rule.Id = Line line why.Id
answer_of_rule line (rule.NoSuchLine id) = Line line (why.NoSuchLine id)
answer_of_rule line (rule.NoSuchClause number) = Line line (why.NoSuchClause number)
answer_of_rule line rule.NotEqual = Line line why.NotEqual
answer_of_rule line rule.Memory = Stopped stop.Memory

-- a closing line doesn't close
abbrev pub answer_of_close : ℕ → CloseFault → AlgebraFail
answer_of_close line (close.NoSuchLine id) = Line line (why.NoSuchLine id)
answer_of_close line close.NotSpec = Line line why.NotSpec
answer_of_close line close.Memory = Stopped stop.Memory
