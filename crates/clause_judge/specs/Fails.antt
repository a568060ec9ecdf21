-- Why a clause certificate isn't lawful, or doesn't show each goal.
use Rattle.std.specs.Prelude.{ℕ, List, IfSome}
use Rattle.std.specs.declared.option.Option.{Option}
use Rattle.command_core.specs.Stopping.{IsLong, IsStop}
use Rattle.drup_text.specs.HeaderRefusal.{LineCause, TooLong}
use Rattle.mv_desk.specs.View.{View}
use Rattle.mv_desk.specs.declared.slot.Slot.TheVariants as slot
use Rattle.clause_judge.specs.LineRefusals.{line_cause}
use Rattle.clause_judge.specs.declared.fail.ClauseFail.{ClauseFail}
use Rattle.clause_judge.specs.declared.fail.ClauseFail.TheVariants.{Goals, Line, Stopped}

-- Why a text is refused, where it is told: a line and its cause, or a column with a goal that isn't shown. Or it is too long before any
-- refusal, or something interrupts.
abbrev pub IsFailOf : Option (List ℕ) → (List ℕ → ℕ × LineCause → Type 0) → (List ℕ → ℕ → Type 0) → View → View → ClauseFail → Type 0
IsFailOf text Refuses Unshown before now (Line line why) = IfSome text (λ bytes. Refuses bytes (line, line_cause why))
IsFailOf text Refuses Unshown before now (Goals column) = IfSome text (λ bytes. Unshown bytes column)
IsFailOf text Refuses Unshown before now (Stopped why) = IsStop (IsLong slot.Clauses (IfSome text (λ bytes. (line : ℕ) × Refuses bytes (line, TooLong)))) before now why
