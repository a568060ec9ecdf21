-- The first refusal of a clause file, by its cause, and what is answered for it.
use Rattle.std.specs.Prelude.{ℕ}
use Rattle.command_core.specs.declared.stop.Stop.TheVariants as stop
use Rattle.drup_text.specs.HeaderRefusal as clausal
use Rattle.drup_text.specs.HeaderRefusal.{LineCause}
use Rattle.mv_desk.specs.declared.slot.Slot.TheVariants as slot
use Rattle.clause_judge.specs.declared.fail.ClauseFail.{ClauseFail}
use Rattle.clause_judge.specs.declared.fail.ClauseFail.TheVariants as fail
use Rattle.clause_judge.specs.declared.fail.ClauseWhy.TheVariants as why

-- a line and its cause, or a column with a goal that isn't shown
pub data ClauseFault : Type 0 where
  Line : ℕ × LineCause → ClauseFault
  Goals : ℕ → ClauseFault

abbrev pub fail_of : ClauseFault → ClauseFail
fail_of (Line (line, clausal.TooLong)) = fail.Stopped (stop.TooLong slot.Clauses)
fail_of (Line (line, clausal.Text)) = fail.Line line why.Text
fail_of (Line (line, clausal.Range)) = fail.Line line why.Range
fail_of (Line (line, clausal.NotImplied)) = fail.Line line why.NotImplied
fail_of (Line (line, clausal.NoSuchClause)) = fail.Line line why.NoSuchClause
fail_of (Goals column) = fail.Goals column
