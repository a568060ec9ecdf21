-- The first refusal of an algebra file, by its cause, and what is answered for it.
use Rattle.std.specs.Prelude.{ℕ}
use Rattle.algebra_core.specs.Refusal as cause
use Rattle.algebra_core.specs.Refusal.{AlgebraCause}
use Rattle.command_core.specs.declared.stop.Stop.TheVariants as stop
use Rattle.mv_desk.specs.declared.slot.Slot.TheVariants as slot
use Rattle.algebra_judge.specs.declared.fail.AlgebraFail.{AlgebraFail}
use Rattle.algebra_judge.specs.declared.fail.AlgebraFail.TheVariants.{Line, Stopped}
use Rattle.algebra_judge.specs.declared.fail.AlgebraWhy.TheVariants as why

abbrev pub fail_of : ℕ × AlgebraCause → AlgebraFail
fail_of (line, cause.TooLong) = Stopped (stop.TooLong slot.Algebra)
fail_of (line, cause.Text) = Line line why.Text
fail_of (line, cause.Range) = Line line why.Range
fail_of (line, cause.Id) = Line line why.Id
fail_of (line, (cause.NoSuchLine id)) = Line line (why.NoSuchLine id)
fail_of (line, (cause.NoSuchClause number)) = Line line (why.NoSuchClause number)
fail_of (line, cause.NotEqual) = Line line why.NotEqual
fail_of (line, cause.NotSpecification) = Line line why.NotSpec
