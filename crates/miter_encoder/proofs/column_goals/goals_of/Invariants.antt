use Rattle.std.proofs.Common.{take}
use Rattle.miter_encoder.specs.ColumnGoals.{AreGoalsOfColumns, columns_from}
use Rattle.miter_encoder.proofs.column_goals.goals_of.Given as goal

abbrev pub invariant-loop-column : goal.invariant-loop-column
invariant-loop-column l = AreGoalsOfColumns (columns_from 0 (take l.column l.pairs)) l.goals
