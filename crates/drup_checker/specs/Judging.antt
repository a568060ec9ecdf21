-- What the least column that isn't shown means for the replaced columns of an extended graph.
use Rattle.std.specs.Prelude.{ℕ, List}
use Rattle.std.specs.declared.option.Option.TheVariants.{None, Some}
use Rattle.graph_core.specs.Graph.Extended.{Extended}
use Rattle.clause_core.specs.ClauseLines.{AreGoalsShown, ClauseLine, IsGoalRefusal}
use Rattle.miter_encoder.specs.ColumnGoals.{AreGoalsOf}
use Rattle.drup_checker.specs.Checking.{Checking, IsLeastUnshown}
use Rattle.drup_checker.specs.Steps.{HasShown}

-- With right marks, none means that the lines show every goal, and a column that the goals are refused there.
pub record GoalsAreJudged : Type 0 where
  pub shown : (e : Extended) (k : Checking) (lines : List ClauseLine) → AreGoalsOf e k.goals → HasShown k lines →
      IsLeastUnshown k.goals k.shown None → AreGoalsShown lines e
  pub refused : (e : Extended) (k : Checking) (lines : List ClauseLine) (column : ℕ) → AreGoalsOf e k.goals →
      HasShown k lines → IsLeastUnshown k.goals k.shown (Some column) → IsGoalRefusal e lines column
