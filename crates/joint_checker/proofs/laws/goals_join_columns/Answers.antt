use Rattle.clause_judge.proofs.Joins.{goals_join_columns as law}
use Rattle.joint_checker.proofs.laws.goals_join_columns.Goals as goal

pub returns : goal.returns
returns c = law
