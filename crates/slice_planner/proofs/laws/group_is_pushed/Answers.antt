use Rattle.slice_planner.proofs.GroupPlans.{group_is_pushed as law}
use Rattle.slice_planner.proofs.laws.group_is_pushed.Goals as goal

pub returns : goal.returns
returns c = law
