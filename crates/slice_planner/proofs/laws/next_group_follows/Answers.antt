use Rattle.slice_planner.proofs.GroupPlans.{next_group_follows as law}
use Rattle.slice_planner.proofs.laws.next_group_follows.Goals as goal

pub returns : goal.returns
returns c = law
