use Rattle.slice_planner.proofs.GroupPlans.{groups_finish as law}
use Rattle.slice_planner.proofs.laws.groups_finish.Goals as goal

pub returns : goal.returns
returns c = law
