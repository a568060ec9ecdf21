use Rattle.slice_planner.proofs.GroupPlans.{first_groups as law}
use Rattle.slice_planner.proofs.laws.first_groups.Goals as goal

pub returns : goal.returns
returns c = law
