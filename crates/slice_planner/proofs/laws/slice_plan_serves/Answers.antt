use Rattle.slice_planner.proofs.SlicePlans.{slice_plan_serves as law}
use Rattle.slice_planner.proofs.laws.slice_plan_serves.Goals as goal

pub returns : goal.returns
returns c = law
