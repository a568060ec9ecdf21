use Rattle.enough_budget.proofs.MadePlans.{slice_plans_are_small as law}
use Rattle.enough_budget.proofs.laws.slice_plans_are_small.Goals as goal

pub returns : goal.returns
returns c = law
