use Rattle.enough_budget.proofs.MadePlans.{made_budget_is_enough as law}
use Rattle.enough_budget.proofs.laws.made_budget_is_enough.Goals as goal

pub returns : goal.returns
returns c = law
