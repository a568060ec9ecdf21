use Rattle.slice_planner.proofs.ListedGroups.{listed_groups_serve as law}
use Rattle.slice_planner.proofs.laws.listed_groups_serve.Goals as goal

pub returns : goal.returns
returns c = law
