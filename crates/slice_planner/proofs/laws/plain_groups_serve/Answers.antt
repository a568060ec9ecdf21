use Rattle.slice_planner.proofs.ListedGroups.{plain_groups_serve as law}
use Rattle.slice_planner.proofs.laws.plain_groups_serve.Goals as goal

pub returns : goal.returns
returns c = law
