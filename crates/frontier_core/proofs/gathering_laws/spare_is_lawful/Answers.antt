use Rattle.frontier_core.proofs.Gathered.{spare_is_lawful as law}
use Rattle.frontier_core.proofs.gathering_laws.spare_is_lawful.Goals as goal

pub returns : goal.returns
returns c = law
