use Rattle.frontier_core.proofs.Gathered.{pending_eliminates as law}
use Rattle.frontier_core.proofs.gathering_laws.pending_eliminates.Goals as goal

pub returns : goal.returns
returns c = law
