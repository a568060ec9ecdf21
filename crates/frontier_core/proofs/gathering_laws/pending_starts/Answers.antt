use Rattle.frontier_core.proofs.Gathered.{pending_starts as law}
use Rattle.frontier_core.proofs.gathering_laws.pending_starts.Goals as goal

pub returns : goal.returns
returns c = law
