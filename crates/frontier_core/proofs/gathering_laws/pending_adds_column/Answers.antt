use Rattle.frontier_core.proofs.Gathered.{pending_adds_column as law}
use Rattle.frontier_core.proofs.gathering_laws.pending_adds_column.Goals as goal

pub returns : goal.returns
returns c = law
