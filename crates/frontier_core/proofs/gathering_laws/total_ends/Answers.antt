use Rattle.frontier_core.proofs.Added.{total_ends as law}
use Rattle.frontier_core.proofs.gathering_laws.total_ends.Goals as goal

pub returns : goal.returns
returns c = law
