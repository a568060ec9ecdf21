use Rattle.graph_core.proofs.OfGraphs.Claims.{claim_is_done as law}
use Rattle.graph_core.proofs.evaluation_laws.claim_is_done.Goals as goal

pub returns : goal.returns
returns c = law
