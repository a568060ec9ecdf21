use Rattle.graph_core.proofs.OfGraphs.Claims.{doing_is_multiplying as law}
use Rattle.graph_core.proofs.evaluation_laws.doing_is_multiplying.Goals as goal

pub returns : goal.returns
returns c = law
