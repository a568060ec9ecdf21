use Rattle.graph_core.proofs.OfGraphs.Claims.{doing_is_adding as law}
use Rattle.graph_core.proofs.evaluation_laws.doing_is_adding.Goals as goal

pub returns : goal.returns
returns c = law
