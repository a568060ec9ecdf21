use Rattle.graph_core.proofs.OfGraphs.Multiplies.{claim_is_product as law}
use Rattle.graph_core.proofs.evaluation_laws.claim_is_product.Goals as goal

pub returns : goal.returns
returns c = law
