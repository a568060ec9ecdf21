use Rattle.graph_core.proofs.OfGraphs.Multiplies.{whole_products as law}
use Rattle.graph_core.proofs.evaluation_laws.whole_products.Goals as goal

pub returns : goal.returns
returns c = law
