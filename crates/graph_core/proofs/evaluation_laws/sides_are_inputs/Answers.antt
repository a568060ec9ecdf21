use Rattle.graph_core.proofs.OfGraphs.Multiplies.{sides_are_inputs as law}
use Rattle.graph_core.proofs.evaluation_laws.sides_are_inputs.Goals as goal

pub returns : goal.returns
returns c = law
