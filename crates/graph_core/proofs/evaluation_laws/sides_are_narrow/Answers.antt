use Rattle.graph_core.proofs.OfGraphs.OperandWidths.{sides_are_narrow as law}
use Rattle.graph_core.proofs.evaluation_laws.sides_are_narrow.Goals as goal

pub returns : goal.returns
returns c = law
