use Rattle.graph_maker.proofs.CorrectedMultiplies.{corrected_multiplies as law}
use Rattle.graph_maker.proofs.laws.corrected_multiplies.Goals as goal

pub returns : goal.returns
returns c = law
