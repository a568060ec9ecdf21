use Rattle.graph_maker.proofs.CorrectedPacked.{corrected_are_packed as law}
use Rattle.graph_maker.proofs.laws.corrected_are_packed.Goals as goal

pub returns : goal.returns
returns c = law
