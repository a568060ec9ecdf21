use Rattle.graph_maker.proofs.SumsPacked.{sums_are_packed as law}
use Rattle.graph_maker.proofs.laws.sums_are_packed.Goals as goal

pub returns : goal.returns
returns c = law
