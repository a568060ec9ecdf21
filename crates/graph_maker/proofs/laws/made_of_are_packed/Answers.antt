use Rattle.graph_maker.proofs.MadePacked.{made_of_are_packed as law}
use Rattle.graph_maker.proofs.laws.made_of_are_packed.Goals as goal

pub returns : goal.returns
returns c = law
