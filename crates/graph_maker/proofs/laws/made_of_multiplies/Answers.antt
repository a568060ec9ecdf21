use Rattle.graph_maker.proofs.MadeOfWidths.{made_of_multiplies as law}
use Rattle.graph_maker.proofs.laws.made_of_multiplies.Goals as goal

pub returns : goal.returns
returns c = law
