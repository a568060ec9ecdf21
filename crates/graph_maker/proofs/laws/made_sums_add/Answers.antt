use Rattle.graph_maker.proofs.SumsAdd.{made_sums_add as law}
use Rattle.graph_maker.proofs.laws.made_sums_add.Goals as goal

pub returns : goal.returns
returns c = law
