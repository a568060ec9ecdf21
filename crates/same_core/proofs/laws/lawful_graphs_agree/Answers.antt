use Rattle.same_core.proofs.Wholes.{lawful_graphs_agree as law}
use Rattle.same_core.proofs.laws.lawful_graphs_agree.Goals as goal

pub returns : goal.returns
returns c = law
