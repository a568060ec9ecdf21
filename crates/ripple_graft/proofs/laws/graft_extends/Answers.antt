use Rattle.ripple_graft.proofs.OneBlock.{graft_extends as law}
use Rattle.ripple_graft.proofs.laws.graft_extends.Goals as goal

pub returns : goal.returns
returns c = law
