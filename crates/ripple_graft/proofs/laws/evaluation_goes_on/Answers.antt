use Rattle.ripple_graft.proofs.OneBlock.{evaluation_goes_on as law}
use Rattle.ripple_graft.proofs.laws.evaluation_goes_on.Goals as goal

pub returns : goal.returns
returns c = law
