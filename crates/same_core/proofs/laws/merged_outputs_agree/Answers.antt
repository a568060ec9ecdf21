use Rattle.same_core.proofs.Merging.{merged_outputs_agree as law}
use Rattle.same_core.proofs.laws.merged_outputs_agree.Goals as goal

pub returns : goal.returns
returns c = law
