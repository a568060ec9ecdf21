use Rattle.same_core.proofs.Merging.{merged_is_pair as law}
use Rattle.same_core.proofs.laws.merged_is_pair.Goals as goal

pub returns : goal.returns
returns c = law
