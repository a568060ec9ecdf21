use Rattle.same_core.proofs.HeldEqual.{equal_pairs_are_held}
use Rattle.same_core.proofs.laws.equal_pairs_are_held.Goals as goal

pub returns : goal.returns
returns c = equal_pairs_are_held
