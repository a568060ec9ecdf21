use Rattle.same_core.proofs.OnPairs.{pairs_are_decided}
use Rattle.same_core.proofs.laws.pairs_are_decided.Goals as goal

pub returns : goal.returns
returns c = pairs_are_decided
