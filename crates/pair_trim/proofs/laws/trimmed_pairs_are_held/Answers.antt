use Rattle.pair_trim.proofs.HeldPairs as held
use Rattle.pair_trim.proofs.laws.trimmed_pairs_are_held.Goals as goal

pub returns : goal.returns
returns c = held.trimmed_pairs_are_held
