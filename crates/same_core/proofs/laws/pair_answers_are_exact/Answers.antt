use Rattle.same_core.proofs.OnPairs.{pair_answers_are_exact}
use Rattle.same_core.proofs.laws.pair_answers_are_exact.Goals as goal

pub returns : goal.returns
returns c = pair_answers_are_exact
