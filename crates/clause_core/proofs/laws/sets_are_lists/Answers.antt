use Rattle.clause_core.proofs.Places.{sets_are_lists as law}
use Rattle.clause_core.proofs.laws.sets_are_lists.Goals as goal

pub returns : goal.returns
returns c = law
