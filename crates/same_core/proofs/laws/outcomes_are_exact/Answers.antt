use Rattle.same_core.proofs.DueRows.{outcomes_are_exact as law}
use Rattle.same_core.proofs.laws.outcomes_are_exact.Goals as goal

pub returns : goal.returns
returns c = law
