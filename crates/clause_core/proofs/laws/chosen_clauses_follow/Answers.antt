use Rattle.clause_core.proofs.Chosen.{chosen_clauses_follow as law}
use Rattle.clause_core.proofs.laws.chosen_clauses_follow.Goals as goal

pub returns : goal.returns
returns c = law
