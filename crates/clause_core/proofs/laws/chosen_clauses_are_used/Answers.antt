use Rattle.clause_core.proofs.Used.{chosen_clauses_are_used as law}
use Rattle.clause_core.proofs.laws.chosen_clauses_are_used.Goals as goal

pub returns : goal.returns
returns c = law
