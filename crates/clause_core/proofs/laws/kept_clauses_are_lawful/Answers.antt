use Rattle.clause_core.proofs.Chains.{kept_clauses_are_lawful as law}
use Rattle.clause_core.proofs.laws.kept_clauses_are_lawful.Goals as goal

pub returns : goal.returns
returns c = law
