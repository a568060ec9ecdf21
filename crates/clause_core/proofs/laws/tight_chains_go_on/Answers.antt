use Rattle.clause_core.proofs.Chains.{tight_chains_go_on as law}
use Rattle.clause_core.proofs.laws.tight_chains_go_on.Goals as goal

pub returns : goal.returns
returns c = law
