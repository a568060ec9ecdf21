use Rattle.clause_core.proofs.Chains.{tight_chains_imply as law}
use Rattle.clause_core.proofs.laws.tight_chains_imply.Goals as goal

pub returns : goal.returns
returns c = law
