use Rattle.algebra_core.proofs.Vanishing.{vanishing_meets_claim as law}
use Rattle.algebra_core.proofs.certificate_laws.vanishing_meets_claim.Goals as goal

pub returns : goal.returns
returns c = law
