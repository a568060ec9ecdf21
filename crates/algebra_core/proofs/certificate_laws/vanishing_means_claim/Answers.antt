use Rattle.algebra_core.proofs.Sound.{vanishing_means_claim as law}
use Rattle.algebra_core.proofs.certificate_laws.vanishing_means_claim.Goals as goal

pub returns : goal.returns
returns c = law
