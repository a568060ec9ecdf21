use Rattle.algebra_core.proofs.Vanishing.{vanishing_multiplies as law}
use Rattle.algebra_core.proofs.certificate_laws.vanishing_multiplies.Goals as goal

pub returns : goal.returns
returns c = law
