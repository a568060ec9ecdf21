use Rattle.algebra_core.proofs.FirstRefusals.{algebra_is_exact as law}
use Rattle.algebra_core.proofs.certificate_laws.algebra_is_exact.Goals as goal

pub returns : goal.returns
returns c = law
