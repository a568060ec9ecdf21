use Rattle.algebra_core.proofs.Reading.{algebra_is_read as law}
use Rattle.algebra_core.proofs.certificate_laws.algebra_is_read.Goals as goal

pub returns : goal.returns
returns c = law
