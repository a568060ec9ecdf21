use Rattle.algebra_core.proofs.Reading.{close_is_read as law}
use Rattle.algebra_core.proofs.certificate_laws.close_is_read.Goals as goal

pub returns : goal.returns
returns c = law
