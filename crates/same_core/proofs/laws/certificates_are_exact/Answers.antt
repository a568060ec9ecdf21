use Rattle.same_core.proofs.Wholes.{certificates_are_exact as law}
use Rattle.same_core.proofs.laws.certificates_are_exact.Goals as goal

pub returns : goal.returns
returns c = law
