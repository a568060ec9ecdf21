use Rattle.algebra_core.proofs.NormalFormSizes.{size_is_one as law}
use Rattle.algebra_core.proofs.polynomial_laws.size_is_one.Goals as goal

pub returns : goal.returns
returns c = law
