use Rattle.algebra_core.proofs.NormalFormSizes.{normal_form_exists as law}
use Rattle.algebra_core.proofs.polynomial_laws.normal_form_exists.Goals as goal

pub returns : goal.returns
returns c = law
