use Rattle.algebra_core.proofs.NormalForms.{normal_forms_differ as law}
use Rattle.algebra_core.proofs.polynomial_laws.normal_forms_differ.Goals as goal

pub returns : goal.returns
returns c = law
