use Rattle.algebra_core.proofs.Sound.{axioms_vanish as law}
use Rattle.algebra_core.proofs.certificate_laws.axioms_vanish.Goals as goal

pub returns : goal.returns
returns c = law
