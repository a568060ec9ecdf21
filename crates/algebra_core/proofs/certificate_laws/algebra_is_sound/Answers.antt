use Rattle.algebra_core.proofs.Sound.{algebra_is_sound as sound}
use Rattle.algebra_core.proofs.certificate_laws.algebra_is_sound.Goals as goal

pub returns : goal.returns
returns c = sound
