use Rattle.joint_prover.proofs.Exactness.{enough_is_proved}
use Rattle.joint_prover.proofs.laws.enough_is_proved.Goals as goal

pub returns : goal.returns
returns c = enough_is_proved
