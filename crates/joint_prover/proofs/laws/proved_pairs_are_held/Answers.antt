use Rattle.joint_prover.proofs.HeldFiles.{proved_pairs_are_held}
use Rattle.joint_prover.proofs.laws.proved_pairs_are_held.Goals as goal

pub returns : goal.returns
returns c = proved_pairs_are_held
