use Rattle.joint_prover.proofs.Exactness.{verdicts_are_exact}
use Rattle.joint_prover.proofs.laws.verdicts_are_exact.Goals as goal

pub returns : goal.returns
returns c = verdicts_are_exact
