use Rattle.joint_prover.proofs.WrongNumbers.{wrong_there}
use Rattle.joint_prover.proofs.conclusion.refute.Goals as goal

pub returns : goal.returns
returns c =
    wrong_there c.args.job.now c.requires.job c.args.numbers c.in_ok-difference.difference c.in_ok-difference.ensures.numbers c.in_ok-difference.ensures.valued c.requires.least
