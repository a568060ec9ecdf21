use Rattle.joint_prover.proofs.WrongNumbers.{seen_there}
use Rattle.joint_prover.proofs.seen.seen_at.Goals as goal

pub returns : goal.returns
returns c =
    seen_there c.args.job.now c.requires.job c.args.numbers c.in_ok-there.there c.in_ok-there.ensures.numbers c.in_ok-there.ensures.valued c.requires.range c.if-there.false
