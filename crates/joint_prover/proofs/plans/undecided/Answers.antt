use Rattle.std.proofs.Common.{subst}
use Rattle.joint_prover.specs.Verdicts.{HaveManyOnes}
use Rattle.joint_prover.proofs.plans.undecided.Goals as goal

pub returns : goal.returns
returns c = λ used tried. (c.requires.first, tried, subst (HaveManyOnes c.args.job.now.graph.now) c.requires.job.claim c.requires.many, c.in_ok-seen.ensures)
