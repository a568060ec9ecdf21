use Rattle.std.proofs.Common.{subst}
use Rattle.std.specs.Prelude.{IfSome}
use Rattle.joint_prover.specs.Endings.{IsEndedFor, replacement_named}
use Rattle.joint_prover.proofs.plans.decide_by_plans.Goals as goal

pub returns-in-Some-clause-decision : goal.returns-in-Some-clause-decision
returns-in-Some-clause-decision c =
    let job = c.args.job.now in
    (subst (λ o. IfSome o (IsEndedFor job (replacement_named c.args.used))) c.in-Some.is c.in_ok-ended.ensures.ended).decision
