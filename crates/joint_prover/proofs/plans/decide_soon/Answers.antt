use Rattle.std.proofs.lemmas.Result.{IfOk-weaker}
use Rattle.std.specs.Prelude.{IfSome}
use Rattle.joint_prover.specs.Endings.{IsEndedFor, IsEndedWithFound, replacement_named}
use Rattle.joint_prover.proofs.Choosing.{some_found_for}
use Rattle.joint_prover.proofs.plans.decide_soon.Goals as goal

pub returns-in-None : goal.returns-in-None
returns-in-None c =
    let job = c.args.job.now in
    let used = replacement_named c.args.used in
    IfOk-weaker c.decide_on_few.result (λ e. IfSome e (IsEndedWithFound job)) (λ e. IfSome e (IsEndedFor job used)) (some_found_for job used) c.decide_on_few.ensures
