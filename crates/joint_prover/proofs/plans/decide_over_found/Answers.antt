use Rattle.std.proofs.Common.{subst}
use Rattle.std.specs.Prelude.{IfOk, IfSome}
use Rattle.joint_prover.specs.Endings.{IsEndedOver}
use Rattle.joint_prover.proofs.plans.decide_over_found.Goals as goal

pub decide_over-requires-clause-shown : goal.decide_over-requires-clause-shown
decide_over-requires-clause-shown c =
    let job = c.args.job.now in
    c.with_adder-shown.ensures.shown job.graph.now job.task c.requires.shown c.requires.agree

pub returns : goal.returns
returns c =
    let job = c.args.job.now in
    subst (λ k. IfOk c.decide_over.result (λ e. IfSome e (IsEndedOver job k))) c.with_adder-shown.ensures.named c.decide_over.ensures
