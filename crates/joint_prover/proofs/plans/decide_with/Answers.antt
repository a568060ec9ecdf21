use Rattle.std.proofs.Common.{subst, sym}
use Rattle.std.specs.Prelude.{IfSome}
use Rattle.joint_prover.specs.Endings.{IsEndedFor, IsEndedWithFound, replacement_named}
use Rattle.joint_prover.specs.declared.replacement.Replacement.TheVariants.{Adder}
use Rattle.joint_prover.proofs.Choosing.{short_is, some_ended_over, some_found_for}
use Rattle.joint_prover.proofs.Noting.{found_is}
use Rattle.joint_prover.proofs.plans.decide_with.Goals as goal

pub returns-clause-ended : goal.returns-clause-ended
returns-clause-ended c =
    let job = c.args.job.now in
    let used = replacement_named c.args.used in
    let f = c.args.found in
    let over = some_found_for job used c.with_cut.result
    (subst (λ o. IfSome o (IsEndedWithFound job)) (sym c.with_cut.ensures) (some_ended_over job (Adder f.cut) c.in_ok-over.over
    (found_is job.graph.now job.task.conflicts f.cut f.extended f.log.lines c.requires.shown c.requires.agree) c.in_ok-over.ensures.over)) in
    subst (λ o. IfSome o (IsEndedFor job used)) (sym c.first_short.ensures)
    (short_is (IsEndedFor job used) c.with_cut.result c.in_ok-over.beyond over c.in_ok-over.ensures.beyond)
