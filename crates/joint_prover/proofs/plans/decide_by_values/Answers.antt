use Rattle.std.proofs.Common.{subst, sym}
use Rattle.std.specs.Prelude.{IfSome}
use Rattle.joint_prover.specs.Endings.{IsEndedFor, replacement_named}
use Rattle.joint_prover.proofs.Choosing.{short_is, some_ended_for}
use Rattle.joint_prover.proofs.plans.decide_by_values.Goals as goal

pub returns-clause-ended : goal.returns-clause-ended
returns-clause-ended c =
    let job = c.args.job.now in
    let used = replacement_named c.args.used in
    subst (λ o. IfSome o (IsEndedFor job used)) (sym c.first_short.ensures)
    (short_is (IsEndedFor job used) c.in_ok-first.first c.in_ok-later.later (some_ended_for job used c.in_ok-first.first c.in_ok-first.ensures) c.in_ok-later.ensures.ended)

pub returns-then-is_settled-clause-ended : goal.returns-then-is_settled-clause-ended
returns-then-is_settled-clause-ended c = some_ended_for c.args.job.now (replacement_named c.args.used) c.in_ok-first.first c.in_ok-first.ensures
