use Rattle.std.proofs.Common.{subst, sym}
use Rattle.std.specs.Prelude.{IfSome}
use Rattle.joint_prover.specs.Endings.{IsEndedOver, replacement_named}
use Rattle.joint_prover.specs.declared.ended.Ended.{Ended}
use Rattle.joint_prover.proofs.Choosing.{short_is}
use Rattle.joint_prover.proofs.plans.decide_over.Goals as goal

pub loop-plan-preserved : goal.loop-plan-preserved
loop-plan-preserved c =
    let P : Ended → Type 0 = IsEndedOver c.args.job.now (replacement_named c.args.shown) in
    subst (λ o. IfSome o P) (sym c.first_short-first.ensures) (short_is P c.loop-plan.first c.in_ok-ended.ended c.loop-plan.invariant c.in_ok-ended.ensures)

pub returns-then-is_settled : goal.returns-then-is_settled
returns-then-is_settled c =
    let P : Ended → Type 0 = IsEndedOver c.args.job.now (replacement_named c.args.shown) in
    subst (λ o. IfSome o P) (sym c.first_short-first.ensures) (short_is P c.loop-plan.first c.in_ok-ended.ended c.loop-plan.invariant c.in_ok-ended.ensures)
