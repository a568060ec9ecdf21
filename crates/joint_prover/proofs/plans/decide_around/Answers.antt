use Rattle.std.proofs.Common.{subst, sym}
use Rattle.std.specs.Prelude.{IfSome, Some}
use Rattle.joint_prover.specs.Endings.{IsEndedOver}
use Rattle.joint_prover.specs.declared.ended.Ended.{Ended}
use Rattle.joint_prover.specs.declared.replacement.Replacement.TheVariants.{Adder}
use Rattle.joint_prover.proofs.Choosing.{short_is}
use Rattle.joint_prover.proofs.plans.decide_around.Goals as goal

pub returns-clause-over : goal.returns-clause-over
returns-clause-over c =
    let P : Ended → Type 0 = IsEndedOver c.args.job.now (Some (Adder c.args.found.now.cut)) in
    subst (λ o. IfSome o P) (sym c.first_short.ensures) (short_is P c.in_ok-over.over c.in_ok-last.last c.in_ok-over.ensures c.in_ok-last.ensures.over)
