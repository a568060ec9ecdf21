use Rattle.std.proofs.Common.{arith, subst, sym}
use Rattle.std.specs.Prelude.{IfSome}
use Rattle.joint_prover.specs.Endings.{IsEndedWithFound}
use Rattle.joint_prover.proofs.Choosing.{short_is}
use Rattle.joint_prover.proofs.plans.decide_by_guesses.Goals as goal

pub loop-try-preserved : goal.loop-try-preserved
loop-try-preserved c =
    let P = IsEndedWithFound c.args.job.now in
    let few = c.loop-try.invariant.left in
    record {
      ended = subst (λ o. IfSome o P) (sym c.first_short-first.ensures) (short_is P c.loop-try.first c.in_ok-ended.ended c.loop-try.invariant.ended c.in_ok-ended.ensures.ended);
      left = omega arith;
      wrong = c.decide_by_guess.ensures.wrong;
    }
