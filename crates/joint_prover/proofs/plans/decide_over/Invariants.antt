use Rattle.std.specs.Prelude.{IfSome}
use Rattle.joint_prover.specs.Endings.{IsEndedOver, replacement_named}
use Rattle.joint_prover.proofs.plans.decide_over.Given as goal

abbrev pub invariant-loop-plan : goal.invariant-loop-plan
invariant-loop-plan l = IfSome l.first (IsEndedOver l.job (replacement_named l.shown))
