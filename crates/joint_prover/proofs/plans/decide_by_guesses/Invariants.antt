use Rattle.std.specs.Prelude.{◌≤◌, IfSome}
use Rattle.graph_core.specs.Graph.Operands.{AreInRange}
use Rattle.joint_prover.specs.Endings.{IsEndedWithFound}
use Rattle.joint_prover.proofs.plans.decide_by_guesses.Given as goal

abbrev pub invariant-loop-try : goal.invariant-loop-try
invariant-loop-try l = record {
  ended : IfSome l.first (IsEndedWithFound l.job);
  left : l.left ≤ l.job.task.conflicts;
  wrong : IfSome l.wrong (AreInRange l.job.operands.now);
}
