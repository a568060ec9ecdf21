use Rattle.std.proofs.Common.{◌≡◌, reverse, take}
use Rattle.frontier_core.specs.Plan.{nothing, taken}
use Rattle.joint_prover.proofs.reduction.frontier_after.Given as goal

abbrev pub invariant-loop-step : goal.invariant-loop-step
invariant-loop-step l = record {
  columns : l.columns.items ≡ reverse (taken nothing (take l.step-index l.step-items)).added;
  gates : l.gates.items ≡ reverse (taken nothing (take l.step-index l.step-items)).eliminated;
}
