use Rattle.std.specs.Prelude.{◌≡◌, false, take}
use Rattle.frontier_core.specs.Sets.{has}
use Rattle.slice_planner.specs.Arranged.{variables}
use Rattle.slice_planner.proofs.taking.are_of.Given as goal

abbrev pub invariant-loop-gate : goal.invariant-loop-gate
invariant-loop-gate l = record {
  none : has (variables (take l.gate-index l.gates)) l.v ≡ false;
}
