use Rattle.std.specs.Prelude.{◌≡◌, [], take}
use Rattle.slice_planner.specs.Taking.{read_by_gates}
use Rattle.slice_planner.proofs.taking.reads_of.Given as goal

abbrev pub invariant-loop-gate : goal.invariant-loop-gate
invariant-loop-gate l = record {
  counts : l.count ≡ read_by_gates (take l.gate-index l.gates) [] l.v;
}
