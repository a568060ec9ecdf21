use Rattle.std.proofs.Common.{◌≡◌, ◌++◌, map, take}
use Rattle.same_core.specs.Merged.{moved_gate}
use Rattle.same_core.proofs.merged.merge_gates.Given as goal

abbrev pub invariant-loop-gate : goal.invariant-loop-gate
invariant-loop-gate l = l.gates.items ≡ l.graph.gates ++ map (moved_gate l.graph l.other) (take l.gate-index l.other.gates)
