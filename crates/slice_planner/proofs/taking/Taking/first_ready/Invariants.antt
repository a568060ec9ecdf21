use Rattle.std.specs.Prelude.{◌≡◌, ℕ, ◌<◌, slice_index_or}
use Rattle.graph_core.specs.declared.gate.Gate.{Gate}
use Rattle.slice_planner.specs.Taking.{IsReadyGate}
use Rattle.slice_planner.proofs.taking.Taking.first_ready.Given as goal

-- none of the gates so far can go
abbrev pub invariant-loop-gate : goal.invariant-loop-gate
invariant-loop-gate l = record {
  items : l.gate-items ≡ l.self.extended.gates;
  none : (k : ℕ) (d : Gate) → k < l.gate-index → ¬ (IsReadyGate l.self (slice_index_or l.self.extended.gates k d).v);
}
