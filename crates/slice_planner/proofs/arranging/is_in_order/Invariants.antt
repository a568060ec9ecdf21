use Rattle.std.specs.Prelude.{◌≡◌, ◌+◌, ◌<◌, ℕ, length, slice_index_or, true, false}
use Rattle.graph_core.specs.declared.gate.Gate.{Gate}
use Rattle.slice_planner.proofs.arranging.is_in_order.Given as goal

-- the gates so far are listed
abbrev pub invariant-loop-gate : goal.invariant-loop-gate
invariant-loop-gate l = record {
  items : l.gate-items ≡ l.extended.gates;
  room : length l.listed.items ≡ l.extended.max + 1;
  so_far : (k : ℕ) (d : Gate) → k < l.gate-index → slice_index_or l.listed.items (slice_index_or l.extended.gates k d).v false ≡ true;
}
