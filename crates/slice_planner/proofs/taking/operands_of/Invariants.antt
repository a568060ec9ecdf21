use Rattle.std.specs.Prelude.{◌≡◌, ℕ, ◌+◌, [], length, take, slice_index_or}
use Rattle.slice_planner.specs.Taking.{read_by_gates}
use Rattle.slice_planner.proofs.taking.operands_of.Given as goal

-- the operands of the gates so far are counted
abbrev pub invariant-loop-gate : goal.invariant-loop-gate
invariant-loop-gate l = record {
  items : l.gate-items ≡ l.extended.gates;
  room : length l.readers.items ≡ l.extended.max + 1;
  counts : (v : ℕ) → slice_index_or l.readers.items v 0 ≡ read_by_gates (take l.gate-index l.gate-items) [] v;
}
