use Rattle.std.specs.Prelude.{◌≡◌, ℕ, ◌+◌, [], length, slice_index_or}
use Rattle.ripple_graft.specs.Extension.{new_outputs}
use Rattle.slice_planner.specs.Taking.{read_by_columns, read_by_gates}
use Rattle.slice_planner.proofs.taking.readers_of.Given as goal

-- the outputs so far are counted
abbrev pub invariant-loop-k : goal.invariant-loop-k
invariant-loop-k l = record {
  room : length l.readers.items ≡ l.extended.max + 1;
  counts : (v : ℕ) → slice_index_or l.readers.items v 0 ≡ read_by_gates l.extended.gates [] v + read_by_columns (new_outputs l.extended) l.k v;
}
