use Rattle.std.specs.Prelude.{ℕ, ◌<◌, ◌≤◌, slice_index_or}
use Rattle.line_drafts.proofs.open_draft.are_up_to.Given as goal

abbrev pub invariant-loop-v : goal.invariant-loop-v
invariant-loop-v l = record {
  low : (k d : ℕ) → k < l.v-index → slice_index_or l.variables k d ≤ l.max;
}
