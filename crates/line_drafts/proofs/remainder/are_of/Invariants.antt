use Rattle.std.specs.Prelude.{ℕ, ◌≡◌, ◌<◌, true, map, slice_index_or}
use Rattle.graph_core.specs.Graph.Literals.{variable_of}
use Rattle.frontier_core.specs.Sets.{has}
use Rattle.line_drafts.proofs.remainder.are_of.Given as goal

abbrev pub invariant-loop-v : goal.invariant-loop-v
invariant-loop-v l = record {
  of : (k d : ℕ) → k < l.v-index → has (map variable_of l.lits) (slice_index_or l.variables k d) ≡ true;
}
