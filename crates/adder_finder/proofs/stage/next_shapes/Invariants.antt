use Rattle.std.proofs.Common.{◌≡◌, ℕ, ◌<◌, length}
use Rattle.std.specs.Prelude.{slice_index_or}
use Rattle.graph_core.specs.declared.literal.Lit.{Lit}
use Rattle.adder_finder.specs.declared.stage.Next.{Next}
use Rattle.adder_finder.specs.StageSearch.{IsNextShape}
use Rattle.adder_finder.proofs.stage.next_shapes.Given as goal

abbrev pub invariant-loop-output : goal.invariant-loop-output
invariant-loop-output l = record {
  size : length l.nexts.items ≡ l.output-index;
  each : (k : ℕ) (o : Lit) (n : Next) → k < length l.nexts.items → IsNextShape l.graph (slice_index_or l.outputs k o) (slice_index_or l.nexts.items k n);
}
