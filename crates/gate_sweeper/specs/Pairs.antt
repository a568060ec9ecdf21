-- Pairs of outputs. A private clause alone cites it.
use Rattle.std.specs.Prelude.{ℕ, List, map, slice_index_or}
use Rattle.graph_core.specs.declared.literal.Lit.{Lit}
use Rattle.graph_core.specs.Graph.{Aig}
use Rattle.graph_core.specs.Graph.Literals.{constant_false}

-- of a column and its new output: the graph's, and the new one
abbrev pub pair_at : Aig → ℕ × Lit → Lit × Lit
pair_at g c = (slice_index_or g.outputs c.0 constant_false, c.1)

abbrev pub pairs_at : Aig → List (ℕ × Lit) → List (Lit × Lit)
pairs_at g outputs = map (pair_at g) outputs
