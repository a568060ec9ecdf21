-- There are as many values of the inputs as inputs.
use Rattle.std.specs.Prelude.{◌≡◌, ℕ, List, length}
use Rattle.std.proofs.lemmas.List.{length-map}
use Rattle.graph_core.specs.Graph.Assignments.{literal}
use Rattle.graph_core.specs.Graph.Operands.{Sides, inputs_in}
use Rattle.frontier_core.specs.Sets.{has}
use Rattle.witness_finder.specs.Positions.{bits_at}

pub length-bits_at : (s : Sides) (vs : List ℕ) → length (bits_at s vs) ≡ length (inputs_in s)
length-bits_at s vs = length-map (inputs_in s) (literal (has vs))
