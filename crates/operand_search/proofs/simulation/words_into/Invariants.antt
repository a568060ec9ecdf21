use Rattle.std.proofs.Common.{◌≡◌, ℕ, ◌<◌, take}
use Rattle.graph_core.specs.Graph.Assignments.{listed}
use Rattle.graph_core.specs.Graph.{evaluated}
use Rattle.graph_core.specs.Graph.Tables.{IsSettled}
use Rattle.operand_search.specs.Lanes.{lane}
use Rattle.operand_search.proofs.simulation.words_into.Given as goal

abbrev pub invariant-loop-gate : goal.invariant-loop-gate
invariant-loop-gate l = (i : ℕ) → i < 64 → (v : ℕ) → IsSettled l.graph.gates (take l.gate-index l.gate-items) v → listed (lane i l.words) v ≡ evaluated l.graph (lane i l.inputs) v
