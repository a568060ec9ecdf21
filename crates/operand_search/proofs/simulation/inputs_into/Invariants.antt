use Rattle.std.proofs.Common.{◌≡◌, ℕ, take}
use Rattle.graph_core.specs.Graph.Assignments.{listed}
use Rattle.graph_core.specs.Graph.{of_inputs}
use Rattle.operand_search.specs.Lanes.{lane}
use Rattle.operand_search.proofs.simulation.inputs_into.Given as goal

abbrev pub invariant-loop-k : goal.invariant-loop-k
invariant-loop-k l = (i v : ℕ) → listed (lane i l.words) v ≡ of_inputs (take l.k l.lits) (take l.k (lane i l.inputs)) v
