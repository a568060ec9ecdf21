use Rattle.std.proofs.Common.{◌≡◌, drop}
use Rattle.graph_core.specs.Graph.Assignments.{listed, word}
use Rattle.operand_search.specs.Lanes.{lane}
use Rattle.operand_search.proofs.simulation.number_in.Given as goal

abbrev pub invariant-loop-k : goal.invariant-loop-k
invariant-loop-k l = l.number ≡ word (listed (lane l.place l.words)) (drop l.k l.lits)
