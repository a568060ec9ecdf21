use Rattle.std.proofs.Common.{◌≡◌, map, take}
use Rattle.cdcl_solver.specs.Solving.{assignment_of}
use Rattle.graph_core.specs.Graph.Assignments.{literal}
use Rattle.same_core.proofs.solving.inputs_at.Given as goal

abbrev pub invariant-loop-input : goal.invariant-loop-input
invariant-loop-input l = l.inputs.items ≡ map (literal (assignment_of l.values.items)) (take l.input-index l.graph.inputs)
