use Rattle.std.proofs.Common.{◌≡◌, map, take}
use Rattle.graph_core.specs.Graph.Assignments.{literal}
use Rattle.cdcl_solver.specs.Solving.{assignment_of}
use Rattle.stage_rewriter.proofs.difference.numbers_of.Given as goal

abbrev pub invariant-loop-lit : goal.invariant-loop-lit
invariant-loop-lit l = l.inputs.items ≡ map (literal (assignment_of l.values)) (take l.lit-index l.graph.inputs)
