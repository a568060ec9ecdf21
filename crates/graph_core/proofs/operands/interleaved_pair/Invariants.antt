use Rattle.std.proofs.Common.{◌≡◌, drop}
use Rattle.graph_core.specs.Graph.Operands.{evens, odds}
use Rattle.graph_core.proofs.OfGraphs.OperandBits.{number_of}
use Rattle.graph_core.proofs.operands.interleaved_pair.Given as goal

abbrev pub invariant-loop-i : goal.invariant-loop-i
invariant-loop-i l = record {
  a : l.a ≡ number_of (drop l.i (evens l.inputs));
  b : l.b ≡ number_of (drop l.i (odds l.inputs));
}
