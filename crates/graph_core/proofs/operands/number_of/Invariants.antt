use Rattle.std.proofs.Common.{◌≡◌, drop}
use Rattle.graph_core.proofs.OfGraphs.OperandBits.{number_of}
use Rattle.graph_core.proofs.operands.number_of.Given as goal

abbrev pub invariant-loop-i : goal.invariant-loop-i
invariant-loop-i l = record {
  number : l.number ≡ number_of (drop l.i l.bits);
}
