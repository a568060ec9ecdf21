-- The order of the gates' operands is free.
use Rattle.std.specs.Prelude.{◌↔◌}
use Rattle.graph_core.specs.declared.claim.Claim.{Claim}
use Rattle.graph_core.specs.Graph.{Aig, SameUpToOperands}
use Rattle.graph_core.specs.Graph.Operands.{Does}

-- Graphs that are one up to the order of each gate's operands do what is claimed or don't, both.
abbrev pub OrderOfOperandsIsFree : Type 0
OrderOfOperandsIsFree = (g h : Aig) (claim : Claim) → SameUpToOperands g h → Does claim g ↔ Does claim h
