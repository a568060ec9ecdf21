use Rattle.std.proofs.Common.{◌≡◌, length}
use Rattle.std.specs.List.{All}
use Rattle.graph_core.specs.Graph.Operands.{AreInRange}
use Rattle.operand_search.proofs.sampling.numbers_in.Given as goal

abbrev pub invariant-loop-lane : goal.invariant-loop-lane
invariant-loop-lane l = (length l.bits ≡ length l.initial.bits) × (length l.numbers.items ≡ l.lane) × All (AreInRange l.operands) l.numbers.items
