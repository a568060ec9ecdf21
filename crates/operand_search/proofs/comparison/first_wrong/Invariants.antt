use Rattle.std.proofs.Common.{take, All}
use Rattle.operand_search.specs.Lanes.{AreLanes}
use Rattle.operand_search.specs.Runs.{IsRightOn}
use Rattle.operand_search.proofs.comparison.first_wrong.Given as goal

abbrev pub invariant-loop-j : goal.invariant-loop-j
invariant-loop-j l = AreLanes l.operands l.numbers l.inputs → All (IsRightOn l.graph l.operands) (take l.j l.numbers)
