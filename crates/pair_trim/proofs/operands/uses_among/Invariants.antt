use Rattle.std.proofs.Common.{take}
use Rattle.pair_trim.specs.Lines.{AreUsesOf}
use Rattle.pair_trim.proofs.operands.uses_among.Given as goal

abbrev pub invariant-loop-operand : goal.invariant-loop-operand
invariant-loop-operand l = AreUsesOf l.ids (take l.operand-index l.operands) l.uses.items
