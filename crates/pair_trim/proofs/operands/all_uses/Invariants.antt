use Rattle.std.proofs.Common.{map, take}
use Rattle.poly_text.specs.Recorded.{operands_in}
use Rattle.pair_trim.specs.Lines.{AreAllUses}
use Rattle.pair_trim.proofs.operands.all_uses.Given as goal

abbrev pub invariant-loop-line : goal.invariant-loop-line
invariant-loop-line l = AreAllUses l.ids (map operands_in (take l.line-index l.lines)) l.uses.items
