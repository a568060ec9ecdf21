use Rattle.std.proofs.Common.{◌≡◌, take}
use Rattle.poly_text.specs.Recorded.{ids_in}
use Rattle.pair_trim.proofs.operands.ids_of.Given as goal

abbrev pub invariant-loop-line : goal.invariant-loop-line
invariant-loop-line l = l.ids.items ≡ ids_in (take l.line-index l.lines)
