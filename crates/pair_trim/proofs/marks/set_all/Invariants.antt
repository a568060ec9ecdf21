use Rattle.std.proofs.Common.{take}
use Rattle.pair_trim.specs.Marking.{SetsMarks}
use Rattle.pair_trim.proofs.marks.set_all.Given as goal

abbrev pub invariant-loop-number : goal.invariant-loop-number
invariant-loop-number l = SetsMarks (take l.number-index l.numbers) l.initial.marks l.marks
