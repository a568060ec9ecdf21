use Rattle.std.proofs.Common.{drop}
use Rattle.pac_writer.proofs.Texts.{written_in}
use Rattle.pair_limits.proofs.Behind.{TakesUpTo}
use Rattle.pair_limits.proofs.algebra.put_lines.Given as goal

abbrev pub invariant-loop-line : goal.invariant-loop-line
invariant-loop-line l = TakesUpTo (written_in l.terms l.lines) (written_in l.terms (drop l.line-index l.lines)) l.initial.room l.room
