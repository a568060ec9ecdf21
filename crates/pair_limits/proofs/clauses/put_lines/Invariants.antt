use Rattle.std.proofs.Common.{drop}
use Rattle.drup_text.specs.WrittenTexts.{clause_lines_text}
use Rattle.pair_limits.proofs.Behind.{TakesUpTo}
use Rattle.pair_limits.proofs.clauses.put_lines.Given as goal

abbrev pub invariant-loop-line : goal.invariant-loop-line
invariant-loop-line l = TakesUpTo (clause_lines_text l.lines) (clause_lines_text (drop l.line-index l.lines)) l.initial.room l.room
