use Rattle.std.proofs.Common.{drop, []}
use Rattle.drup_text.specs.WrittenTexts.{literals_text}
use Rattle.pair_limits.proofs.Behind.{TakesUpTo}
use Rattle.pair_limits.proofs.clauses.put_literals.Given as goal

abbrev pub invariant-loop-literal : goal.invariant-loop-literal
invariant-loop-literal l = TakesUpTo (literals_text l.literals []) (literals_text (drop l.literal-index l.literals) []) l.initial.room l.room
