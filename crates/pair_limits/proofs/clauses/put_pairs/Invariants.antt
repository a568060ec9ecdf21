use Rattle.std.proofs.Common.{drop}
use Rattle.drup_text.specs.WrittenTexts.{pairs_text}
use Rattle.pair_limits.proofs.Behind.{TakesUpTo}
use Rattle.pair_limits.proofs.clauses.put_pairs.Given as goal

abbrev pub invariant-loop-pair : goal.invariant-loop-pair
invariant-loop-pair l = TakesUpTo (pairs_text l.pairs) (pairs_text (drop l.pair-index l.pairs)) l.initial.room l.room
