use Rattle.pair_trim.proofs.KeptClauses.{AreFirstRanks}
use Rattle.pair_trim.proofs.chosen.ranks_of.Given as goal

abbrev pub invariant-loop-mark : goal.invariant-loop-mark
invariant-loop-mark l = AreFirstRanks l.marks l.mark-index l.ranks.items l.rank
