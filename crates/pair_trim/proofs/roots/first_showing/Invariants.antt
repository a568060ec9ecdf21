use Rattle.pair_trim.proofs.MarkedRoots.{NoneShows}
use Rattle.pair_trim.proofs.roots.first_showing.Given as goal

abbrev pub invariant-loop-place : goal.invariant-loop-place
invariant-loop-place l = NoneShows l.clauses l.goal l.place
