use Rattle.std.proofs.Common.{◌≤◌}
use Rattle.operand_search.proofs.work.ones_within.Given as goal

abbrev pub invariant-loop-more : goal.invariant-loop-more
invariant-loop-more l = 2 ≤ l.ones
