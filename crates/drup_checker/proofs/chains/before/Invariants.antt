use Rattle.std.proofs.Common.{◌≤◌, length}
use Rattle.drup_checker.proofs.chains.before.Given as goal

abbrev pub invariant-loop-from : goal.invariant-loop-from
invariant-loop-from l = l.from ≤ length l.next

abbrev pub decreases-loop-from : goal.decreases-loop-from
decreases-loop-from l = l.from
