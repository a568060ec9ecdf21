use Rattle.std.proofs.Common.{◌≤◌}
use Rattle.joint_prover.proofs.shown.find_cut.Given as goal

abbrev pub invariant-loop-try : goal.invariant-loop-try
invariant-loop-try l = l.left ≤ l.fn.conflicts
