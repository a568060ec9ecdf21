use Rattle.std.proofs.Common.{◌≤◌}
use Rattle.drup_checker.proofs.store.Store.len.Given as goal

abbrev pub invariant-loop-place : goal.invariant-loop-place
invariant-loop-place l = l.count ≤ l.place
