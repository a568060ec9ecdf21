use Rattle.std.proofs.Common.{◌≤◌, length, map, neg_ℤ}
use Rattle.drup_checker.proofs.Words.{IsReached}
use Rattle.drup_checker.proofs.tight.explain.Given as goal

abbrev pub invariant-walk : goal.invariant-walk
invariant-walk l = record {
  within : l.place ≤ length l.propagator.trail.literals;
  reached : IsReached l.propagator (map neg_ℤ l.clause) l.seen.items l.places.items l.place;
}

abbrev pub decreases-walk : goal.decreases-walk
decreases-walk l = l.place
