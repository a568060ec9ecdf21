use Rattle.std.proofs.Common.{◌-◌, ◌≤◌, length}
use Rattle.drup_checker.proofs.Tautologies.{ArePairsBetween}
use Rattle.drup_checker.proofs.tautology.is_tautology.Given as goal

abbrev pub invariant-pairs : goal.invariant-pairs
invariant-pairs l = record {
  within : l.back ≤ length l.clause;
  pairs : ArePairsBetween l.clause l.front l.back;
}

abbrev pub decreases-pairs : goal.decreases-pairs
decreases-pairs l = l.back - l.front
