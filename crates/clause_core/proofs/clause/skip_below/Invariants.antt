use Rattle.std.proofs.Common.{ℕ, ◌<◌, ◌≤◌, length, ◌-◌}
use Rattle.std.specs.Prelude.{◌<ℤ◌}
use Rattle.clause_core.proofs.Places.{at}
use Rattle.clause_core.proofs.clause.skip_below.Given as goal

abbrev pub invariant-loop-at : goal.invariant-loop-at
invariant-loop-at l = (l.from ≤ l.at) × (l.at ≤ length l.lits) × ((i : ℕ) → l.from ≤ i → i < l.at → at l.lits i <ℤ l.lit)

abbrev pub decreases-loop-at : goal.decreases-loop-at
decreases-loop-at l = length l.lits - l.at
