use Rattle.std.proofs.Common.{ℕ, ◌≤◌, length}
use Rattle.unit_prop.specs.Standing.{HasSetAt}
use Rattle.drup_checker.specs.Chains.{Leads}
use Rattle.drup_checker.proofs.chains.find.Given as goal

abbrev pub invariant-loop-from : goal.invariant-loop-from
invariant-loop-from l = (l.from ≤ length l.next) × ((r : ℕ) → HasSetAt l.propagator.clauses l.clause r → Leads l.next l.head r → Leads l.next l.from r)

abbrev pub decreases-loop-from : goal.decreases-loop-from
decreases-loop-from l = l.from
