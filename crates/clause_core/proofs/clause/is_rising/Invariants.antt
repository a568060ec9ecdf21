use Rattle.std.proofs.Common.{ℕ, ◌+◌, ◌<◌}
use Rattle.std.specs.Prelude.{◌<ℤ◌}
use Rattle.clause_core.proofs.Places.{at}
use Rattle.clause_core.proofs.clause.is_rising.Given as goal

abbrev pub invariant-loop-i : goal.invariant-loop-i
invariant-loop-i l = (k : ℕ) → k + 1 < l.i → at l.lits k <ℤ at l.lits (k + 1)
