use Rattle.std.proofs.Common.{ℕ, ◌<◌}
use Rattle.std.specs.List.{Contains}
use Rattle.unit_prop.specs.Standing.{at}
use Rattle.cdcl_solver.proofs.levels.all_stand.Given as goal

abbrev pub invariant-loop-lit : goal.invariant-loop-lit
invariant-loop-lit l = (i : ℕ) → i < l.lit-index → Contains l.propagator.trail.literals (at l.lits i)
