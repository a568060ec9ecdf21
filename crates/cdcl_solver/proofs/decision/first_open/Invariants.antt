use Rattle.std.proofs.Common.{◌<◌, ℕ, ◌⊎◌, pos, neg_ℤ, slice_index_or}
use Rattle.std.specs.List.{Contains}
use Rattle.cdcl_solver.proofs.decision.first_open.Given as goal

abbrev pub invariant-loop-var : goal.invariant-loop-var
invariant-loop-var l = (i : ℕ) → i < l.var-index → Contains l.propagator.trail.literals (pos (slice_index_or l.vars i 0)) ⊎ Contains l.propagator.trail.literals (neg_ℤ (pos (slice_index_or l.vars i 0)))
