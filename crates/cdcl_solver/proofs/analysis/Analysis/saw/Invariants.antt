use Rattle.std.proofs.Common.{ℕ, ◌<◌}
use Rattle.unit_prop.specs.Standing.{at}
use Rattle.unit_prop.specs.Trail.{signed_variable}
use Rattle.cdcl_solver.specs.Analyses.{IsSeen}
use Rattle.cdcl_solver.proofs.analysis.Analysis.saw.Given as goal

abbrev pub invariant-loop-lit : goal.invariant-loop-lit
invariant-loop-lit l = (j : ℕ) → j < l.lit-index → IsSeen l.self (signed_variable (at l.lit-items j))
