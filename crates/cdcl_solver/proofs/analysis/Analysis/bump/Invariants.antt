use Rattle.std.proofs.Common.{◌≡◌}
use Rattle.cdcl_solver.proofs.analysis.Analysis.bump.Given as goal

abbrev pub invariant-loop-lit : goal.invariant-loop-lit
invariant-loop-lit l = l.order ≡ l.initial.order
