use Rattle.cdcl_solver.proofs.AnalysisLemmas.{AreNeededOf}
use Rattle.cdcl_solver.proofs.analysis.Analysis.needed.Given as goal

abbrev pub invariant-loop-lit : goal.invariant-loop-lit
invariant-loop-lit l = AreNeededOf l.propagator l.self l.lit-items l.lit-index l.needed.items
