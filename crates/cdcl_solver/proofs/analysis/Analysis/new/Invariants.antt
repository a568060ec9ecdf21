use Rattle.cdcl_solver.proofs.AnalysisLemmas.{ArePlacesBelow}
use Rattle.cdcl_solver.proofs.analysis.Analysis.new.Given as goal

abbrev pub invariant-loop-place : goal.invariant-loop-place
invariant-loop-place l = ArePlacesBelow l.propagator l.level l.place l.places.items
