use Rattle.cdcl_solver.specs.Analyses.{IsAnalysis, SeesAll}
use Rattle.cdcl_solver.proofs.analysis.Analysis.mark.Given as goal

abbrev pub invariant-loop-lit : goal.invariant-loop-lit
invariant-loop-lit l = record {
  analysis : IsAnalysis l.propagator l.self;
  sees : SeesAll l.initial.self l.self l.lit-items l.lit-index;
}
