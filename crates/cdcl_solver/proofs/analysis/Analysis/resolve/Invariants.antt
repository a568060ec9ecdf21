use Rattle.std.proofs.Common.{◌<◌, ◌≤◌, ◌≡◌, length}
use Rattle.cdcl_solver.specs.Analyses.{IsAnalysis, Refutes}
use Rattle.cdcl_solver.proofs.analysis.Analysis.resolve.Given as goal

abbrev pub invariant-walk : goal.invariant-walk
invariant-walk l = record {
  analysis : IsAnalysis l.propagator l.self;
  level : l.self.level ≡ l.initial.self.level;
  inside : l.self.lowest < l.place;
  within : l.place ≤ length l.propagator.trail.literals;
  refutes : Refutes l.propagator l.self l.place;
}

abbrev pub decreases-walk : goal.decreases-walk
decreases-walk l = l.place
