use Rattle.std.proofs.Common.{length}
use Rattle.cdcl_solver.specs.Levels.{IsStage, Keeps}
use Rattle.cdcl_solver.proofs.levels.Levels.back_up.Given as goal

abbrev pub invariant-back : goal.invariant-back
invariant-back l = record {
  keeps : Keeps l.initial.propagator l.propagator;
  stage : IsStage l.propagator l.self.base l.self.marks.items;
}

abbrev pub decreases-back : goal.decreases-back
decreases-back l = length l.self.marks.items
