use Rattle.stage_rewriter.specs.NearKept.{IsKeptNear}
use Rattle.goal_refuter.specs.Refuting.{IsSoFar}
use Rattle.stage_rewriter.proofs.near.Near.refute_each.Given as goal

abbrev pub invariant-loop-goal : goal.invariant-loop-goal
invariant-loop-goal l = record { so_far : IsSoFar l.self.extended.now l.conflicts l.goal l.log; kept : IsKeptNear l.self.extended.now l.self.marks.now l.solver l.log }
