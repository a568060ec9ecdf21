use Rattle.std.proofs.Common.{take}
use Rattle.pair_trim.specs.Marking.{MarksRoots, unmet}
use Rattle.pair_trim.proofs.roots.mark_roots.Given as goal

abbrev pub invariant-loop-goal : goal.invariant-loop-goal
invariant-loop-goal l = MarksRoots (unmet (take l.goal-index l.goals)) l.clauses l.initial.marks l.marks
