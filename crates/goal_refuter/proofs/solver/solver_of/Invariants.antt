use Rattle.std.proofs.Common.{◌≡◌, take}
use Rattle.goal_refuter.proofs.solver.solver_of.Given as goal

abbrev pub invariant-loop-i : goal.invariant-loop-i
invariant-loop-i l = l.solver ≡ record { max = l.max; live = take l.i l.clauses }
