use Rattle.std.proofs.Common.{◌≡◌, ◌++◌, take}
use Rattle.cdcl_solver.proofs.solving.add_all.Given as goal

abbrev pub invariant-loop-i : goal.invariant-loop-i
invariant-loop-i l = l.solver ≡ record { max = l.initial.solver.max; live = l.initial.solver.live ++ take l.i l.clauses }
