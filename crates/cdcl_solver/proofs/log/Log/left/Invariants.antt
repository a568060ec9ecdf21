use Rattle.std.proofs.Common.{[], take}
use Rattle.cdcl_solver.specs.Deletions.{left_by}
use Rattle.cdcl_solver.specs.Loading.{SameLive}
use Rattle.cdcl_solver.proofs.log.Log.left.Given as goal

abbrev pub invariant-loop-place : goal.invariant-loop-place
invariant-loop-place l = SameLive l.clauses (left_by [] (take l.place l.line-items) (take l.place l.self-inside.live.items))
