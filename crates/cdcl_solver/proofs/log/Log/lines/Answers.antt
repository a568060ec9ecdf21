use Rattle.std.proofs.Common.{subst, []}
use Rattle.cdcl_solver.specs.Logs.{LogView, LeavesLive}
use Rattle.cdcl_solver.proofs.log.Log.lines.Goals as goal

pub returns-clause-left : goal.returns-clause-left
returns-clause-left c = subst (λ (v : LogView). LeavesLive [] v.lines v.left) c.self.view_is c.self.invariant.leaves
