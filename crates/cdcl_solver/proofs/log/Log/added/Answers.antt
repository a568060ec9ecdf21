use Rattle.std.proofs.Common.{◌≡◌, length, subst}
use Rattle.clause_core.specs.ClauseLines.{added}
use Rattle.cdcl_solver.specs.Logs.{LogView}
use Rattle.cdcl_solver.proofs.log.Log.added.Goals as goal

pub returns : goal.returns
returns c = subst (λ (v : LogView). c.self.inside.added ≡ length (added v.lines)) c.self.view_is c.self.invariant.counted
