use Rattle.std.proofs.Common.{sym, subst}
use Rattle.cdcl_solver.specs.Solvers.{IsReady}
use Rattle.cdcl_solver.proofs.solver.Solver.suggest.Goals as goal

pub invariant_of-self : goal.invariant_of-self
invariant_of-self c = subst (λ o. IsReady c.self.inside.max c.self.inside.propagator o c.self.inside.levels.base c.self.inside.levels.marks.items) (sym c.suggest.ensures) c.self.invariant
