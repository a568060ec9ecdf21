use Rattle.std.proofs.Common.{[], sym, subst}
use Rattle.unit_prop.specs.Standing.{Standing, StandsAlone}
use Rattle.cdcl_solver.specs.Levels.{IsStage}
use Rattle.cdcl_solver.proofs.LevelLemmas.{restarted}
use Rattle.cdcl_solver.proofs.levels.Levels.restart.Goals as goal

pub returns-clause-alone : goal.returns-clause-alone
returns-clause-alone c = subst (λ (s : Standing). StandsAlone s) (sym c.back_to.ensures) (restarted c.args.propagator.now c.args.self.now.base c.args.self.now.marks.items c.requires).0

pub returns-clause-stage : goal.returns-clause-stage
returns-clause-stage c = rw c.clear.ensures.items (subst (λ (s : Standing). IsStage s c.args.self.now.base []) (sym c.back_to.ensures) (restarted c.args.propagator.now c.args.self.now.base c.args.self.now.marks.items c.requires).1)
