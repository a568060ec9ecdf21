use Rattle.std.proofs.Common.{sym, subst}
use Rattle.unit_prop.specs.Standing.{Standing, IsPropagated}
use Rattle.cdcl_solver.specs.Levels.{IsStage}
use Rattle.cdcl_solver.proofs.LevelLemmas.{last_back}
use Rattle.cdcl_solver.proofs.levels.Levels.resume.Goals as goal

pub returns-in-Some-clause-stage : goal.returns-in-Some-clause-stage
returns-in-Some-clause-stage c =
    subst (λ (s : Standing). IsStage s c.args.self.now.base c.args.self.now.marks.items) (sym c.back_to.ensures) (last_back c.args.propagator.now c.args.self.now.base c.args.self.now.marks.items c.in-Some.mark c.requires.stage c.in-Some.ensures).0

pub returns-in-Some-clause-resumed : goal.returns-in-Some-clause-resumed
returns-in-Some-clause-resumed c t = (
  c.mark-now.ensures.sound,
  subst (λ (s : Standing). IsPropagated s) (sym c.back_to.ensures) (last_back c.args.propagator.now c.args.self.now.base c.args.self.now.marks.items c.in-Some.mark c.requires.stage c.in-Some.ensures).1,
  c.all_stand.ensures t,
)
