use Rattle.std.proofs.Common.{sym, subst}
use Rattle.unit_prop.specs.Standing.{Standing}
use Rattle.cdcl_solver.specs.Levels.{IsStage}
use Rattle.cdcl_solver.proofs.LevelLemmas.{stage_open}
use Rattle.cdcl_solver.proofs.levels.Levels.add.Goals as goal

pub returns-in-Some-clause-stage : goal.returns-in-Some-clause-stage
returns-in-Some-clause-stage c =
    subst (λ (s : Standing). IsStage s c.back_up.new.self.base c.back_up.new.self.marks.items) (sym c.in_ok-added.ensures.ok.1)
    (stage_open c.back_up.new.propagator c.back_up.new.self.base c.back_up.new.self.marks.items c.args.clause.now c.in-Some.two c.in-Some.ensures.two c.back_up.ensures.stage)
