use Rattle.std.proofs.Common.{◌-◌, sym, subst, arith}
use Rattle.unit_prop.specs.Standing.{Standing}
use Rattle.cdcl_solver.specs.Levels.{IsStage}
use Rattle.cdcl_solver.proofs.LevelLemmas.{last_back, stage_take, keeps_back, keeps_more}
use Rattle.cdcl_solver.proofs.levels.Levels.back_up.Goals as goal

pub returns-in-Some-two_open-clause-stage : goal.returns-in-Some-two_open-clause-stage
returns-in-Some-two_open-clause-stage c =
    subst (λ (s : Standing). IsStage s c.back.self.base c.back.self.marks.items) (sym c.back_to.ensures) (last_back c.back.propagator c.back.self.base c.back.self.marks.items c.in-Some.mark c.back.invariant.stage c.in-Some.ensures).0

pub back-preserved : goal.back-preserved
back-preserved c =
    let stage = subst (λ (s : Standing). IsStage s c.back.self.base c.back.self.marks.items) (sym c.back_to.ensures) (last_back c.back.propagator c.back.self.base c.back.self.marks.items c.in-Some.mark c.back.invariant.stage c.in-Some.ensures).0 in
    record {
      keeps = keeps_more c.args.propagator.now c.back.propagator c.back_to.new.self c.back.invariant.keeps (keeps_back c.back.propagator c.back_to.new.self c.in-Some.mark c.back_to.ensures);
      stage = rw c.pop.ensures.rest (stage_take c.back_to.new.self c.back.self.base c.back.self.marks.items (c.back.self.marks.len - 1) (omega (arith, c.back.self.marks.ok.0)) stage);
    }
