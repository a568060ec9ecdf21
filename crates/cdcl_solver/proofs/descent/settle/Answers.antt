use Rattle.std.proofs.Common.{◌∙◌, List, Option, map, neg_ℤ, sym, subst, arith}
use Rattle.clause_core.specs.Clause.{Clause, IsClauseInRange}
use Rattle.unit_prop.specs.Standing.{live_of}
use Rattle.clause_core.specs.UnitPropagation.{IsRup}
use Rattle.cdcl_solver.proofs.LevelLemmas.{stage_grown}
use Rattle.cdcl_solver.proofs.Trails.{clause_within}
use Rattle.cdcl_solver.proofs.descent.settle.Goals as goal

pub resume-requires-clause-within : goal.resume-requires-clause-within
resume-requires-clause-within c l has = clause_within c.args.propagator.now.trail.greatest c.args.assumptions.now c.requires.signed c.requires.in_range l has

pub begin-requires : goal.begin-requires
begin-requires c =
    let greatest = c.restart.ensures.keeps.greatest ∙ c.resume.ensures.keeps.greatest in
    record {
      alone = c.restart.ensures.alone;
      signed = omega (arith, greatest, c.requires.signed);
      in_range = subst (λ m. IsClauseInRange m c.args.assumptions.now) (sym greatest) c.requires.in_range;
    }

pub push-requires : goal.push-requires
push-requires c = record {
  stage = stage_grown c.restart.new.propagator c.begin.new.propagator c.restart.new.self.base c.restart.new.self.marks.items c.if-not-begin.ensures.0 c.restart.ensures.stage;
  settled = c.if-not-begin.ensures.1.settled;
}

pub returns-then-not-begin-clause-stage : goal.returns-then-not-begin-clause-stage
returns-then-not-begin-clause-stage c = stage_grown c.restart.new.propagator c.begin.new.propagator c.restart.new.self.base c.restart.new.self.marks.items c.if-not-begin.ensures.0 c.restart.ensures.stage

pub returns-then-not-begin-clause-settled : goal.returns-then-not-begin-clause-settled
returns-then-not-begin-clause-settled c =
    subst (λ (cs : List (Option Clause)). IsRup (live_of cs) (map neg_ℤ c.args.assumptions.now)) (c.restart.ensures.keeps.clauses ∙ c.resume.ensures.keeps.clauses) c.if-not-begin.ensures.1
