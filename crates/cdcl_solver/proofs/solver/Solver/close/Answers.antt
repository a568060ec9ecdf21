use Rattle.std.proofs.Common.{◌∙◌, subst, map, neg_ℤ}
use Rattle.clause_core.specs.UnitPropagation.{IsRup}
use Rattle.cdcl_solver.specs.Solvers.{SolverView}
use Rattle.cdcl_solver.proofs.SolverLemmas.{ready_settled, view_kept}
use Rattle.cdcl_solver.proofs.solver.Solver.close.Goals as goal

pub invariant_of-self : goal.invariant_of-self
invariant_of-self c = ready_settled c.self.inside.max c.self.inside.propagator c.restart.new.propagator c.is_settled.new.propagator c.self.inside.order c.self.inside.levels.base c.restart.new.self.base c.self.inside.levels.marks.items c.restart.new.self.marks.items c.self.invariant c.restart.ensures.keeps c.restart.ensures.stage c.is_settled.ensures.same

pub invariant_of-self-2 : goal.invariant_of-self-2
invariant_of-self-2 c = ready_settled c.self.inside.max c.self.inside.propagator c.restart.new.propagator c.is_settled.new.propagator c.self.inside.order c.self.inside.levels.base c.restart.new.self.base c.self.inside.levels.marks.items c.restart.new.self.marks.items c.self.invariant c.restart.ensures.keeps c.restart.ensures.stage c.is_settled.ensures.same

pub returns-clause-end : goal.returns-clause-end
returns-clause-end c = subst (λ (v : SolverView). IsRup v.live (map neg_ℤ c.args.assumptions.now)) (view_kept c.self.inside.max c.self.inside.propagator c.restart.new.propagator c.restart.ensures.keeps.clauses ∙ c.self.view_is) c.if-is_settled.ensures.settled

pub returns-then-is_settled-clause-end : goal.returns-then-is_settled-clause-end
returns-then-is_settled-clause-end c = subst (λ (v : SolverView). IsRup v.live (map neg_ℤ c.args.assumptions.now) → ⊥) (view_kept c.self.inside.max c.self.inside.propagator c.restart.new.propagator c.restart.ensures.keeps.clauses ∙ c.self.view_is) c.if-is_settled.ensures.settled
