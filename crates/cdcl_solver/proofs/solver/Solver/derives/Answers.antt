use Rattle.std.proofs.Common.{[], ◌∷◌, ◌∙◌, subst}
use Rattle.std.proofs.lemmas.Int.{to_z-of_z}
use Rattle.cdcl_solver.specs.Shows.{HasNoneWithin}
use Rattle.cdcl_solver.specs.Solvers.{SolverView}
use Rattle.cdcl_solver.proofs.SolverLemmas.{ready_settled, view_kept}
use Rattle.cdcl_solver.proofs.solver.Solver.derives.Goals as goal

pub invariant_of-self : goal.invariant_of-self
invariant_of-self c = ready_settled c.self.inside.max c.self.inside.propagator c.restart.new.propagator c.derive_each_other.new.propagator c.self.inside.order c.self.inside.levels.base c.restart.new.self.base c.self.inside.levels.marks.items c.restart.new.self.marks.items c.self.invariant c.restart.ensures.keeps c.restart.ensures.stage c.derive_each_other.ensures.same

pub returns-clause-none : goal.returns-clause-none
returns-clause-none c f =
    let one = c.ranges.one in
    let other = c.ranges.other in
    let none = simp to_z-of_z at c.derive_each_other.ensures.none in
    subst (λ (v : SolverView). HasNoneWithin v.live (c.args.one ∷ c.args.other ∷ [])) (view_kept c.self.inside.max c.self.inside.propagator c.restart.new.propagator c.restart.ensures.keeps.clauses ∙ c.self.view_is) (none f)
