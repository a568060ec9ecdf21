use Rattle.std.proofs.Common.{[], slice_index_or, sym, subst, ◌∙◌}
use Rattle.clause_core.specs.Clause.{IsClauseInRange}
use Rattle.cdcl_solver.specs.Solvers.{SolverView}
use Rattle.cdcl_solver.specs.declared.solved.Solved.{Solved}
use Rattle.miter_encoder.proofs.Meanings.{clauses_mean}
use Rattle.goal_refuter.specs.Refuting.{IsRefutation}
use Rattle.goal_refuter.proofs.Beginning.{begun_known, begun_none, begun_range}
use Rattle.goal_refuter.proofs.Outcomes.{at_goal, differing_at}
use Rattle.goal_refuter.proofs.differing.differ_at.Goals as goal

pub refute-requires-clause-goal : goal.refute-requires-clause-goal
refute-requires-clause-goal c =
    let is = c.suggest.ensures ∙ c.in_ok-solver.ensures in
    subst (λ (s : SolverView). IsClauseInRange s.max c.get.result.now) (sym is)
    (subst (IsClauseInRange c.args.max) (sym c.get.ensures) (c.requires.goals c.args.place c.get.result.now c.requires.within))

pub refute-requires-clause-log : goal.refute-requires-clause-log
refute-requires-clause-log c =
    let begun = begun_none c.args.max c.args.clauses.now 1 c.suggest.new.self c.new-log.result (c.suggest.ensures ∙ c.in_ok-solver.ensures) c.new-log.ensures in
    begun_range c.args.max c.args.clauses.now 1 c.suggest.new.self c.new-log.result begun

pub refute-requires-clause-known : goal.refute-requires-clause-known
refute-requires-clause-known c =
    let begun = begun_none c.args.max c.args.clauses.now 1 c.suggest.new.self c.new-log.result (c.suggest.ensures ∙ c.in_ok-solver.ensures) c.new-log.ensures in
    begun_known c.args.max c.args.clauses.now 1 c.suggest.new.self c.new-log.result begun

pub returns-in-Model : goal.returns-in-Model
returns-in-Model c e over =
    let is = c.suggest.ensures ∙ c.in_ok-solver.ensures in
    let max = c.args.max in
    let given = c.args.clauses.now in
    let begun = begun_none max given 1 c.suggest.new.self c.new-log.result is c.new-log.ensures in
    let known = at_goal c.suggest.new.self.max max given c.args.goals.now c.args.place 1 c.get.result.now c.new-log.result c.refute.new.log c.in_ok-model.field-0 begun.kept.max_is c.requires.within c.get.ensures (c.in_ok-model.ensures.answer given begun.kept.live) in
    differing_at e max given c.args.goals.now c.args.place c.in-Model.model.items over (λ σ. (clauses_mean e.gates given over.clauses_are σ).0) c.requires.within
    (subst (λ (s : Solved). IsRefutation max given (slice_index_or c.args.goals.now c.args.place []) 1 c.new-log.result c.refute.new.log s) c.in-Model.is known)
