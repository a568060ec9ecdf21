use Rattle.std.proofs.Common.{ℕ, sym, ap, subst}
use Rattle.std.specs.List.{All}
use Rattle.std.proofs.lemmas.Result.{IfOk-weaker}
use Rattle.clause_core.specs.Clause.{IsClauseInRange}
use Rattle.cdcl_solver.specs.Solvers.{SolverView}
use Rattle.goal_refuter.specs.Beginnings.{IsBegunAlike, IsOutcomeAlike}
use Rattle.goal_refuter.specs.Refuting.{AreOver, IsOutcomeOver}
use Rattle.goal_refuter.proofs.AsMany.{begun_alike}
use Rattle.goal_refuter.proofs.refuting.refute_goals.Goals as goal

pub refute_alike-requires-clause-goals : goal.refute_alike-requires-clause-goals
refute_alike-requires-clause-goals c = subst (λ (s : SolverView). All (IsClauseInRange s.max) c.args.goals.now) (sym c.in_ok-solver.ensures) c.requires.goals

pub refute_alike-requires-clause-over : goal.refute_alike-requires-clause-over
refute_alike-requires-clause-over c =
    let solver = c.in_ok-solver.solver in (
      c.requires.over.0,
      c.args.clauses.now,
      subst (λ (s : SolverView). AreOver c.requires.over.0 s.max c.args.clauses.now c.args.goals.now) (sym c.in_ok-solver.ensures) c.requires.over.1,
      subst (λ (m : ℕ). IsBegunAlike m c.args.clauses.now c.args.conflicts solver c.new.result) (sym (ap (λ (s : SolverView). s.max) c.in_ok-solver.ensures)) (begun_alike c.args.max c.args.clauses.now c.args.conflicts solver c.new.result c.in_ok-solver.ensures c.new.ensures),
    )

pub returns : goal.returns
returns c =
    let solver = c.in_ok-solver.solver in
    let clauses = c.args.clauses.now in
    let goals = c.args.goals.now in
    IfOk-weaker c.refute_alike.result (IsOutcomeAlike solver c.new.result goals c.args.conflicts) (IsOutcomeOver c.args.max clauses goals c.args.conflicts)
    (λ o outcome e over. outcome e clauses (subst (λ (s : SolverView). AreOver e s.max clauses goals) (sym c.in_ok-solver.ensures) over)
    (subst (λ (m : ℕ). IsBegunAlike m clauses c.args.conflicts solver c.new.result) (sym (ap (λ (s : SolverView). s.max) c.in_ok-solver.ensures)) (begun_alike c.args.max clauses c.args.conflicts solver c.new.result c.in_ok-solver.ensures c.new.ensures)))
    c.refute_alike.ensures
