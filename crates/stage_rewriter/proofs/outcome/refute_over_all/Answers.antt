use Rattle.std.proofs.Common.{sym, subst}
use Rattle.std.specs.List.{All}
use Rattle.std.proofs.lemmas.Result.{IfOk-weaker}
use Rattle.clause_core.specs.Clause.{IsClauseInRange}
use Rattle.clause_core.specs.GateClauses.{gate_clauses}
use Rattle.goal_refuter.specs.Refutations.{unmet_goals}
use Rattle.goal_refuter.specs.Refuting.{IsGoalsOutcome, IsOutcomeOver}
use Rattle.goal_refuter.proofs.GoalClauses.{sets_range}
use Rattle.gate_sweeper.proofs.ColumnGoals.{gates_range, goals_range}
use Rattle.stage_rewriter.proofs.outcome.refute_over_all.Goals as goal

pub refute_goals-requires-clause-clauses : goal.refute_goals-requires-clause-clauses
refute_goals-requires-clause-clauses c =
    let e = c.args.extended.now in
    subst (λ m. All (IsClauseInRange m) c.in_ok-clauses.clauses) (sym c.max-max.ensures.value)
    (sets_range e.max c.in_ok-clauses.clauses (gate_clauses e.gates) c.in_ok-clauses.ensures.sets (gates_range e c.gates-gates.ensures.extension))

pub refute_goals-requires-clause-goals : goal.refute_goals-requires-clause-goals
refute_goals-requires-clause-goals c =
    let e = c.args.extended.now in
    subst (λ m. All (IsClauseInRange m) c.in_ok-goals.goals) (sym c.max-max.ensures.value)
    (sets_range e.max c.in_ok-goals.goals (unmet_goals e) c.in_ok-goals.ensures (goals_range e c.gates-gates.ensures.extension))

pub refute_goals-requires-clause-over : goal.refute_goals-requires-clause-over
refute_goals-requires-clause-over c =
    (c.args.extended.now, record { max_is = sym c.max-max.ensures.value; clauses_are = c.in_ok-clauses.ensures.sets; goals_are = c.in_ok-goals.ensures })

pub returns : goal.returns
returns c =
    let e = c.args.extended.now in
    IfOk-weaker c.refute_goals.result (IsOutcomeOver c.max-max.result c.in_ok-clauses.clauses c.in_ok-goals.goals c.args.conflicts) (IsGoalsOutcome e c.args.conflicts)
    (λ o outcome. outcome e (record { max_is = sym c.max-max.ensures.value; clauses_are = c.in_ok-clauses.ensures.sets; goals_are = c.in_ok-goals.ensures })) c.refute_goals.ensures
