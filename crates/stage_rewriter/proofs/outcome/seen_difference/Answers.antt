use Rattle.std.proofs.Common.{sym, subst}
use Rattle.std.specs.List.{All}
use Rattle.std.specs.Prelude.{IfSome}
use Rattle.std.proofs.lemmas.Option.{IfSome_then}
use Rattle.std.proofs.lemmas.Result.{IfOk-weaker}
use Rattle.clause_core.specs.Clause.{IsClauseInRange}
use Rattle.clause_core.specs.GateClauses.{gate_clauses}
use Rattle.goal_refuter.specs.Refutations.{unmet_goals}
use Rattle.goal_refuter.specs.Refuting.{AreOver, IsDiffering, IsDifferingOver}
use Rattle.goal_refuter.proofs.GoalClauses.{sets_range}
use Rattle.gate_sweeper.proofs.ColumnGoals.{gates_range, goals_range}
use Rattle.stage_rewriter.proofs.outcome.seen_difference.Goals as goal

pub differ_at-requires-clause-clauses : goal.differ_at-requires-clause-clauses
differ_at-requires-clause-clauses c =
    let e = c.args.extended.now in
    subst (λ m. All (IsClauseInRange m) c.in_ok-clauses.clauses) (sym c.max-max.ensures.value)
    (sets_range e.max c.in_ok-clauses.clauses (gate_clauses e.gates) c.in_ok-clauses.ensures.sets (gates_range e c.gates-gates.ensures.extension))

pub differ_at-requires-clause-goals : goal.differ_at-requires-clause-goals
differ_at-requires-clause-goals c =
    let e = c.args.extended.now in
    subst (λ m. All (IsClauseInRange m) c.in_ok-goals.goals) (sym c.max-max.ensures.value)
    (sets_range e.max c.in_ok-goals.goals (unmet_goals e) c.in_ok-goals.ensures (goals_range e c.gates-gates.ensures.extension))

pub differ_at-requires-clause-over : goal.differ_at-requires-clause-over
differ_at-requires-clause-over c =
    (c.args.extended.now, record { max_is = sym c.max-max.ensures.value; clauses_are = c.in_ok-clauses.ensures.sets; goals_are = c.in_ok-goals.ensures })

pub returns : goal.returns
returns c =
    let e = c.args.extended.now in
    let over : AreOver e c.max-max.result c.in_ok-clauses.clauses c.in_ok-goals.goals = record { max_is = sym c.max-max.ensures.value; clauses_are = c.in_ok-clauses.ensures.sets; goals_are = c.in_ok-goals.ensures } in
    IfOk-weaker c.differ_at.result (λ found. IfSome found (λ model. IsDifferingOver c.max-max.result c.in_ok-clauses.clauses c.in_ok-goals.goals model.items)) (λ found. IfSome found (λ values. IsDiffering e values.items))
    (λ found h. IfSome_then found h (λ model differ. differ e over)) c.differ_at.ensures
