use Rattle.std.proofs.Common.{sym, ap, subst, ◌∙◌}
use Rattle.std.specs.List.{All}
use Rattle.std.proofs.lemmas.List.Elements.{All-nil}
use Rattle.clause_core.specs.Clause.{IsClauseInRange}
use Rattle.clause_core.specs.GateClauses.{gate_clauses}
use Rattle.cdcl_solver.specs.Loading.{SameLive}
use Rattle.cdcl_solver.specs.Solvers.{SolverView}
use Rattle.goal_refuter.proofs.GoalClauses.{sets_range}
use Rattle.goal_refuter.proofs.Kept.{live_itself}
use Rattle.gate_sweeper.proofs.ColumnGoals.{gates_range}
use Rattle.stage_rewriter.proofs.NearLogs.{near_range}
use Rattle.stage_rewriter.proofs.near.refute_near.Goals as goal

pub solver_of-requires-clause-in_range : goal.solver_of-requires-clause-in_range
solver_of-requires-clause-in_range c =
    let e = c.args.extended.now in
    subst (λ m. All (IsClauseInRange m) c.in_ok-some.some) (sym c.max-max.ensures.value)
    (near_range c.deref.result.now e.max c.in_ok-clauses.clauses c.in_ok-some.some c.in_ok-some.ensures
    (sets_range e.max c.in_ok-clauses.clauses (gate_clauses e.gates) c.in_ok-clauses.ensures.sets (gates_range e c.gates-gates.ensures.extension)))

pub refute_each-requires-clause-near : goal.refute_each-requires-clause-near
refute_each-requires-clause-near c =
    let near = c.in_ok-some.some in
    record {
      clauses = c.in_ok-clauses.clauses;
      sets = c.in_ok-clauses.ensures.sets;
      near = near;
      is_near = c.in_ok-some.ensures;
      over = record {
        max_is = ap (λ (s : SolverView). s.max) c.in_ok-solver.ensures ∙ c.max-max.ensures.value;
        live = subst (λ (s : SolverView). SameLive s.live near) (sym c.in_ok-solver.ensures) (live_itself near);
        in_range = All-nil (IsClauseInRange c.args.extended.now.max);
      };
    }
