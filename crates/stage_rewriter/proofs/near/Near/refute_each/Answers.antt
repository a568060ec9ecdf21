use Rattle.std.proofs.Common.{◌≡◌, ◌<◌, ◌≤◌, ◌-◌, ℕ, [], length, drop, slice_index_or, List, sym, ap, subst, rules, ◌∙◌, arith}
use Rattle.std.specs.List.{All}
use Rattle.clause_core.specs.Clause.{Clause, IsClauseInRange}
use Rattle.cdcl_solver.specs.Logs.{LogView}
use Rattle.cdcl_solver.specs.Solvers.{SolverView}
use Rattle.cdcl_solver.specs.declared.solved.Solved.{Solved}
use Rattle.stage_rewriter.specs.NearClauses.{IsNearLine}
use Rattle.goal_refuter.specs.Refuting.{IsKeptOver, IsRefutation}
use Rattle.goal_refuter.specs.Refutations.{unmet_goals}
use Rattle.goal_refuter.proofs.GoalClauses.{sets_range}
use Rattle.gate_sweeper.proofs.ColumnGoals.{goals_range}
use Rattle.goal_refuter.proofs.Kept.{left_live}
use Rattle.stage_rewriter.proofs.NearLogs.{shown_near, shown_within}
use Rattle.goal_refuter.proofs.Outcomes.{at_goal, so_far_all, so_far_next, so_far_none}
use Rattle.stage_rewriter.specs.NearKept.{IsKeptNear}
use Rattle.stage_rewriter.proofs.near.Near.refute_each.Goals as goal

-- what is decided first changes nothing
preferred : {max : ℕ} {given : List Clause} {log : LogView} (solver after : SolverView) → after ≡ solver → IsKeptOver max given solver log → IsKeptOver max given after log
preferred {max} {given} {log} solver after same kept = subst (λ (s : SolverView). IsKeptOver max given s log) (sym same) kept

pub refute-requires-clause-goal : goal.refute-requires-clause-goal
refute-requires-clause-goal c =
    let e = c.args.self.now.extended.now in
    let goals = c.args.goals.now in
    let i = c.loop-goal.goal in
    let below : i < length goals = omega arith in
    let over = preferred c.loop-goal.solver c.prefer_below.new.solver c.prefer_below.ensures c.loop-goal.invariant.kept.over in
    subst (λ m. IsClauseInRange m c.get-clause.result.now) (sym over.max_is)
    (subst (IsClauseInRange e.max) (sym c.get-clause.ensures) (sets_range e.max goals (unmet_goals e) c.requires.goals (goals_range e c.gates-gates.ensures.extension) i c.get-clause.result.now below))

pub refute-requires-clause-log : goal.refute-requires-clause-log
refute-requires-clause-log c =
    let over = preferred c.loop-goal.solver c.prefer_below.new.solver c.prefer_below.ensures c.loop-goal.invariant.kept.over in
    subst (λ m. All (IsClauseInRange m) c.loop-goal.log.left) (sym over.max_is) over.in_range

pub refute-requires-clause-known : goal.refute-requires-clause-known
refute-requires-clause-known c =
    let over = preferred c.loop-goal.solver c.prefer_below.new.solver c.prefer_below.ensures c.loop-goal.invariant.kept.over in
    left_live c.prefer_below.new.solver.live c.loop-goal.log.left c.loop-goal.invariant.kept.near over.live

pub loop-goal-init : goal.loop-goal-init
loop-goal-init c = record {
  so_far = so_far_none c.args.self.now.extended.now c.args.conflicts c.new-log.result c.new-log.ensures;
  kept = subst (λ (log : LogView). IsKeptNear c.args.self.now.extended.now c.args.self.now.marks.now c.args.solver.now log) (sym c.new-log.ensures) c.requires.near;
}

pub loop-goal-preserved : goal.loop-goal-preserved
loop-goal-preserved c =
    let e = c.args.self.now.extended.now in
    let clauses = c.loop-goal.invariant.kept.clauses in
    let near = c.loop-goal.invariant.kept.near in
    let goals = c.args.goals.now in
    let i = c.loop-goal.goal in
    let log = c.loop-goal.log in
    let solver = c.prefer_below.new.solver in
    let over = preferred c.loop-goal.solver solver c.prefer_below.ensures c.loop-goal.invariant.kept.over in
    let below : i < length goals = omega arith in
    let spent : ℕ = c.added.result - i in
    let least : c.min.result ≤ c.args.conflicts - spent = omega arith in
    let known = at_goal solver.max e.max near goals i c.min.result c.get-clause.result.now log c.refute.new.log c.in_ok-refute.field-0 over.max_is below c.get-clause.ensures
    (c.in_ok-refute.ensures.answer near over.live) in
    let range = sets_range e.max goals (unmet_goals e) c.requires.goals (goals_range e c.gates-gates.ensures.extension) i [] below in
    let shown = subst (λ (s : Solved). IsRefutation e.max near (slice_index_or goals i []) c.min.result log c.refute.new.log s) c.in-Refuted.is known in
    let lines : All (IsNearLine c.args.self.now.marks.now) (drop (length log.lines) c.refute.new.log.lines) = search rules in
    record {
      so_far = so_far_next e c.args.conflicts clauses goals c.loop-goal.invariant.kept.sets c.requires.goals i below log c.loop-goal.invariant.so_far spent (ap (λ n. n - i) c.added.ensures) c.refute.new.log range
          (shown_within e.max c.min.result (c.args.conflicts - spent) clauses (slice_index_or goals i []) log c.refute.new.log least
          (shown_near c.args.self.now.marks.now clauses near c.loop-goal.invariant.kept.is_near e.max c.min.result (slice_index_or goals i []) log c.refute.new.log shown lines));
      kept = record {
        clauses = clauses;
        sets = c.loop-goal.invariant.kept.sets;
        near = near;
        is_near = c.loop-goal.invariant.kept.is_near;
        over = record {
          max_is = c.in_ok-refute.ensures.max ∙ over.max_is;
          live = c.in_ok-refute.ensures.live near over.live;
          in_range = subst (λ m. All (IsClauseInRange m) c.refute.new.log.left) over.max_is c.in_ok-refute.ensures.left;
        };
      };
    }

pub returns : goal.returns
returns c = so_far_all c.args.self.now.extended.now c.args.conflicts c.args.goals.now c.loop-goal.goal c.loop-goal.log c.requires.goals (omega arith) c.loop-goal.invariant.so_far
