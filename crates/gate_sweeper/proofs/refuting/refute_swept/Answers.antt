use Rattle.std.proofs.Common.{ℕ, sym, subst}
use Rattle.std.specs.List.{All}
use Rattle.std.proofs.lemmas.Result.{IfOk-weaker}
use Rattle.clause_core.specs.Clause.{IsClauseInRange}
use Rattle.goal_refuter.specs.Beginnings.{IsBegunAlike, IsOutcomeAlike}
use Rattle.goal_refuter.specs.Refuting.{AreOver, IsOutcomeOver}
use Rattle.goal_refuter.proofs.AsMany.{begun_alike}
use Rattle.gate_sweeper.proofs.refuting.refute_swept.Goals as goal

pub sweep-requires : goal.sweep-requires
sweep-requires c =
    let max = c.args.swept.now.max in
    let clauses = c.args.clauses.now in (max, clauses, begun_alike max clauses c.args.conflicts c.in_ok-solver.solver c.new-log.result c.in_ok-solver.ensures c.new-log.ensures)

pub refute_alike-requires-clause-goals : goal.refute_alike-requires-clause-goals
refute_alike-requires-clause-goals c =
    let max = c.args.swept.now.max in
    let clauses = c.args.clauses.now in
    let begun = c.in_ok-sweep.ensures max clauses (begun_alike max clauses c.args.conflicts c.in_ok-solver.solver c.new-log.result c.in_ok-solver.ensures c.new-log.ensures) in
    subst (λ (m : ℕ). All (IsClauseInRange m) c.args.goals.now) (sym begun.0.kept.max_is) c.requires.goals

pub refute_alike-requires-clause-over : goal.refute_alike-requires-clause-over
refute_alike-requires-clause-over c =
    let max = c.args.swept.now.max in
    let clauses = c.args.clauses.now in
    let e = c.requires.over.0 in
    let begun = c.in_ok-sweep.ensures max clauses (begun_alike max clauses c.args.conflicts c.in_ok-solver.solver c.new-log.result c.in_ok-solver.ensures c.new-log.ensures) in (
      e,
      clauses,
      subst (λ (m : ℕ). AreOver e m clauses c.args.goals.now) (sym begun.0.kept.max_is) c.requires.over.1,
      subst (λ (m : ℕ). IsBegunAlike m clauses c.args.conflicts c.sweep.new.solver c.sweep.new.log) (sym begun.0.kept.max_is) begun,
    )

pub returns : goal.returns
returns c =
    let max = c.args.swept.now.max in
    let clauses = c.args.clauses.now in
    let goals = c.args.goals.now in
    let solver = c.sweep.new.solver in
    let log = c.sweep.new.log in
    let begun = c.in_ok-sweep.ensures max clauses (begun_alike max clauses c.args.conflicts c.in_ok-solver.solver c.new-log.result c.in_ok-solver.ensures c.new-log.ensures) in
    IfOk-weaker c.refute_alike.result (IsOutcomeAlike solver log goals c.args.conflicts) (IsOutcomeOver max clauses goals c.args.conflicts)
    (λ o outcome e over. outcome e clauses (subst (λ (m : ℕ). AreOver e m clauses goals) (sym begun.0.kept.max_is) over)
    (subst (λ (m : ℕ). IsBegunAlike m clauses c.args.conflicts solver log) (sym begun.0.kept.max_is) begun))
    c.refute_alike.ensures
