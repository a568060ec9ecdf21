use Rattle.std.proofs.Common.{sym, subst, ◌∙◌}
use Rattle.column_reducer.specs.Reducing.{IsReduced}
use Rattle.frontier_core.specs.Plan.{IsPlan}
use Rattle.graph_core.specs.Graph.Extended.{Extended}
use Rattle.graph_core.specs.Graph.Operands.{ReadInputs, sides_for}
use Rattle.slice_planner.specs.ColumnPlans.{IsColumnPlan}
use Rattle.joint_prover.specs.Endings.{replacement_named}
use Rattle.joint_prover.specs.Replacements.{extended_by}
use Rattle.joint_prover.proofs.Remainders.{ends_at, ends_within, few_over, reads_inputs, remainder_of}
use Rattle.joint_prover.proofs.reduction.reduce_along.Goals as goal

pub reduce-requires-clause-inputs : goal.reduce-requires-clause-inputs
reduce-requires-clause-inputs c =
    let l = c.in_ok-lines.lines in
    subst (λ (x : Extended). ReadInputs x.graph l.sides) (c.in_ok-lines.ensures.extended ∙ sym (c.in_ok-plan.ensures.extended ∙ c.requires.shown.extended)) (reads_inputs l c.in_ok-lines.ensures.start)

pub end_plan-requires-clause-left : goal.end_plan-requires-clause-left
end_plan-requires-clause-left c =
    let l = c.in_ok-lines.lines in
    let after = c.reduce.new.lines in
    let p = c.in_ok-plan.plan in
    let same = c.requires.shown.extended ∙ sym c.in_ok-lines.ensures.extended in
    let reduced = subst (IsReduced p l.sides c.args.budget after) c.in-Rest.is c.in_ok-poly.ensures.reduced in (
      l,
      c.in_ok-lines.ensures.start,
      c.in_ok-lines.ensures.sides,
      c.in_ok-lines.ensures.extended,
      remainder_of l after p c.in-Rest.poly c.in-Rest.id (c.in_ok-plan.ensures.extended ∙ same) (subst (λ x. IsPlan x p.steps) same c.in_ok-plan.ensures.columns.plan)
          c.reduce.ensures.goes_on (few_over p.extended l after (c.in_ok-plan.ensures.extended ∙ same) c.reduce.ensures.goes_on c.reduce.ensures.few) reduced.0,
    )

pub returns-in-Rest : goal.returns-in-Rest
returns-in-Rest c =
    let job = c.args.job.now in
    let g = job.graph.now in
    let l = c.in_ok-lines.lines in
    let p = c.in_ok-plan.plan in
    let same = c.requires.shown.extended ∙ sym c.in_ok-lines.ensures.extended in
    let reduced = subst (IsReduced p l.sides c.args.budget c.reduce.new.lines) c.in-Rest.is c.in_ok-poly.ensures.reduced in
    let within = ends_within l p c.args.budget (c.in_ok-plan.ensures.extended ∙ same) c.in_ok-plan.ensures.uncounted (subst (λ x. IsColumnPlan x p.steps) same c.in_ok-plan.ensures.columns) reduced.1 in (
      ends_at l (extended_by g (replacement_named c.args.shown)) (sides_for job.task.claim g) c.args.budget job.task.budget c.in_ok-lines.ensures.extended c.in_ok-lines.ensures.sides c.requires.within within,
      c.in_ok-decision-in-Rest.ensures,
    )
