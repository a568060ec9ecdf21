use Rattle.std.proofs.Common.{refl, subst, ◌∙◌}
use Rattle.graph_core.specs.Graph.Operands.{sides_for}
use Rattle.slice_planner.specs.declared.order.Order.TheVariants.{Slices}
use Rattle.joint_prover.specs.Endings.{IsOutcome, replacement_named}
use Rattle.joint_prover.specs.Replacements.{extended_by}
use Rattle.joint_prover.proofs.Remainders.{above_of}
use Rattle.joint_prover.proofs.Telling.{names_some}
use Rattle.joint_prover.proofs.plans.try_whole.Goals as goal

pub returns-in_ok-push-in-Passed-clause-none : goal.returns-in_ok-push-in-Passed-clause-none
returns-in_ok-push-in-Passed-clause-none c = λ none.
    let job = c.args.job.now in
    let g = job.graph.now in
    let s = c.args.shown in
    let cut = replacement_named s in
    let p = c.in-Passed in
    let last = c.in_ok-last-in-Passed.last in
    let at = c.in_ok-last-in-Passed.ensures in
    let passed = subst (IsOutcome g job.task cut Slices job.task.budget) p.is c.in_ok-decision.ensures refl in (
      last,
      c.in_ok-push-in-Passed.ensures.items,
      record {
        rewritten = at.rewritten_is ∙ c.is_some.ensures ∙ names_some s;
        above = above_of (extended_by g cut) (sides_for job.task.claim g) p.plan.steps passed.0 job.task.budget p.step p.size passed.1 _ last at;
      },
    )

pub shortened-requires-clause-decides : goal.shortened-requires-clause-decides
shortened-requires-clause-decides c =
    let job = c.args.job.now in
    (subst (IsOutcome job.graph.now job.task (replacement_named c.args.shown) Slices job.task.budget) c.in-Decided.is c.in_ok-decision.ensures).1

pub returns-in-Decided-clause-some : goal.returns-in-Decided-clause-some
returns-in-Decided-clause-some c =
    let job = c.args.job.now in
    ((subst (IsOutcome job.graph.now job.task (replacement_named c.args.shown) Slices job.task.budget) c.in-Decided.is c.in_ok-decision.ensures).0, c.shortened.ensures)
