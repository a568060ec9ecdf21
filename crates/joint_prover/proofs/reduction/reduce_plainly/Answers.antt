use Rattle.std.proofs.Common.{◌≡◌, sym, ap, subst, ◌∙◌}
use Rattle.column_reducer.specs.Reducing.{IsReduced}
use Rattle.graph_core.specs.Graph.Extended.{Extended, without_cut}
use Rattle.graph_core.specs.Graph.Operands.{ReadInputs}
use Rattle.joint_prover.specs.Endings.{Decides}
use Rattle.joint_prover.specs.Replacements.{extended_by}
use Rattle.joint_prover.proofs.Remainders.{first_alone, plain_remainder, plainly_reduced, reads_inputs, within_alone}
use Rattle.joint_prover.proofs.reduction.reduce_plainly.Goals as goal

pub plain_plan-requires : goal.plain_plan-requires
plain_plan-requires c =
    let job = c.args.job.now in
    let is : c.args.alone.extended.now ≡ without_cut job.graph.now = c.requires.alone.extended ∙ ap (extended_by job.graph.now) c.requires.lone in
    record { alone = is ∙ ap without_cut (sym (ap (λ (x : Extended). x.graph) is)) }

pub reduce-requires-clause-inputs : goal.reduce-requires-clause-inputs
reduce-requires-clause-inputs c =
    let l = c.in_ok-lines.lines in
    subst (λ (x : Extended). ReadInputs x.graph l.sides) (sym (c.in_ok-plan.ensures.extended ∙ c.requires.alone.extended ∙ sym c.in_ok-lines.ensures.extended)) (reads_inputs l c.in_ok-lines.ensures.start)

pub end_plan-requires-clause-left : goal.end_plan-requires-clause-left
end_plan-requires-clause-left c =
    let job = c.args.job.now in
    let l = c.in_ok-lines.lines in
    let after = c.reduce.new.lines in
    let p = c.in_ok-plan.plan in
    let plan = c.in_ok-plan.ensures in
    let same = c.requires.alone.extended ∙ sym c.in_ok-lines.ensures.extended in
    let reduced = plainly_reduced job.task.budget l after p c.args.alone.extended.now plan.plain.0 _ same plan.extended plan.uncounted plan.plain.1 plan.plain.2 c.reduce.ensures.goes_on c.reduce.ensures.few
    (subst (IsReduced p l.sides job.task.budget after) c.in-Rest.is c.in_ok-poly.ensures.reduced) in (
      l,
      c.in_ok-lines.ensures.start,
      c.in_ok-lines.ensures.sides,
      c.in_ok-lines.ensures.extended,
      plain_remainder l c.in_ok-lines.ensures.start job.task.budget after c.in-Rest.poly c.in-Rest.id reduced,
    )

pub returns-in_ok-decision-in-Rest : goal.returns-in_ok-decision-in-Rest
returns-in_ok-decision-in-Rest c =
    let job = c.args.job.now in
    let l = c.in_ok-lines.lines in
    let after = c.reduce.new.lines in
    let p = c.in_ok-plan.plan in
    let plan = c.in_ok-plan.ensures in
    let same = c.requires.alone.extended ∙ sym c.in_ok-lines.ensures.extended in
    let reduced = plainly_reduced job.task.budget l after p c.args.alone.extended.now plan.plain.0 _ same plan.extended plan.uncounted plan.plain.1 plan.plain.2 c.reduce.ensures.goes_on c.reduce.ensures.few
    (subst (IsReduced p l.sides job.task.budget after) c.in-Rest.is c.in_ok-poly.ensures.reduced) in
    let g = job.graph.now in
    let start = c.in_ok-lines.ensures in
    let lone = c.requires.lone in (
      within_alone g job.task.claim l start.start (start.extended ∙ ap (extended_by g) lone) start.sides job.task.budget after c.in-Rest.poly c.in-Rest.id reduced,
      subst (λ r. Decides g job.task r c.shortened.result) lone c.shortened.ensures,
    )

pub returns-in-Passed : goal.returns-in-Passed
returns-in-Passed c =
    let job = c.args.job.now in
    let l = c.in_ok-lines.lines in
    let after = c.reduce.new.lines in
    let p = c.in_ok-plan.plan in
    let plan = c.in_ok-plan.ensures in
    let same = c.requires.alone.extended ∙ sym c.in_ok-lines.ensures.extended in
    let reduced = plainly_reduced job.task.budget l after p c.args.alone.extended.now plan.plain.0 _ same plan.extended plan.uncounted plan.plain.1 plan.plain.2 c.reduce.ensures.goes_on c.reduce.ensures.few
    (subst (IsReduced p l.sides job.task.budget after) c.in-Passed.is c.in_ok-poly.ensures.reduced) in
    let g = job.graph.now in
    let start = c.in_ok-lines.ensures in
    first_alone g job.task.claim l start.start (start.extended ∙ ap (extended_by g) c.requires.lone) start.sides job.task.budget c.in-Passed.step c.in-Passed.size after reduced
