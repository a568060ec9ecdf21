use Rattle.std.proofs.Common.{◌≤◌, ◌∙◌, ap, arith, length, refl, subst, sym}
use Rattle.graph_core.specs.Graph.Extended.{Extended}
use Rattle.std.proofs.lemmas.Result.{err_from_is_err_and}
use Rattle.mv_desk.specs.declared.slot.Slot.TheVariants as slot
use Rattle.mv_desk.proofs.CallerLemmas.{KeepsTelling-trans, ReadsOnly-trans}
use Rattle.algebra_judge.proofs.AlgebraTurns.{end_fails, have_closed, line_fails, one_more_recorded, one_more_reached}
use Rattle.algebra_judge.proofs.Tasks.{keeps_task, task_is}
use Rattle.algebra_judge.proofs.judging.JudgeAlgebraJudgeLines.judge_line.Goals as goal

pub returns-in_err-judge_line-clause-leads : goal.returns-in_err-judge_line-clause-leads
returns-in_err-judge_line-clause-leads g c start first only h =
    let same = err_from_is_err_and c.from_residual.result c.from_residual.ensures.1 in
    rw (same.1, same.2)
    (line_fails h.0 (g.D.Desk.seen c.judge_line.new.desk) c.judge_line.new.checker c.in_err-judge_line.field-0.0 only.later c.in_err-judge_line.ensures.refused)

pub returns-in_ok-compact-in-Taken-clause-leads : goal.returns-in_ok-compact-in-Taken-clause-leads
returns-in_ok-compact-in-Taken-clause-leads g c start first only h =
    let line = c.in_ok-judge_line.ensures in
    let old = c.args.self.now in
    let next = c.judge_line.new.checker in
    let last = c.compact.new.self in
    let file = c.judge_line.new.work.file in
    let now = g.D.Desk.seen c.judge_line.new.desk in
    let keeps = c.compact.ensures.keeps in (
      record {
        going = line.going;
        limit = h.0.limit;
        few = subst (λ (e : Extended). length e.graph.outputs ≤ 128) (sym (keeps.extended ∙ line.task.extended)) h.0.few;
        lengths = line.lengths ∙ h.0.lengths;
        task = task_is old.work.file.version file.version next last line.version (keeps_task keeps) ∙ task_is old.work.file.version old.work.file.version old.checker next refl line.task ∙ h.0.task;
        reached = one_more_reached h.0 next file now c.in_ok-judge_line.field-0 line.turns line.recorded last c.in-Taken.is keeps.ledger;
        recorded = one_more_recorded h.0 next file now c.in_ok-judge_line.field-0 line.turns line.recorded last c.in-Taken.is keeps.recorded;
      },
      line.max ∙ h.1 ∙ ap (λ e. e.max) (sym (keeps.extended ∙ line.task.extended)),
    )

pub returns-in_ok-judge_end-in-Closed-clause-leads : goal.returns-in_ok-judge_end-in-Closed-clause-leads
returns-in_ok-judge_end-in-Closed-clause-leads g c start first only h =
    let line = c.in_ok-judge_line.ensures in
    have_closed h.0 c.judge_line.new.checker c.judge_line.new.work.file (g.D.Desk.seen c.judge_line.new.desk) c.in_ok-judge_line.field-0 line.turns line.recorded c.in-Closed.id c.in-Closed.is line.lengths line.closes line.task.extended c.in_ok-judge_end-in-Closed.ensures.end

pub returns-in_err-judge_end-in-Closed-clause-leads : goal.returns-in_err-judge_end-in-Closed-clause-leads
returns-in_err-judge_end-in-Closed-clause-leads g c start first only h =
    let line = c.in_ok-judge_line.ensures in
    let once = only.later in
    let twice = line.only.later in
    let same = err_from_is_err_and c.from_residual-in_err-judge_end-in-Closed.result c.from_residual-in_err-judge_end-in-Closed.ensures.1 in
    rw (same.1, same.2)
    (end_fails h.0 c.judge_line.new.checker c.judge_line.new.work.file (g.D.Desk.seen c.judge_line.new.desk) c.in_ok-judge_line.field-0 line.turns line.recorded c.in-Closed.id c.in-Closed.is line.lengths (g.D.Desk.seen c.judge_end.new.desk) c.judge_line.new.checker
    c.in_err-judge_end-in-Closed.field-0.0 (omega (arith, once, twice)) c.in_err-judge_end-in-Closed.ensures.refused)

-- ---- the desk

pub returns-in_ok-judge_end-in-Closed-clause-only : goal.returns-in_ok-judge_end-in-Closed-clause-only
returns-in_ok-judge_end-in-Closed-clause-only g c =
    ReadsOnly-trans slot.Algebra (g.D.Desk.seen c.args.desk.now) (g.D.Desk.seen c.judge_line.new.desk) (g.D.Desk.seen c.judge_end.new.desk) c.judge_line.ensures.only c.judge_end.ensures.only

pub returns-in_ok-judge_end-in-Closed-clause-tells : goal.returns-in_ok-judge_end-in-Closed-clause-tells
returns-in_ok-judge_end-in-Closed-clause-tells g c =
    KeepsTelling-trans (g.D.Desk.seen c.args.desk.now) (g.D.Desk.seen c.judge_line.new.desk) (g.D.Desk.seen c.judge_end.new.desk) c.judge_line.ensures.tells c.judge_end.ensures.tells
