use Rattle.std.proofs.Common.{◌∙◌, ℕ, refl, subst, sym}
use Rattle.std.proofs.lemmas.Result.{err_from_is_err_and}
use Rattle.mv_desk.specs.declared.slot.Slot.TheVariants as slot
use Rattle.mv_text.specs.CertificateFiles.{left_of_file}
use Rattle.clause_judge.specs.ClauseLines.{IsRuleFail}
use Rattle.clause_judge.proofs.ClauseTurns.{all_joined, all_over, all_shown, at_hand, goals_fail, have_failed, next_reached, rule_fails, still_same, takes_task, task_stays, text_fails}
use Rattle.clause_judge.proofs.judging.JudgeClausesJudgeLines.judge_line.Goals as goal

pub returns-in_err-take_line-in-Some-clause-leads :
    goal.returns-in_err-take_line-in-Some-clause-leads
returns-in_err-take_line-in-Some-clause-leads g c start first only h =
    let it = c.args.self.now in
    let answer = c.in_err-take_line-in-Some.field-0.0 in
    let fault = c.in_err-take_line-in-Some.ensures in
    let same = err_from_is_err_and c.from_residual.result c.from_residual.ensures.1 in
    rw (same.1, same.2)
    (have_failed (still_same h refl refl (task_stays fault.unchanged))
    (rule_fails h c.in-Some.line (sym c.take.ensures.value ∙ c.in-Some.is) (g.D.Desk.seen c.args.desk.now) answer (subst (λ (n : ℕ). IsRuleFail n c.in-Some.line it.checker.now answer) c.line_no.ensures fault.refused)))

pub returns-in_err-judge_goals-in-None-clause-leads :
    goal.returns-in_err-judge_goals-in-None-clause-leads
returns-in_err-judge_goals-in-None-clause-leads g c start first only h =
    let answer = c.in_err-judge_goals-in-None.field-0.0 in
    let same = err_from_is_err_and c.from_residual-in_err-judge_goals-in-None.result c.from_residual-in_err-judge_goals-in-None.ensures.1 in
    rw (same.1, same.2)
    (have_failed (still_same h refl refl (task_stays refl)) (goals_fail h (sym c.take.ensures.value ∙ c.in-None.is) (g.D.Desk.seen c.args.desk.now) answer c.in_err-judge_goals-in-None.ensures.refused))

pub returns-in-None-clause-leads : goal.returns-in-None-clause-leads
returns-in-None-clause-leads g c start first only h =
    let is = sym c.take.ensures.value ∙ c.in-None.is in
    let shown = c.in_ok-judge_goals-in-None.ensures.shown in
    record { same = still_same h refl refl (task_stays refl); lawful = all_shown h is shown; shown = all_over h is shown; columns = all_joined h is shown; refused = tt }

pub returns-in_err-next-clause-leads : goal.returns-in_err-next-clause-leads
returns-in_err-next-clause-leads g c start first only h =
    let line = c.in-Some.line in
    let k = c.take_line.new.checker in
    let takes = c.in_ok-take_line-in-Some.ensures.taken in
    let answer = c.in_err-next.field-0.0 in
    let same = err_from_is_err_and c.from_residual-in_err-next.result c.from_residual-in_err-next.ensures.1 in
    rw (same.1, same.2)
    (have_failed (still_same h refl refl (takes_task line c.args.self.now.checker.now k takes))
    (text_fails h line (sym c.take.ensures.value ∙ c.in-Some.is) k takes (g.D.Desk.seen c.read_line.new.desk) answer only.later c.in_err-next.ensures.refused))

pub returns-clause-leads : goal.returns-clause-leads
returns-clause-leads g c start first only h =
    let line = c.in-Some.line in
    let it = c.args.self.now in
    let k = c.take_line.new.checker in
    let takes = c.in_ok-take_line-in-Some.ensures.taken in
    let task = takes_task line it.checker.now k takes in
    let new = c.read_line.new.file in
    let left = left_of_file slot.Clauses it.file.now (g.D.Desk.seen c.args.desk.now) in
    let behind = left_of_file slot.Clauses new (g.D.Desk.seen c.read_line.new.desk) in
    let read = c.in_ok-next.ensures in
    record {
      same = still_same h refl refl task;
      small = h.small;
      greatest = task.max ∙ h.greatest;
      at_hand = at_hand it.max it.file.now new left behind c.in_ok-next.next read.next;
      reached = next_reached h line (sym c.take.ensures.value ∙ c.in-Some.is) k takes c.in_ok-next.next new behind read.lengths read.next;
    }
