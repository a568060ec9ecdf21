use Rattle.std.proofs.Common.{◌+◌}
use Rattle.std.proofs.lemmas.Result.{IfErr-weaker, on_ok_weaker}
use Rattle.mv_desk.specs.declared.slot.Slot.TheVariants as slot
use Rattle.mv_text.specs.LineReading.{lengths_of}
use Rattle.clause_judge.specs.ClauseBody.{IsRestFail}
use Rattle.mv_text.specs.CertificateFiles.{left_of_file}
use Rattle.same_core.specs.Fails.{IsPairClauseFail}
use Rattle.same_core.specs.Merged.{over}
use Rattle.same_core.proofs.Judged.{rest_fails, start_fails, text_is_lawful}
use Rattle.same_core.proofs.clauses.judge_clauses.Goals as goal

pub returns-in-Err-clause-refused : goal.returns-in-Err-clause-refused
returns-in-Err-clause-refused g c =
    let before = g.D.Desk.seen c.args.desk.now in
    let refused = c.in-Err.ensures.refused in
    rw c.line_refused.ensures
    (start_fails (lengths_of c.args.limits.now) (over c.args.merged.now) (before.left slot.Clauses) before (g.D.Desk.seen c.start_same.new.desk) c.in-Err.fail.line c.in-Err.fail.why refused.first refused.cause)

pub returns-clause-lawful : goal.returns-clause-lawful
returns-clause-lawful g c =
    let file = c.in-Ok.file in
    on_ok_weaker c.judge_lines.result
    (text_is_lawful (lengths_of c.args.limits.now) (over c.args.merged.now) file c.in-Ok.ensures.file.lengths c.in-Ok.ensures.file.number_is ((g.D.Desk.seen c.args.desk.now).left slot.Clauses)
    (left_of_file slot.Clauses file (g.D.Desk.seen c.start_same.new.desk)) c.in-Ok.ensures.header) c.judge_lines.ensures.lawful

pub returns-clause-refused : goal.returns-clause-refused
returns-clause-refused g c =
    let lengths = lengths_of c.args.limits.now in
    let e = over c.args.merged.now in
    let before = g.D.Desk.seen c.args.desk.now in
    let middle = g.D.Desk.seen c.start_same.new.desk in
    let now = g.D.Desk.seen c.judge_lines.new.desk in
    let file = c.in-Ok.file in
    let text = before.left slot.Clauses in
    let behind = left_of_file slot.Clauses file middle in
    IfErr-weaker c.judge_lines.result (IsRestFail (file.number + 1) e file.lines behind middle now) (IsPairClauseFail lengths e text before now)
    (λ given. rest_fails lengths e file c.in-Ok.ensures.file.lengths c.in-Ok.ensures.file.number_is text behind c.in-Ok.ensures.header before middle now given c.in-Ok.ensures.reads.only.later) c.judge_lines.ensures.refused
