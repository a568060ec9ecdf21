use Rattle.std.proofs.Common.{List, ◌≤◌, length, ap, refl, sym, subst, ◌∙◌}
use Rattle.std.proofs.lemmas.Result.{IfErr-weaker, IfOk-weaker}
use Rattle.algebra_core.specs.AlgebraLines.{Line}
use Rattle.graph_core.specs.Graph.Extended.{Extended}
use Rattle.mv_desk.specs.declared.slot.Slot.TheVariants as slot
use Rattle.mv_text.specs.CertificateFiles.{left_of_file}
use Rattle.pac_checker.specs.Checking.{IsRecordable, ledger_of}
use Rattle.poly_text.proofs.CallerLemmas.{outputs_fit}
use Rattle.algebra_judge.specs.AlgebraLines.{AlgebraTask, IsJudged, IsLineFail, IsUnlawful, Turns, task_of}
use Rattle.algebra_judge.specs.Records.{ClosesRecord, RecordsTurn}
use Rattle.algebra_judge.proofs.LineTurns.{text_fails, turn_fails, turn_is}
use Rattle.algebra_judge.proofs.Recording.{both_of, closes_grown, read_is_recordable, turn_records}
use Rattle.algebra_judge.proofs.Tasks.{grows_task, task_is}
use Rattle.algebra_judge.proofs.algebra_line.judge_line.Goals as goal

pub returns-in-Err-clause-refused : goal.returns-in-Err-clause-refused
returns-in-Err-clause-refused g c =
    let checker = c.args.checker.now in
    let file = c.args.work.now.file in
    let before = g.D.Desk.seen c.args.desk.now in
    rw c.line_refused.ensures
    (text_fails c.args.line (task_of file.version checker) (ledger_of checker) c.args.work.now.max file.lines (left_of_file slot.Algebra file before) before (g.D.Desk.seen c.grow.new.on) c.in-Err.fail c.requires.max
    c.in-Err.ensures.did.0.says.refused)

pub returns-in-Ok-clause-turns : goal.returns-in-Ok-clause-turns
returns-in-Ok-clause-turns g c =
    let old = c.args.checker.now in
    let grown = c.grow.new.self in
    let file = c.args.work.now.file in
    let next = c.judge_text.new.checker in
    let then = c.grow.new.work.file.lines in
    let left = left_of_file slot.Algebra file (g.D.Desk.seen c.args.desk.now) in
    let behind = left_of_file slot.Algebra c.grow.new.work.file (g.D.Desk.seen c.grow.new.on) in
    let grows = c.grow.ensures.grows in
    let same_max = c.requires.max ∙ ap (λ e. e.max) (sym grows.extended) in
    IfOk-weaker c.judge_text.result (IsJudged c.in-Ok.text grown next) (Turns (task_of file.version old) (ledger_of old) (ledger_of next) file.lines then left behind) (λ turn h.
    subst (λ (t : AlgebraTask). Turns t (ledger_of old) (ledger_of next) file.lines then left behind turn) (task_is file.version file.version old grown refl (grows_task grows))
    (turn_is grown (ledger_of old) grows.ledger c.grow.ensures.modulus file.version c.args.work.now.max same_max file.lines then left behind c.in-Ok.text c.in-Ok.ensures.did.0.says.line next turn h))
    c.judge_text.ensures.judged

pub returns-in-Ok-clause-refused : goal.returns-in-Ok-clause-refused
returns-in-Ok-clause-refused g c =
    let old = c.args.checker.now in
    let grown = c.grow.new.self in
    let file = c.args.work.now.file in
    let then = c.grow.new.work.file.lines in
    let before = g.D.Desk.seen c.args.desk.now in
    let after = g.D.Desk.seen c.grow.new.on in
    let left = left_of_file slot.Algebra file before in
    let behind = left_of_file slot.Algebra c.grow.new.work.file after in
    let grows = c.grow.ensures.grows in
    let same_max = c.requires.max ∙ ap (λ e. e.max) (sym grows.extended) in
    IfErr-weaker c.judge_text.result (IsUnlawful c.args.line c.in-Ok.text grown) (IsLineFail c.args.line (task_of file.version old) (ledger_of old) file.lines left before after) (λ answer h.
    subst (λ (t : AlgebraTask). IsLineFail c.args.line t (ledger_of old) file.lines left before after answer) (task_is file.version file.version old grown refl (grows_task grows))
    (turn_fails grown (ledger_of old) grows.ledger c.grow.ensures.modulus file.version c.args.work.now.max same_max file.lines then left behind c.in-Ok.text c.in-Ok.ensures.did.0.says.line c.args.line before after answer h))
    c.judge_text.ensures.refused

-- ---- what is recorded

pub judge_text-requires-clause-recordable : goal.judge_text-requires-clause-recordable
judge_text-requires-clause-recordable g c =
    let grown = c.grow.new.self in
    let grows = c.grow.ensures.grows in
    let text = c.in-Ok.ensures.did.0.says.text in
    let few = subst (λ (e : Extended). length e.graph.outputs ≤ 128) (sym grows.extended) c.requires.few in
    subst (λ max. IsRecordable max grown.table c.in-Ok.text) (c.requires.max ∙ ap (λ e. e.max) (sym grows.extended))
    (read_is_recordable grown.table c.args.work.now.file.version c.args.work.now.max text.0 c.in-Ok.text (outputs_fit grown.table grown.extended c.grow.ensures.modulus few) text.1)

pub returns-in-Ok-clause-recorded : goal.returns-in-Ok-clause-recorded
returns-in-Ok-clause-recorded g c =
    let old = c.args.checker.now in
    let grown = c.grow.new.self in
    let file = c.args.work.now.file in
    let next = c.judge_text.new.checker in
    let grows = c.grow.ensures.grows in
    let left = left_of_file slot.Algebra file (g.D.Desk.seen c.args.desk.now) in
    let behind = left_of_file slot.Algebra c.grow.new.work.file (g.D.Desk.seen c.grow.new.on) in
    both_of c.judge_text.result (IsJudged c.in-Ok.text grown next) (ClosesRecord grown next) (RecordsTurn (task_of file.version old) old.recorded next.recorded left behind) (λ turn judged closes.
    subst (λ (rs : List Line). RecordsTurn (task_of file.version old) rs next.recorded left behind turn) grows.recorded
    (subst (λ (t : AlgebraTask). RecordsTurn t grown.recorded next.recorded left behind turn) (task_is file.version file.version old grown refl (grows_task grows))
    (turn_records file.version c.args.work.now.max grown next file.lines c.grow.new.work.file.lines left behind c.in-Ok.text turn c.grow.ensures.modulus closes c.in-Ok.ensures.did.0.says.line judged)))
    c.judge_text.ensures.judged c.judge_text.ensures.closes

pub returns-in-Ok-clause-closes : goal.returns-in-Ok-clause-closes
returns-in-Ok-clause-closes g c =
    let old = c.args.checker.now in
    let grown = c.grow.new.self in
    let next = c.judge_text.new.checker in
    IfOk-weaker c.judge_text.result (ClosesRecord grown next) (ClosesRecord old next) (λ turn h. closes_grown old grown next turn c.grow.ensures.grows h) c.judge_text.ensures.closes
