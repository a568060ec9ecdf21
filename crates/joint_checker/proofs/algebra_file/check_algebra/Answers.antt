use Rattle.std.proofs.Common.{List, ℕ}
use Rattle.std.specs.Option.{IfSome}
use Rattle.std.proofs.lemmas.Result.{IfErr-weaker, IfOk-weaker, on_ok_weaker}
use Rattle.algebra_core.specs.Certificates.{IsLawfulAlgebra}
use Rattle.algebra_core.specs.Refusal.{IsAlgebraRefusal}
use Rattle.graph_core.specs.Graph.Operands.{sides_for}
use Rattle.mv_desk.specs.View.{bytes_under}
use Rattle.mv_desk.specs.declared.slot.Slot.TheVariants as slot
use Rattle.mv_desk.proofs.CallerLemmas.{IfSome-Keeps}
use Rattle.mv_text.specs.LineReading.{lengths_of}
use Rattle.joint_checker.specs.Fails.{IsAlgebraFail}
use Rattle.joint_checker.specs.Shown.{premises_of}
use Rattle.algebra_judge.proofs.Fails.{fails_of_left}
use Rattle.graph_core.specs.Graph.Extended.{modulus}
use Rattle.poly_text.specs.Recorded.{lines_in}
use Rattle.algebra_judge.specs.Records.{IsRecordOf}
use Rattle.algebra_judge.specs.declared.judging.Closed.{Closed}
use Rattle.joint_checker.proofs.CertificateReading.{not_opened, opened_and_read}
use Rattle.joint_checker.proofs.algebra_file.check_algebra.Goals as goal

pub returns-in-Ok-clause-lawful : goal.returns-in-Ok-clause-lawful
returns-in-Ok-clause-lawful g c =
    let shown = c.args.shown.now in
    let e = shown.extended in
    let p = premises_of shown in
    on_ok_weaker c.judge_algebra.result
    (IfSome-Keeps (bytes_under (g.D.Desk.seen c.args.desk.now) c.args.name.now) ((g.D.Desk.seen c.open_file.new.self).left slot.Algebra)
    (IsLawfulAlgebra (lengths_of c.args.limits.now) p (sides_for c.args.claim e.graph)) c.in-Ok.ensures.opens.left)
    c.judge_algebra.ensures.lawful

pub returns-in-Ok-clause-refused : goal.returns-in-Ok-clause-refused
returns-in-Ok-clause-refused g c =
    let lengths = lengths_of c.args.limits.now in
    let shown = c.args.shown.now in
    let e = shown.extended in
    let p = premises_of shown in
    let sides = sides_for c.args.claim e.graph in
    let first = g.D.Desk.seen c.args.desk.now in
    let before = g.D.Desk.seen c.open_file.new.self in
    let now = g.D.Desk.seen c.judge_algebra.new.desk in
    let text = bytes_under first c.args.name.now in
    let left = before.left slot.Algebra in
    IfErr-weaker c.judge_algebra.result (IsAlgebraFail lengths p sides left before now) (IsAlgebraFail lengths p sides text first now)
    (fails_of_left text left c.in-Ok.ensures.opens.left (IsAlgebraRefusal p sides lengths) first before now c.in-Ok.ensures.cause.later) c.judge_algebra.ensures.refused

pub returns-in-Ok-clause-told : goal.returns-in-Ok-clause-told
returns-in-Ok-clause-told g c =
    let shown = c.args.shown.now in
    let P : Closed → List ℕ → Type 0 = λ closed bytes. IsRecordOf c.args.records shown.header.version (modulus shown.extended) bytes (lines_in closed.record.terms closed.record.lines.items) closed.id closed.lines in
    let text = bytes_under (g.D.Desk.seen c.args.desk.now) c.args.name.now in
    let left = (g.D.Desk.seen c.open_file.new.self).left slot.Algebra in
    IfOk-weaker c.judge_algebra.result (λ closed. IfSome left (P closed)) (λ closed. IfSome text (P closed)) (λ closed h. IfSome-Keeps text left (P closed) c.in-Ok.ensures.opens.left h) c.judge_algebra.ensures.told

pub returns-in-Ok-clause-reads : goal.returns-in-Ok-clause-reads
returns-in-Ok-clause-reads g c =
    opened_and_read slot.Algebra c.args.name.now (g.D.Desk.seen c.args.desk.now) (g.D.Desk.seen c.open_file.new.self) c.open_file.result c.open_file.ensures.cause c.open_file.ensures.counted c.open_file.ensures.tells
    (g.D.Desk.seen c.judge_algebra.new.desk) (λ e. cc) c.in-Ok.ensures.opens c.judge_algebra.ensures.only c.judge_algebra.ensures.tells

pub returns-in-Err-clause-reads : goal.returns-in-Err-clause-reads
returns-in-Err-clause-reads g c =
    not_opened slot.Algebra c.args.name.now (g.D.Desk.seen c.args.desk.now) (g.D.Desk.seen c.open_file.new.self) c.open_file.result c.open_file.ensures.cause c.open_file.ensures.counted c.open_file.ensures.tells
    c.in-Err.ensures.failed
