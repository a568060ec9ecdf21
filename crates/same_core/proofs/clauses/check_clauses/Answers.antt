use Rattle.std.proofs.lemmas.Result.{IfErr-weaker, on_ok_weaker}
use Rattle.mv_desk.specs.View.{bytes_under}
use Rattle.mv_desk.specs.declared.slot.Slot.TheVariants as slot
use Rattle.mv_desk.proofs.CallerLemmas.{IfSome-Keeps, Inspects-Opens, Inspects-ReadsOnly, Inspects-trans, KeepsTelling-trans, OpensFiles-still}
use Rattle.mv_text.specs.LineReading.{lengths_of}
use Rattle.same_core.specs.Certificates.{IsLawful, IsMergedLineRefusal, IsOutputRefusal}
use Rattle.same_core.specs.Fails.{IsPairClauseFail}
use Rattle.same_core.specs.Merged.{over}
use Rattle.clause_judge.proofs.Fails.{fails_of_left}
use Rattle.same_core.proofs.clauses.check_clauses.Goals as goal

pub returns-in-Ok-clause-lawful : goal.returns-in-Ok-clause-lawful
returns-in-Ok-clause-lawful g c =
    let lawful = IsLawful (lengths_of c.args.limits.now) (over c.args.merged.now) in
    let text = bytes_under (g.D.Desk.seen c.args.desk.now) c.args.name.now in
    let left = (g.D.Desk.seen c.open_file.new.self).left slot.Clauses in
    on_ok_weaker c.judge_clauses.result (IfSome-Keeps text left lawful c.in-Ok.ensures.opens.left) c.judge_clauses.ensures.lawful

pub returns-in-Ok-clause-refused : goal.returns-in-Ok-clause-refused
returns-in-Ok-clause-refused g c =
    let lengths = lengths_of c.args.limits.now in
    let e = over c.args.merged.now in
    let first = g.D.Desk.seen c.args.desk.now in
    let before = g.D.Desk.seen c.open_file.new.self in
    let now = g.D.Desk.seen c.judge_clauses.new.desk in
    let text = bytes_under first c.args.name.now in
    let left = before.left slot.Clauses in
    IfErr-weaker c.judge_clauses.result (IsPairClauseFail lengths e left before now) (IsPairClauseFail lengths e text first now)
    (fails_of_left text left c.in-Ok.ensures.opens.left (IsMergedLineRefusal lengths e) (IsOutputRefusal lengths e) first before now c.in-Ok.ensures.cause.later) c.judge_clauses.ensures.refused

pub returns-in-Ok-clause-opened : goal.returns-in-Ok-clause-opened
returns-in-Ok-clause-opened g c =
    OpensFiles-still 1 (g.D.Desk.seen c.args.desk.now) (g.D.Desk.seen c.open_file.new.self) (g.D.Desk.seen c.judge_clauses.new.desk) c.in-Ok.ensures.counted c.judge_clauses.ensures.only.opened

pub returns-in-Ok-clause-inspects : goal.returns-in-Ok-clause-inspects
returns-in-Ok-clause-inspects g c =
    let first = g.D.Desk.seen c.args.desk.now in
    let before = g.D.Desk.seen c.open_file.new.self in
    let now = g.D.Desk.seen c.judge_clauses.new.desk in
    Inspects-trans first before now (Inspects-Opens slot.Clauses c.args.name.now first before c.open_file.result (λ e. cc) c.in-Ok.ensures.opens c.open_file.ensures.cause)
    (Inspects-ReadsOnly slot.Clauses before now (λ e. cc) c.judge_clauses.ensures.only)

pub returns-in-Ok-clause-tells : goal.returns-in-Ok-clause-tells
returns-in-Ok-clause-tells g c =
    KeepsTelling-trans (g.D.Desk.seen c.args.desk.now) (g.D.Desk.seen c.open_file.new.self) (g.D.Desk.seen c.judge_clauses.new.desk) c.in-Ok.ensures.tells c.judge_clauses.ensures.tells
