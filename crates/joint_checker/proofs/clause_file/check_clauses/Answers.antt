use Rattle.std.specs.Option.{IfSome}
use Rattle.std.proofs.lemmas.Result.{IfErr-weaker, IfOk-weaker}
use Rattle.mv_desk.specs.View.{bytes_under}
use Rattle.mv_desk.specs.declared.slot.Slot.TheVariants as slot
use Rattle.mv_desk.proofs.CallerLemmas.{IfSome-Keeps}
use Rattle.mv_text.specs.LineReading.{lengths_of}
use Rattle.pair_core.specs.ClauseFiles.{AddsClauses, GivesPremises}
use Rattle.joint_checker.specs.ClauseRefusals.{IsClauseRefusal, IsColumnRefusal}
use Rattle.joint_checker.specs.Fails.{IsClauseFail}
use Rattle.joint_checker.specs.Shown.{premises_of}
use Rattle.clause_judge.proofs.Fails.{fails_of_left}
use Rattle.joint_checker.proofs.CertificateReading.{not_opened, opened_and_read}
use Rattle.joint_checker.proofs.clause_file.check_clauses.Goals as goal

pub returns-in-Ok-clause-gives : goal.returns-in-Ok-clause-gives
returns-in-Ok-clause-gives g c =
    let lengths = lengths_of c.args.limits.now in
    let graph = c.args.graph.now in
    let text = bytes_under (g.D.Desk.seen c.args.desk.now) c.args.name.now in
    let left = (g.D.Desk.seen c.open_file.new.self).left slot.Clauses in
    IfOk-weaker c.judge_clauses.result (λ s. IfSome left (λ bytes. GivesPremises lengths graph bytes (premises_of s)))
    (λ s. IfSome text (λ bytes. GivesPremises lengths graph bytes (premises_of s)))
    (λ s. IfSome-Keeps text left (λ bytes. GivesPremises lengths graph bytes (premises_of s)) c.in-Ok.ensures.opens.left) c.judge_clauses.ensures.gives

pub returns-in-Ok-clause-adds : goal.returns-in-Ok-clause-adds
returns-in-Ok-clause-adds g c given =
    let lengths = lengths_of c.args.limits.now in
    let graph = c.args.graph.now in
    let text = bytes_under (g.D.Desk.seen c.args.desk.now) c.args.name.now in
    let left = (g.D.Desk.seen c.open_file.new.self).left slot.Clauses in
    IfOk-weaker c.judge_clauses.result (λ s. IfSome left (λ bytes. AddsClauses lengths graph bytes s.header s.recorded.added s.lines))
    (λ s. IfSome text (λ bytes. AddsClauses lengths graph bytes s.header s.recorded.added s.lines))
    (λ s. IfSome-Keeps text left (λ bytes. AddsClauses lengths graph bytes s.header s.recorded.added s.lines) c.in-Ok.ensures.opens.left) (c.judge_clauses.ensures.adds given)

pub returns-in-Ok-clause-refused : goal.returns-in-Ok-clause-refused
returns-in-Ok-clause-refused g c =
    let lengths = lengths_of c.args.limits.now in
    let graph = c.args.graph.now in
    let first = g.D.Desk.seen c.args.desk.now in
    let before = g.D.Desk.seen c.open_file.new.self in
    let now = g.D.Desk.seen c.judge_clauses.new.desk in
    let text = bytes_under first c.args.name.now in
    let left = before.left slot.Clauses in
    IfErr-weaker c.judge_clauses.result (IsClauseFail lengths graph left before now) (IsClauseFail lengths graph text first now)
    (fails_of_left text left c.in-Ok.ensures.opens.left (IsClauseRefusal lengths graph) (IsColumnRefusal lengths graph) first before now c.in-Ok.ensures.cause.later) c.judge_clauses.ensures.refused

pub returns-in-Ok-clause-reads : goal.returns-in-Ok-clause-reads
returns-in-Ok-clause-reads g c =
    opened_and_read slot.Clauses c.args.name.now (g.D.Desk.seen c.args.desk.now) (g.D.Desk.seen c.open_file.new.self) c.open_file.result c.open_file.ensures.cause c.open_file.ensures.counted c.open_file.ensures.tells
    (g.D.Desk.seen c.judge_clauses.new.desk) (λ e. cc) c.in-Ok.ensures.opens c.judge_clauses.ensures.only c.judge_clauses.ensures.tells

pub returns-in-Err-clause-reads : goal.returns-in-Err-clause-reads
returns-in-Err-clause-reads g c =
    not_opened slot.Clauses c.args.name.now (g.D.Desk.seen c.args.desk.now) (g.D.Desk.seen c.open_file.new.self) c.open_file.result c.open_file.ensures.cause c.open_file.ensures.counted c.open_file.ensures.tells
    c.in-Err.ensures.failed
