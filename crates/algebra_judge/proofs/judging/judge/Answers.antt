use Rattle.std.proofs.Common.{List, ap, ◌∙◌, subst, sym}
use Rattle.std.specs.List.{All}
use Rattle.std.specs.Option.{IfSome}
use Rattle.std.proofs.lemmas.Result.{err_from_is_err_and}
use Rattle.algebra_core.specs.AlgebraLines.{AreLawful, Line}
use Rattle.graph_core.specs.Graph.Extended.{Extended, modulus}
use Rattle.mv_desk.specs.declared.slot.Slot.TheVariants as slot
use Rattle.mv_text.specs.CertificateFiles.{left_of_file}
use Rattle.pac_checker.specs.Checking.{IsRecordable, checker_premises}
use Rattle.algebra_judge.specs.AlgebraLines.{task_of}
use Rattle.algebra_judge.specs.Records.{IsRecordedBody}
use Rattle.algebra_judge.proofs.AlgebraTurns.{begins}
use Rattle.algebra_judge.proofs.judging.judge.Goals as goal

pub judge_lines-requires-clause-begins : goal.judge_lines-requires-clause-begins
judge_lines-requires-clause-begins g c = (begins c.args.checker c.args.file (g.D.Desk.seen c.args.desk.now) c.requires.begins, c.requires.greatest)

pub returns-clause-lawful : goal.returns-clause-lawful
returns-clause-lawful g c = c.in_ok-closing.ensures.judged.lawful

pub returns-clause-vanishes : goal.returns-clause-vanishes
returns-clause-vanishes g c = c.in_ok-closing.ensures.judged.vanishes

pub returns-in_err-closing-clause-refused : goal.returns-in_err-closing-clause-refused
returns-in_err-closing-clause-refused g c =
    let same = err_from_is_err_and c.from_residual.result c.from_residual.ensures.1 in
    rw (same.1, same.2) c.in_err-closing.ensures.judged

pub returns-clause-recorded : goal.returns-clause-recorded
returns-clause-recorded g c = λ yes.
    let checker = c.args.checker in
    let record_of = c.into_record.result in
    let closed = c.in_ok-closing.ensures.judged in
    record {
      lawful = subst (λ (ls : List Line). AreLawful (checker_premises c.args.file.version checker) checker.sides ls c.in_ok-closing.closing.id) (sym c.into_record.ensures.lines) (closed.closes.lawful yes);
      closing = closed.closes.is_id;
      modulus_is = c.into_record.ensures.modulus ∙ ap modulus closed.extended;
      of_table = c.into_record.ensures.of_table;
      recordable = subst (λ (x : Extended). All (IsRecordable x.max record_of.terms) record_of.lines.items) closed.extended c.into_record.ensures.recordable;
      new_ids = c.into_record.ensures.new_ids;
      rising = c.into_record.ensures.rising;
      earlier = c.into_record.ensures.earlier;
    }

pub returns-clause-told : goal.returns-clause-told
returns-clause-told g c =
    let file = c.args.file in
    let closing = c.in_ok-closing.closing in
    subst (λ (ls : List Line). IfSome (left_of_file slot.Algebra file (g.D.Desk.seen c.args.desk.now)) (IsRecordedBody (task_of file.version c.args.checker) ls closing.id closing.lines)) (sym c.into_record.ensures.lines)
    c.in_ok-closing.ensures.judged.recorded
