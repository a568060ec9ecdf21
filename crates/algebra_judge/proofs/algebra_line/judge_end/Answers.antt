use Rattle.mv_desk.specs.declared.slot.Slot.TheVariants as slot
use Rattle.mv_text.specs.CertificateFiles.{left_of_file}
use Rattle.algebra_judge.proofs.LineTurns.{end_fails}
use Rattle.algebra_judge.proofs.algebra_line.judge_end.Goals as goal

pub returns-in-Err-clause-refused : goal.returns-in-Err-clause-refused
returns-in-Err-clause-refused g c =
    let file = c.args.file.now in
    let before = g.D.Desk.seen c.args.desk.now in
    rw c.line_refused.ensures
    (end_fails c.args.line file.lines (left_of_file slot.Algebra file before) before (g.D.Desk.seen c.finish.new.desk) c.in-Err.fail (c.in-Err.ensures.end c.requires.going).refused)
