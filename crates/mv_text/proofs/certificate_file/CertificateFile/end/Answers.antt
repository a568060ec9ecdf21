use Rattle.std.proofs.Common.{Err, Ok, Some, subst, sym}
use Rattle.mv_text.specs.declared.line_fail.LineFail.TheVariants as fail
use Rattle.mv_text.specs.CertificateFiles.{FileState, GivesEnd, GivesLine, settled}
use Rattle.mv_text.proofs.CertificateAnswers.{fault_no_end, line_no_end}
use Rattle.mv_text.proofs.certificate_file.CertificateFile.end.Goals as goal

pub returns-in-Ok-Some-clause-end : goal.returns-in-Ok-Some-clause-end
returns-in-Ok-Some-clause-end g c going =
    let old = c.args.self.now in
    let mid = c.next_line.new.self in
    let before = g.D.Desk.seen c.args.desk.now in
    let now = g.D.Desk.seen c.next_line.new.desk in
    let line = subst (λ o. GivesLine c.args.slot old mid before now (Ok o)) c.in-Ok-Some.field-0-is (c.in-Ok-Some.ensures.next going) in
    subst (λ (f : FileState). GivesEnd c.args.slot old (settled f (Some fail.Text)) before now (Err fail.Text)) (sym c.self.view_is) (line_no_end c.in-Ok-Some.field-0-0 line)

pub returns-clause-end : goal.returns-clause-end
returns-clause-end g c going = fault_no_end c.in-Err.fail (c.in-Err.ensures.next going)
