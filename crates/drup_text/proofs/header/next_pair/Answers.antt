use Rattle.std.proofs.Common.{subst, sym}
use Rattle.std.proofs.lemmas.Result.{IfOk-weaker}
use Rattle.std.specs.Result.{IfErr, IfOk}
use Rattle.mv_text.specs.CertificateFiles.{FileState, SaysNothing}
use Rattle.drup_text.specs.ClauseTexts.{IsPairLine}
use Rattle.drup_text.specs.HeaderSteps.{ReadsHeaderPart, line_part}
use Rattle.drup_text.specs.LineTexts.{IsPairOf, IsPairTextOf}
use Rattle.drup_text.proofs.ClauseReading.{none_pair}
use Rattle.drup_text.proofs.HeaderSteps.{line_answered, line_missed}
use Rattle.drup_text.proofs.header.next_pair.Goals as goal

pub returns-in-Ok-clause-pair : goal.returns-in-Ok-clause-pair
returns-in-Ok-clause-pair g c =
    let InRange = IsPairOf c.args.extended.now in
    let before = g.D.Desk.seen c.args.desk.now in
    let now = g.D.Desk.seen c.needed_line.new.desk in
    let r = c.read_pair.result in
    rw (c.settle.ensures.read)
    (subst (λ (f : FileState). ReadsHeaderPart (line_part IsPairLine InRange) c.args.file.now f before now r) (sym c.settle.ensures.settled)
    (line_answered IsPairLine InRange none_pair c.in-Ok.line r (c.in-Ok.ensures.next c.requires.goes_on)
    (subst (λ z. IfOk c.read_pair.result (IsPairTextOf c.args.extended.now z)) c.deref.ensures.value c.read_pair.ensures.ok)
    (subst (λ z. IfErr c.read_pair.result (SaysNothing IsPairLine (IsPairOf c.args.extended.now) z)) c.deref.ensures.value c.read_pair.ensures.err)))

pub returns-in-Ok-clause-known : goal.returns-in-Ok-clause-known
returns-in-Ok-clause-known g c = rw (c.settle.ensures.read) (IfOk-weaker c.read_pair.result (IsPairTextOf c.args.extended.now c.deref.result.now) (IsPairOf c.args.extended.now) (λ x h. h.1) c.read_pair.ensures.ok)

pub returns-in-Err-clause-pair : goal.returns-in-Err-clause-pair
returns-in-Err-clause-pair g c = line_missed IsPairLine (IsPairOf c.args.extended.now) none_pair c.in-Err.fail (c.in-Err.ensures.next c.requires.goes_on)
