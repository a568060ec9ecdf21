use Rattle.std.proofs.Common.{subst, sym}
use Rattle.std.proofs.lemmas.Result.{IfOk-weaker}
use Rattle.std.specs.Result.{IfErr, IfOk}
use Rattle.mv_text.specs.CertificateFiles.{FileState, SaysNothing}
use Rattle.drup_text.specs.ClauseTexts.{IsNumberLine}
use Rattle.drup_text.specs.HeaderSteps.{ReadsHeaderPart, line_part}
use Rattle.drup_text.specs.LineTexts.{IsCountInRange, IsNumberTextOf}
use Rattle.drup_text.proofs.ClauseReading.{none_number}
use Rattle.drup_text.proofs.HeaderSteps.{line_answered, line_missed}
use Rattle.drup_text.proofs.header.next_number.Goals as goal

pub returns-in-Ok-clause-number : goal.returns-in-Ok-clause-number
returns-in-Ok-clause-number g c =
    let word = c.args.word.now in
    let InRange = IsCountInRange c.args.most in
    let before = g.D.Desk.seen c.args.desk.now in
    let now = g.D.Desk.seen c.needed_line.new.desk in
    let r = c.read_number.result in
    rw (c.settle.ensures.read)
    (subst (λ (f : FileState). ReadsHeaderPart (line_part (IsNumberLine word) InRange) c.args.file.now f before now r) (sym c.settle.ensures.settled)
    (line_answered (IsNumberLine word) InRange (none_number word c.requires.plain) c.in-Ok.line r (c.in-Ok.ensures.next c.requires.goes_on)
    (subst (λ z. IfOk c.read_number.result (IsNumberTextOf word c.args.most z)) c.deref.ensures.value c.read_number.ensures.ok)
    (subst (λ z. IfErr c.read_number.result (SaysNothing (IsNumberLine word) (IsCountInRange c.args.most) z)) c.deref.ensures.value c.read_number.ensures.err)))

pub returns-in-Ok-clause-in_range : goal.returns-in-Ok-clause-in_range
returns-in-Ok-clause-in_range g c =
    rw (c.settle.ensures.read) (IfOk-weaker c.read_number.result (IsNumberTextOf c.args.word.now c.args.most c.deref.result.now) (IsCountInRange c.args.most) (λ x h. h.1) c.read_number.ensures.ok)

pub returns-in-Err-clause-number : goal.returns-in-Err-clause-number
returns-in-Err-clause-number g c =
    let word = c.args.word.now in
    line_missed (IsNumberLine word) (IsCountInRange c.args.most) (none_number word c.requires.plain) c.in-Err.fail (c.in-Err.ensures.next c.requires.goes_on)
