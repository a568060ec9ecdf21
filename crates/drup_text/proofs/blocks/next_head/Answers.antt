use Rattle.std.proofs.Common.{subst, sym}
use Rattle.std.proofs.lemmas.Result.{IfOk-weaker}
use Rattle.std.specs.Result.{IfErr, IfOk}
use Rattle.mv_text.specs.CertificateFiles.{FileState, SaysNothing}
use Rattle.drup_text.specs.ClauseTexts.{IsBlockLine}
use Rattle.drup_text.specs.HeaderSteps.{ReadsHeaderPart, line_part}
use Rattle.drup_text.specs.LineTexts.{IsHeadOf, IsBlockTextOf}
use Rattle.drup_text.proofs.ClauseReading.{none_block}
use Rattle.drup_text.proofs.HeaderSteps.{line_answered, line_missed}
use Rattle.drup_text.proofs.blocks.next_head.Goals as goal

pub returns-in-Ok-clause-head : goal.returns-in-Ok-clause-head
returns-in-Ok-clause-head g c =
    let InRange = IsHeadOf c.args.extended.now in
    let before = g.D.Desk.seen c.args.desk.now in
    let now = g.D.Desk.seen c.needed_line.new.desk in
    let r = c.read_head.result in
    rw (c.settle.ensures.read)
    (subst (λ (f : FileState). ReadsHeaderPart (line_part IsBlockLine InRange) c.args.file.now f before now r) (sym c.settle.ensures.settled)
    (line_answered IsBlockLine InRange none_block c.in-Ok.line r (c.in-Ok.ensures.next c.requires.goes_on)
    (subst (λ z. IfOk c.read_head.result (IsBlockTextOf c.args.extended.now z)) c.deref.ensures.value c.read_head.ensures.ok)
    (subst (λ z. IfErr c.read_head.result (SaysNothing IsBlockLine (IsHeadOf c.args.extended.now) z)) c.deref.ensures.value c.read_head.ensures.err)))

pub returns-in-Ok-clause-in_range : goal.returns-in-Ok-clause-in_range
returns-in-Ok-clause-in_range g c = rw (c.settle.ensures.read) (IfOk-weaker c.read_head.result (IsBlockTextOf c.args.extended.now c.deref.result.now) (IsHeadOf c.args.extended.now) (λ x h. h.1) c.read_head.ensures.ok)

pub returns-in-Err-clause-head : goal.returns-in-Err-clause-head
returns-in-Err-clause-head g c = line_missed IsBlockLine (IsHeadOf c.args.extended.now) none_block c.in-Err.fail (c.in-Err.ensures.next c.requires.goes_on)
