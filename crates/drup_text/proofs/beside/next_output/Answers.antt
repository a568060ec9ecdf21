use Rattle.std.proofs.Common.{subst, sym}
use Rattle.std.proofs.lemmas.Result.{IfOk-weaker}
use Rattle.std.specs.Result.{IfErr, IfOk}
use Rattle.mv_text.specs.CertificateFiles.{FileState, SaysNothing}
use Rattle.drup_text.specs.ClauseTexts.{IsOutputLine}
use Rattle.drup_text.specs.HeaderSteps.{ReadsHeaderPart, line_part}
use Rattle.ripple_graft.specs.Beside.{IsOutput}
use Rattle.drup_text.specs.LineTexts.{IsOutputTextOf}
use Rattle.drup_text.proofs.ClauseReading.{none_output}
use Rattle.drup_text.proofs.HeaderSteps.{line_answered, line_missed}
use Rattle.drup_text.proofs.beside.next_output.Goals as goal

pub returns-in-Ok-clause-output : goal.returns-in-Ok-clause-output
returns-in-Ok-clause-output g c =
    let InRange = IsOutput c.args.extended.now in
    let before = g.D.Desk.seen c.args.desk.now in
    let now = g.D.Desk.seen c.needed_line.new.desk in
    let r = c.read_output.result in
    rw (c.settle.ensures.read)
    (subst (λ (f : FileState). ReadsHeaderPart (line_part IsOutputLine InRange) c.args.file.now f before now r) (sym c.settle.ensures.settled)
    (line_answered IsOutputLine InRange none_output c.in-Ok.line r (c.in-Ok.ensures.next c.requires.goes_on)
    (subst (λ z. IfOk c.read_output.result (IsOutputTextOf c.args.extended.now z)) c.deref.ensures.value c.read_output.ensures.ok)
    (subst (λ z. IfErr c.read_output.result (SaysNothing IsOutputLine (IsOutput c.args.extended.now) z)) c.deref.ensures.value c.read_output.ensures.err)))

pub returns-in-Ok-clause-in_range : goal.returns-in-Ok-clause-in_range
returns-in-Ok-clause-in_range g c = rw (c.settle.ensures.read) (IfOk-weaker c.read_output.result (IsOutputTextOf c.args.extended.now c.deref.result.now) (IsOutput c.args.extended.now) (λ x h. h.1) c.read_output.ensures.ok)

pub returns-in-Err-clause-output : goal.returns-in-Err-clause-output
returns-in-Err-clause-output g c = line_missed IsOutputLine (IsOutput c.args.extended.now) none_output c.in-Err.fail (c.in-Err.ensures.next c.requires.goes_on)
