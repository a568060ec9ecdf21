use Rattle.std.proofs.Common.{length, subst, sym}
use Rattle.std.proofs.lemmas.Result.{IfOk-weaker}
use Rattle.std.specs.Result.{IfErr, IfOk}
use Rattle.mv_text.specs.CertificateFiles.{FileState, SaysNothing}
use Rattle.drup_text.specs.ClauseTexts.{IsCutLine}
use Rattle.drup_text.specs.HeaderSteps.{ReadsHeaderPart, line_part}
use Rattle.drup_text.specs.LineTexts.{IsSizeInRange, IsCutTextOf}
use Rattle.drup_text.proofs.ClauseReading.{none_cut}
use Rattle.drup_text.proofs.HeaderSteps.{line_answered, line_missed}
use Rattle.drup_text.proofs.header.next_size.Goals as goal

pub returns-in-Ok-clause-size : goal.returns-in-Ok-clause-size
returns-in-Ok-clause-size g c =
    let InRange = IsSizeInRange (length c.args.graph.now.outputs) in
    let before = g.D.Desk.seen c.args.desk.now in
    let now = g.D.Desk.seen c.needed_line.new.desk in
    let r = c.read_size.result in
    rw (c.settle.ensures.read)
    (subst (λ (f : FileState). ReadsHeaderPart (line_part IsCutLine InRange) c.args.file.now f before now r) (sym c.settle.ensures.settled)
    (line_answered IsCutLine InRange none_cut c.in-Ok.line r (c.in-Ok.ensures.next c.requires.goes_on)
    (subst (λ z. IfOk c.read_size.result (IsCutTextOf (length c.args.graph.now.outputs) z)) c.deref.ensures.value
    (subst (λ n. IfOk c.read_size.result (IsCutTextOf n c.deref.result.now)) c.outputs.ensures.value c.read_size.ensures.ok))
    (subst (λ z. IfErr c.read_size.result (SaysNothing IsCutLine (IsSizeInRange (length c.args.graph.now.outputs)) z)) c.deref.ensures.value
    (subst (λ n. IfErr c.read_size.result (SaysNothing IsCutLine (IsSizeInRange n) c.deref.result.now)) c.outputs.ensures.value c.read_size.ensures.err))))

pub returns-in-Ok-clause-in_range : goal.returns-in-Ok-clause-in_range
returns-in-Ok-clause-in_range g c = rw (c.settle.ensures.read) (IfOk-weaker c.read_size.result (IsCutTextOf (length c.args.graph.now.outputs) c.deref.result.now) (IsSizeInRange (length c.args.graph.now.outputs)) (λ x h. h.1) (subst (λ n. IfOk c.read_size.result (IsCutTextOf n c.deref.result.now)) c.outputs.ensures.value c.read_size.ensures.ok))

pub returns-in-Err-clause-size : goal.returns-in-Err-clause-size
returns-in-Err-clause-size g c = line_missed IsCutLine (IsSizeInRange (length c.args.graph.now.outputs)) none_cut c.in-Err.fail (c.in-Err.ensures.next c.requires.goes_on)
