use Rattle.std.proofs.Common.{◌≡◌, None, rules, subst}
use Rattle.mv_text.specs.CertificateFiles.{SaysNothing}
use Rattle.mv_text.specs.Steps.{IsMisfit}
use Rattle.drup_text.specs.ClauseReading.{block_line_at}
use Rattle.drup_text.specs.ClauseTexts.{IsBlockLine}
use Rattle.drup_text.specs.LineTexts.{IsHeadOf}
use Rattle.drup_text.specs.Steps.{TakesHead}
use Rattle.drup_text.proofs.ClauseReading.{reads_block_line}
use Rattle.drup_text.proofs.WholeTexts.{all_err, misfit_refused, same_ok}
use Rattle.drup_text.proofs.header_reading.read_head.Goals as goal

pub returns-in_err-head-clause-err : goal.returns-in_err-head-clause-err
returns-in_err-head-clause-err c =
    let misfit = subst (λ z. IsMisfit (block_line_at z ≡ None) c.in_err-head.field-0.0) c.new-scanner.ensures c.in_err-head.ensures.err in
    let refused : SaysNothing IsBlockLine (IsHeadOf c.args.extended.now) c.args.bytes.now c.in_err-head.field-0.0 = misfit_refused reads_block_line tt (IsHeadOf c.args.extended.now) c.args.bytes.now c.in_err-head.field-0.0 misfit in
    search (rules, refused)

pub returns-clause-ok : goal.returns-clause-ok
returns-clause-ok c =
    same_ok reads_block_line tt (IsHeadOf c.args.extended.now) c.args.bytes.now c.head.new.scanner c.in_ok-head.head c.all.result c.all.ensures.all c.all.ensures.left
    (subst (λ z. TakesHead c.args.extended.now z c.head.new.scanner c.in_ok-head.head) c.new-scanner.ensures c.in_ok-head.ensures.ok)

pub returns-clause-err : goal.returns-clause-err
returns-clause-err c =
    all_err reads_block_line tt (IsHeadOf c.args.extended.now) (λ x y. x ≡ y) c.args.bytes.now c.head.new.scanner c.in_ok-head.head c.all.result c.all.ensures.all c.all.ensures.left
    (subst (λ z. TakesHead c.args.extended.now z c.head.new.scanner c.in_ok-head.head) c.new-scanner.ensures c.in_ok-head.ensures.ok)
