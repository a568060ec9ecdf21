use Rattle.std.proofs.Common.{◌≡◌, None, rules, subst}
use Rattle.mv_text.specs.CertificateFiles.{SaysNothing}
use Rattle.mv_text.specs.Steps.{IsMisfit}
use Rattle.drup_text.specs.ClauseReading.{cut_line_at}
use Rattle.drup_text.specs.ClauseTexts.{IsCutLine}
use Rattle.drup_text.specs.LineTexts.{IsSizeInRange}
use Rattle.drup_text.specs.Steps.{TakesSize}
use Rattle.drup_text.proofs.ClauseReading.{reads_cut_line}
use Rattle.drup_text.proofs.WholeTexts.{all_err, misfit_refused, same_ok}
use Rattle.drup_text.proofs.header_reading.read_size.Goals as goal

pub returns-in_err-size-clause-err : goal.returns-in_err-size-clause-err
returns-in_err-size-clause-err c =
    let misfit = subst (λ z. IsMisfit (cut_line_at z ≡ None) c.in_err-size.field-0.0) c.new-scanner.ensures c.in_err-size.ensures.err in
    let refused : SaysNothing IsCutLine (IsSizeInRange c.args.outputs) c.args.bytes.now c.in_err-size.field-0.0 = misfit_refused reads_cut_line tt (IsSizeInRange c.args.outputs) c.args.bytes.now c.in_err-size.field-0.0 misfit in
    search (rules, refused)

pub returns-clause-ok : goal.returns-clause-ok
returns-clause-ok c =
    same_ok reads_cut_line tt (IsSizeInRange c.args.outputs) c.args.bytes.now c.size.new.scanner c.in_ok-size.size c.all.result c.all.ensures.all c.all.ensures.left
    (subst (λ z. TakesSize c.args.outputs z c.size.new.scanner c.in_ok-size.size) c.new-scanner.ensures c.in_ok-size.ensures.ok)

pub returns-clause-err : goal.returns-clause-err
returns-clause-err c =
    all_err reads_cut_line tt (IsSizeInRange c.args.outputs) (λ x y. x ≡ y) c.args.bytes.now c.size.new.scanner c.in_ok-size.size c.all.result c.all.ensures.all c.all.ensures.left
    (subst (λ z. TakesSize c.args.outputs z c.size.new.scanner c.in_ok-size.size) c.new-scanner.ensures c.in_ok-size.ensures.ok)
