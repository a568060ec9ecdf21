use Rattle.std.proofs.Common.{◌≡◌, None, rules, subst}
use Rattle.mv_text.specs.CertificateFiles.{SaysNothing}
use Rattle.mv_text.specs.Steps.{IsMisfit}
use Rattle.drup_text.specs.ClauseReading.{number_line_at}
use Rattle.drup_text.specs.ClauseTexts.{IsNumberLine}
use Rattle.drup_text.specs.LineTexts.{IsCountInRange}
use Rattle.drup_text.specs.Steps.{TakesNumberLine}
use Rattle.drup_text.proofs.ClauseReading.{reads_number_line}
use Rattle.drup_text.proofs.WholeTexts.{all_err, misfit_refused, same_ok}
use Rattle.drup_text.proofs.header_reading.read_number.Goals as goal

pub returns-in_err-number-clause-err : goal.returns-in_err-number-clause-err
returns-in_err-number-clause-err c =
    let word = c.args.word.now in
    let misfit = subst (λ z. IsMisfit (number_line_at word z ≡ None) c.in_err-number.field-0.0) c.new-scanner.ensures c.in_err-number.ensures.err in
    let refused : SaysNothing (IsNumberLine word) (IsCountInRange c.args.most) c.args.bytes.now c.in_err-number.field-0.0 = misfit_refused (reads_number_line word) tt (IsCountInRange c.args.most) c.args.bytes.now c.in_err-number.field-0.0 misfit in
    search (rules, refused)

pub returns-clause-ok : goal.returns-clause-ok
returns-clause-ok c =
    let word = c.args.word.now in
    same_ok (reads_number_line word) tt (IsCountInRange c.args.most) c.args.bytes.now c.number_line.new.scanner c.in_ok-number.number c.all.result c.all.ensures.all c.all.ensures.left
    (subst (λ z. TakesNumberLine word c.args.most z c.number_line.new.scanner c.in_ok-number.number) c.new-scanner.ensures c.in_ok-number.ensures.ok)

pub returns-clause-err : goal.returns-clause-err
returns-clause-err c =
    let word = c.args.word.now in
    all_err (reads_number_line word) tt (IsCountInRange c.args.most) (λ x y. x ≡ y) c.args.bytes.now c.number_line.new.scanner c.in_ok-number.number c.all.result c.all.ensures.all c.all.ensures.left
    (subst (λ z. TakesNumberLine word c.args.most z c.number_line.new.scanner c.in_ok-number.number) c.new-scanner.ensures c.in_ok-number.ensures.ok)
