use Rattle.std.proofs.Common.{◌≡◌, None, rules, subst}
use Rattle.mv_text.specs.CertificateFiles.{SaysNothing}
use Rattle.mv_text.specs.Steps.{IsMisfit}
use Rattle.drup_text.specs.ClauseReading.{pair_line_at}
use Rattle.drup_text.specs.ClauseTexts.{IsPairLine}
use Rattle.drup_text.specs.LineTexts.{IsPairOf}
use Rattle.drup_text.specs.Steps.{TakesPair}
use Rattle.drup_text.proofs.ClauseReading.{reads_pair_line}
use Rattle.drup_text.proofs.WholeTexts.{all_err, misfit_refused, same_ok}
use Rattle.drup_text.proofs.header_reading.read_pair.Goals as goal

pub returns-in_err-pair-clause-err : goal.returns-in_err-pair-clause-err
returns-in_err-pair-clause-err c =
    let misfit = subst (λ z. IsMisfit (pair_line_at z ≡ None) c.in_err-pair.field-0.0) c.new-scanner.ensures c.in_err-pair.ensures.err in
    let refused : SaysNothing IsPairLine (IsPairOf c.args.extended.now) c.args.bytes.now c.in_err-pair.field-0.0 = misfit_refused reads_pair_line tt (IsPairOf c.args.extended.now) c.args.bytes.now c.in_err-pair.field-0.0 misfit in
    search (rules, refused)

pub returns-clause-ok : goal.returns-clause-ok
returns-clause-ok c =
    same_ok reads_pair_line tt (IsPairOf c.args.extended.now) c.args.bytes.now c.pair.new.scanner c.in_ok-pair.pair c.all.result c.all.ensures.all c.all.ensures.left
    (subst (λ z. TakesPair c.args.extended.now z c.pair.new.scanner c.in_ok-pair.pair) c.new-scanner.ensures c.in_ok-pair.ensures.ok)

pub returns-clause-err : goal.returns-clause-err
returns-clause-err c =
    all_err reads_pair_line tt (IsPairOf c.args.extended.now) (λ x y. x ≡ y) c.args.bytes.now c.pair.new.scanner c.in_ok-pair.pair c.all.result c.all.ensures.all c.all.ensures.left
    (subst (λ z. TakesPair c.args.extended.now z c.pair.new.scanner c.in_ok-pair.pair) c.new-scanner.ensures c.in_ok-pair.ensures.ok)
