use Rattle.std.proofs.Common.{◌≡◌, None, rules, subst}
use Rattle.mv_text.specs.CertificateFiles.{SaysNothing}
use Rattle.mv_text.specs.Steps.{IsMisfit}
use Rattle.drup_text.specs.ClauseReading.{output_line_at}
use Rattle.drup_text.specs.ClauseTexts.{IsOutputLine}
use Rattle.ripple_graft.specs.Beside.{IsOutput}
use Rattle.drup_text.specs.Steps.{TakesOutput}
use Rattle.drup_text.proofs.ClauseReading.{reads_output_line}
use Rattle.drup_text.proofs.WholeTexts.{all_err, misfit_refused, same_ok}
use Rattle.drup_text.proofs.header_reading.read_output.Goals as goal

pub returns-in_err-output-clause-err : goal.returns-in_err-output-clause-err
returns-in_err-output-clause-err c =
    let misfit = subst (λ z. IsMisfit (output_line_at z ≡ None) c.in_err-output.field-0.0) c.new-scanner.ensures c.in_err-output.ensures.err in
    let refused : SaysNothing IsOutputLine (IsOutput c.args.extended.now) c.args.bytes.now c.in_err-output.field-0.0 = misfit_refused reads_output_line tt (IsOutput c.args.extended.now) c.args.bytes.now c.in_err-output.field-0.0 misfit in
    search (rules, refused)

pub returns-clause-ok : goal.returns-clause-ok
returns-clause-ok c =
    same_ok reads_output_line tt (IsOutput c.args.extended.now) c.args.bytes.now c.output.new.scanner c.in_ok-output.output c.all.result c.all.ensures.all c.all.ensures.left
    (subst (λ z. TakesOutput c.args.extended.now z c.output.new.scanner c.in_ok-output.output) c.new-scanner.ensures c.in_ok-output.ensures.ok)

pub returns-clause-err : goal.returns-clause-err
returns-clause-err c =
    all_err reads_output_line tt (IsOutput c.args.extended.now) (λ x y. x ≡ y) c.args.bytes.now c.output.new.scanner c.in_ok-output.output c.all.result c.all.ensures.all c.all.ensures.left
    (subst (λ z. TakesOutput c.args.extended.now z c.output.new.scanner c.in_ok-output.output) c.new-scanner.ensures c.in_ok-output.ensures.ok)
