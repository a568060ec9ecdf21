use Rattle.std.proofs.Common.{◌≡◌, None, rules, subst}
use Rattle.mv_text.specs.CertificateFiles.{SaysNothing}
use Rattle.mv_text.specs.Steps.{IsMisfit}
use Rattle.drup_text.specs.ClauseReading.{clause_line_at}
use Rattle.drup_text.specs.ClauseTexts.{IsClauseLine}
use Rattle.drup_text.specs.LineTexts.{IsClauseLineInRange, IsSameClauseLine}
use Rattle.drup_text.specs.Steps.{ReadsClauseLine}
use Rattle.drup_text.proofs.ClauseReading.{reads_clause_line}
use Rattle.drup_text.proofs.WholeTexts.{all_err, all_ok, misfit_refused}
use Rattle.drup_text.proofs.line_reading.read_line.Goals as goal

pub returns-in_err-line-clause-err : goal.returns-in_err-line-clause-err
returns-in_err-line-clause-err c =
    let misfit = subst (λ z. IsMisfit (clause_line_at z ≡ None) c.in_err-line.field-0.0) c.new-scanner.ensures c.in_err-line.ensures.err in
    let refused : SaysNothing IsClauseLine (IsClauseLineInRange c.args.max) c.args.bytes.now c.in_err-line.field-0.0 = misfit_refused reads_clause_line tt (IsClauseLineInRange c.args.max) c.args.bytes.now c.in_err-line.field-0.0 misfit in
    search (rules, refused)

pub returns-clause-ok : goal.returns-clause-ok
returns-clause-ok c =
    all_ok reads_clause_line tt (IsClauseLineInRange c.args.max) IsSameClauseLine c.args.bytes.now c.any_line.new.scanner c.in_ok-line.line c.all.result c.all.ensures.all c.all.ensures.left
    (subst (λ z. ReadsClauseLine clause_line_at c.args.max z c.any_line.new.scanner c.in_ok-line.line) c.new-scanner.ensures c.in_ok-line.ensures.ok)

pub returns-clause-err : goal.returns-clause-err
returns-clause-err c =
    all_err reads_clause_line tt (IsClauseLineInRange c.args.max) IsSameClauseLine c.args.bytes.now c.any_line.new.scanner c.in_ok-line.line c.all.result c.all.ensures.all c.all.ensures.left
    (subst (λ z. ReadsClauseLine clause_line_at c.args.max z c.any_line.new.scanner c.in_ok-line.line) c.new-scanner.ensures c.in_ok-line.ensures.ok)
