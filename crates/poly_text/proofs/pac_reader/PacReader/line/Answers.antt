use Rattle.std.proofs.Common.{◌≡◌, None, rules}
use Rattle.algebra_core.specs.Reading.{algebra_line_at}
use Rattle.mv_text.specs.Steps.{IsMisfit}
use Rattle.mv_text.proofs.CallerLemmas.{misfit_from}
use Rattle.poly_text.proofs.LineSteps.{line_taken, no_id, no_line_behind}
use Rattle.poly_text.proofs.pac_reader.PacReader.line.Goals as goal

pub returns-in_err-id-clause-err : goal.returns-in_err-id-clause-err
returns-in_err-id-clause-err c =
    let misfit : IsMisfit (algebra_line_at c.args.self.now.version c.args.scanner.now ≡ None) c.in_err-id.field-0.0 = misfit_from c.in_err-id.field-0.0 (no_id c.args.self.now.version c.args.scanner.now) c.in_err-id.ensures.err in
    search (rules, misfit)

pub returns-in_err-line-clause-err : goal.returns-in_err-line-clause-err
returns-in_err-line-clause-err c =
    let misfit : IsMisfit (algebra_line_at c.args.self.now.version c.args.scanner.now ≡ None) c.in_err-line.field-0.0 =
    misfit_from c.in_err-line.field-0.0 (no_line_behind c.args.self.now.version c.args.scanner.now c.ended_id.new.scanner c.in_ok-id.ensures.ok.read c.in_ok-id.ensures.ok.taken) (c.in_err-line.ensures.err c.in_ok-id.ensures.ok.read) in
    search (rules, misfit)

pub returns-clause-ok : goal.returns-clause-ok
returns-clause-ok c =
    line_taken c.behind_id.new.terms c.args.self.now.version c.args.self.now.max c.args.scanner.now c.ended_id.new.scanner c.behind_id.new.scanner c.in_ok-id.id c.in_ok-line.line c.in_ok-id.ensures.ok
    (c.in_ok-line.ensures.ok c.in_ok-id.ensures.ok.read c.in_ok-id.ensures.ok.gives)
