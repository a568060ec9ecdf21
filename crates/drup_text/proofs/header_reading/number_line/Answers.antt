use Rattle.std.proofs.Common.{◌≡◌, None, rules}
use Rattle.mv_text.proofs.CallerLemmas.{misfit_from}
use Rattle.mv_text.specs.Steps.{IsMisfit}
use Rattle.drup_text.specs.ClauseReading.{number_line_at}
use Rattle.drup_text.proofs.HeaderTexts.{number_err, number_front_fails, number_ok}
use Rattle.drup_text.proofs.header_reading.number_line.Goals as goal

pub returns-in_err-text-clause-err : goal.returns-in_err-text-clause-err
returns-in_err-text-clause-err c =
    let misfit : IsMisfit (number_line_at c.args.word.now c.args.scanner.now ≡ None) c.in_err-text.field-0.0 =
    misfit_from c.in_err-text.field-0.0 (number_front_fails c.args.word.now c.args.scanner.now) c.in_err-text.ensures.err in
    search (rules, misfit)

pub returns-clause-ok : goal.returns-clause-ok
returns-clause-ok c = number_ok c.args.word.now c.args.most c.args.scanner.now c.text.new.self c.number.new.scanner c.number.result c.in_ok-text.ensures.ok c.number.ensures.ok

pub returns-clause-err : goal.returns-clause-err
returns-clause-err c = number_err c.args.word.now c.args.scanner.now c.text.new.self c.number.result c.in_ok-text.ensures.ok c.number.ensures.err
