use Rattle.std.proofs.Common.{◌≡◌, ◌∙◌, None, rules, codes, sym}
use Rattle.graph_core.specs.Text.Numerals.{number_at}
use Rattle.graph_core.specs.Text.Readers.{behind_at}
use Rattle.algebra_core.specs.Reading.{is_star, factors_at}
use Rattle.mv_text.specs.Steps.{IsMisfit}
use Rattle.mv_text.proofs.CallerLemmas.{gathers_all, gathers_misfit, many_stops, misfit_from}
use Rattle.poly_text.proofs.TermSteps.{factors_begin, factors_more, factors_turn, factor_fewer}
use Rattle.poly_text.proofs.pac_reader.PacReader.factors.Goals as goal

pub loop-scanner-init : goal.loop-scanner-init
loop-scanner-init c = factors_begin c.args.self.now.max c.args.before c.args.scanner.now

pub returns-in_err-variable-clause-err : goal.returns-in_err-variable-clause-err
returns-in_err-variable-clause-err c =
    let misfit : IsMisfit (factors_at c.args.scanner.now ≡ None) c.in_err-variable.field-0.0 =
    misfit_from c.in_err-variable.field-0.0
    (gathers_misfit (behind_at (codes "*x") (number_at 10)) c.loop-scanner.invariant (factors_turn c.loop-scanner.scanner (sym c.is_at.ensures ∙ c.loop-scanner-test.true))) c.in_err-variable.ensures.err in
    search (rules, misfit)

pub loop-scanner-smaller : goal.loop-scanner-smaller
loop-scanner-smaller c = factor_fewer c.loop-scanner.scanner _ c.factor.new.scanner c.in_ok-variable.ensures.ok.taken

pub loop-scanner-preserved : goal.loop-scanner-preserved
loop-scanner-preserved c =
    factors_more c.args.self.now.max c.args.before c.args.scanner.now c.loop-scanner.scanner c.factor.new.scanner c.loop-scanner.variables c.in_ok-variable.variable c.times.new.variables
    (sym c.is_at.ensures ∙ c.loop-scanner-test.true) c.loop-scanner.invariant c.in_ok-variable.ensures.ok c.in_ok-times.ensures.ok

pub returns-clause-ok : goal.returns-clause-ok
returns-clause-ok c = gathers_all c.loop-scanner.invariant (many_stops is_star (behind_at (codes "*x") (number_at 10)) c.loop-scanner.scanner (sym c.is_at.ensures ∙ c.loop-scanner-test.false))
