use Rattle.std.proofs.Common.{◌≡◌, ◌∙◌, None, rules, codes, sym}
use Rattle.graph_core.specs.Text.Readers.{ended_at}
use Rattle.mv_text.proofs.CallerLemmas.{gathers_all, gathers_misfit, many_stops, misfit_from}
use Rattle.mv_text.specs.Steps.{IsMisfit}
use Rattle.drup_text.specs.ClauseReading.{clause_literals_at, is_no_zero, literal_at}
use Rattle.drup_text.proofs.ClauseReading.{spaced_fewer}
use Rattle.drup_text.proofs.LineSteps.{literals_begin, literals_more, literals_turn}
use Rattle.drup_text.proofs.clause_reading.literals.Goals as goal

pub loop-scanner-init : goal.loop-scanner-init
loop-scanner-init c = literals_begin c.args.max c.args.scanner.now c.new.result c.new.ensures.items

pub returns-in_err-literal-clause-err : goal.returns-in_err-literal-clause-err
returns-in_err-literal-clause-err c =
    let misfit : IsMisfit (clause_literals_at c.args.scanner.now ≡ None) c.in_err-literal.field-0.0 =
    misfit_from c.in_err-literal.field-0.0
    (gathers_misfit (ended_at literal_at (codes " ")) c.loop-scanner.invariant (literals_turn c.loop-scanner.scanner (sym c.is_at_literal.ensures ∙ c.loop-scanner-test.true))) c.in_err-literal.ensures.err in
    search (rules, misfit)

pub loop-scanner-smaller : goal.loop-scanner-smaller
loop-scanner-smaller c = spaced_fewer c.loop-scanner.scanner _ c.spaced_literal.new.scanner c.in_ok-literal.ensures.ok.taken

pub loop-scanner-preserved : goal.loop-scanner-preserved
loop-scanner-preserved c =
    literals_more c.args.max c.args.scanner.now c.loop-scanner.scanner c.spaced_literal.new.scanner c.loop-scanner.literals c.in_ok-literal.literal c.push.new.list
    (sym c.is_at_literal.ensures ∙ c.loop-scanner-test.true) c.loop-scanner.invariant c.in_ok-literal.ensures.ok c.in_ok-push.ensures.ok

pub returns-clause-ok : goal.returns-clause-ok
returns-clause-ok c = gathers_all c.loop-scanner.invariant (many_stops is_no_zero (ended_at literal_at (codes " ")) c.loop-scanner.scanner (sym c.is_at_literal.ensures ∙ c.loop-scanner-test.false))
