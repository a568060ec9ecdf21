use Rattle.std.proofs.Common.{◌≡◌, ◌∙◌, None, rules, sym, ◌^◌}
use Rattle.graph_core.specs.Text.Readers.{many_at}
use Rattle.algebra_core.specs.Reading.{is_sign, signed_term_at}
use Rattle.mv_text.specs.Steps.{IsMisfit}
use Rattle.poly_text.proofs.Lengths.{signed_term_fewer}
use Rattle.mv_text.proofs.CallerLemmas.{gathers_all, gathers_misfit, many_stops, misfit_from}
use Rattle.poly_text.proofs.PolynomialSteps.{terms_begin, terms_more, terms_turn}
use Rattle.poly_text.proofs.pac_reader.PacReader.later_terms.Goals as goal

pub loop-scanner-init : goal.loop-scanner-init
loop-scanner-init c = terms_begin (2 ^ c.args.self.now.exponent) c.args.self.now.max c.args.before c.args.scanner.now

pub returns-in_err-term-clause-err : goal.returns-in_err-term-clause-err
returns-in_err-term-clause-err c =
    let misfit : IsMisfit (many_at is_sign signed_term_at c.args.scanner.now ≡ None) c.in_err-term.field-0.0 =
    misfit_from c.in_err-term.field-0.0 (gathers_misfit signed_term_at c.loop-scanner.invariant (terms_turn c.loop-scanner.scanner (sym c.is_at_sign.ensures ∙ c.loop-scanner-test.true))) c.in_err-term.ensures.err in
    search (rules, misfit)

pub loop-scanner-smaller : goal.loop-scanner-smaller
loop-scanner-smaller c = signed_term_fewer c.loop-scanner.scanner _ c.later_term.new.scanner c.in_ok-term.ensures.ok.taken

pub loop-scanner-preserved : goal.loop-scanner-preserved
loop-scanner-preserved c =
    terms_more (2 ^ c.args.self.now.exponent) c.args.self.now.max c.args.before c.args.scanner.now c.loop-scanner.scanner c.later_term.new.scanner c.loop-scanner.terms c.in_ok-term.term c.push.new.list
    (sym c.is_at_sign.ensures ∙ c.loop-scanner-test.true) c.loop-scanner.invariant c.in_ok-term.ensures.ok c.in_ok-push.ensures.ok

pub returns-clause-ok : goal.returns-clause-ok
returns-clause-ok c = gathers_all c.loop-scanner.invariant (many_stops is_sign signed_term_at c.loop-scanner.scanner (sym c.is_at_sign.ensures ∙ c.loop-scanner-test.false))
