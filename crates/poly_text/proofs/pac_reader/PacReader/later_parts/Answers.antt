use Rattle.std.proofs.Common.{◌∙◌, codes, sym}
use Rattle.graph_core.specs.Text.Readers.{behind_at}
use Rattle.algebra_core.specs.Reading.{is_space, part_at}
use Rattle.poly_terms.specs.Laws.{extends_itself, extends_on, modulus_stays}
use Rattle.mv_text.proofs.CallerLemmas.{gathers_all, gathers_misfit, many_stops}
use Rattle.poly_text.proofs.Misfits.{misfit_passed, no_value}
use Rattle.poly_text.proofs.PartSteps.{parts_begin, parts_more, parts_turn, part_fewer}
use Rattle.poly_text.proofs.pac_reader.PacReader.later_parts.Goals as goal

pub loop-scanner-init : goal.loop-scanner-init
loop-scanner-init c = record {
  extends = extends_itself c.args.terms.now;
  modulus_is = c.requires;
  so_far = parts_begin c.args.terms.now c.args.self.now.max c.args.before c.args.scanner.now;
}

pub later_part-requires : goal.later_part-requires
later_part-requires c = c.loop-scanner.invariant.modulus_is

pub returns-in_err-part-clause-ok : goal.returns-in_err-part-clause-ok
returns-in_err-part-clause-ok c = no_value c.from_residual.result _ c.in_err-part.field-0.0 c.from_residual.ensures.1

pub returns-in_err-part-clause-err : goal.returns-in_err-part-clause-err
returns-in_err-part-clause-err c =
    misfit_passed c.from_residual.result c.in_err-part.field-0.0 c.from_residual.ensures.1
    (gathers_misfit (behind_at (codes " + ") part_at) c.loop-scanner.invariant.so_far
    (parts_turn c.loop-scanner.scanner (sym c.is_at.ensures ∙ c.loop-scanner-test.true))) c.in_err-part.ensures.err

pub returns-in_err-part-clause-extends : goal.returns-in_err-part-clause-extends
returns-in_err-part-clause-extends c =
    extends_on c.args.terms.now c.loop-scanner.terms c.later_part.new.terms c.loop-scanner.invariant.extends c.in_err-part.ensures.extends

pub returns-in_err-push-clause-ok : goal.returns-in_err-push-clause-ok
returns-in_err-push-clause-ok c = no_value c.from_residual-in_err-push.result _ c.in_err-push.field-0.0 c.from_residual-in_err-push.ensures.1

pub returns-in_err-push-clause-err : goal.returns-in_err-push-clause-err
returns-in_err-push-clause-err c =
    misfit_passed c.from_residual-in_err-push.result c.in_err-push.field-0.0 c.from_residual-in_err-push.ensures.1 (λ e. absurd e) c.in_err-push.ensures.err

pub returns-in_err-push-clause-extends : goal.returns-in_err-push-clause-extends
returns-in_err-push-clause-extends c =
    extends_on c.args.terms.now c.loop-scanner.terms c.later_part.new.terms c.loop-scanner.invariant.extends c.in_ok-part.ensures.extends

pub loop-scanner-smaller : goal.loop-scanner-smaller
loop-scanner-smaller c = part_fewer c.loop-scanner.scanner _ c.later_part.new.scanner c.in_ok-part.ensures.ok.taken

pub loop-scanner-preserved : goal.loop-scanner-preserved
loop-scanner-preserved c = record {
  extends = extends_on c.args.terms.now c.loop-scanner.terms c.later_part.new.terms c.loop-scanner.invariant.extends c.in_ok-part.ensures.extends;
  modulus_is = modulus_stays c.loop-scanner.terms c.later_part.new.terms c.in_ok-part.ensures.extends ∙ c.loop-scanner.invariant.modulus_is;
  so_far = parts_more c.loop-scanner.terms c.later_part.new.terms c.args.self.now.max c.args.before c.args.scanner.now c.loop-scanner.scanner c.later_part.new.scanner c.loop-scanner.parts c.in_ok-part.part c.push.new.list
      c.in_ok-part.ensures.extends (sym c.is_at.ensures ∙ c.loop-scanner-test.true) c.loop-scanner.invariant.so_far c.in_ok-part.ensures.ok c.in_ok-push.ensures.ok;
}

pub returns-clause-ok : goal.returns-clause-ok
returns-clause-ok c = gathers_all c.loop-scanner.invariant.so_far (many_stops is_space (behind_at (codes " + ") part_at) c.loop-scanner.scanner (sym c.is_at.ensures ∙ c.loop-scanner-test.false))

pub returns-clause-extends : goal.returns-clause-extends
returns-clause-extends c = c.loop-scanner.invariant.extends
