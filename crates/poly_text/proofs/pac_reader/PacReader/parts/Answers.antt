use Rattle.std.proofs.Common.{◌∙◌}
use Rattle.poly_terms.specs.Laws.{extends_on, modulus_stays}
use Rattle.poly_text.proofs.Misfits.{misfit_passed, no_value}
use Rattle.poly_text.proofs.PartSteps.{no_first_part, no_later_parts, parts_taken}
use Rattle.poly_text.proofs.pac_reader.PacReader.parts.Goals as goal

pub part-requires : goal.part-requires
part-requires c = c.requires

pub returns-in_err-first-clause-ok : goal.returns-in_err-first-clause-ok
returns-in_err-first-clause-ok c = no_value c.from_residual.result _ c.in_err-first.field-0.0 c.from_residual.ensures.1

pub returns-in_err-first-clause-err : goal.returns-in_err-first-clause-err
returns-in_err-first-clause-err c =
    misfit_passed c.from_residual.result c.in_err-first.field-0.0 c.from_residual.ensures.1 (no_first_part c.args.scanner.now) c.in_err-first.ensures.err

pub returns-in_err-first-clause-extends : goal.returns-in_err-first-clause-extends
returns-in_err-first-clause-extends c = c.in_err-first.ensures.extends

pub returns-in_err-push-clause-ok : goal.returns-in_err-push-clause-ok
returns-in_err-push-clause-ok c = no_value c.from_residual-in_err-push.result _ c.in_err-push.field-0.0 c.from_residual-in_err-push.ensures.1

pub returns-in_err-push-clause-err : goal.returns-in_err-push-clause-err
returns-in_err-push-clause-err c =
    misfit_passed c.from_residual-in_err-push.result c.in_err-push.field-0.0 c.from_residual-in_err-push.ensures.1 (λ e. absurd e) c.in_err-push.ensures.err

pub returns-in_err-push-clause-extends : goal.returns-in_err-push-clause-extends
returns-in_err-push-clause-extends c = c.in_ok-first.ensures.extends

pub later_parts-requires : goal.later_parts-requires
later_parts-requires c = modulus_stays c.args.terms.now c.part.new.terms c.in_ok-first.ensures.extends ∙ c.requires

pub returns-in_err-parts-clause-ok : goal.returns-in_err-parts-clause-ok
returns-in_err-parts-clause-ok c = no_value c.from_residual-in_err-parts.result _ c.in_err-parts.field-0.0 c.from_residual-in_err-parts.ensures.1

pub returns-in_err-parts-clause-err : goal.returns-in_err-parts-clause-err
returns-in_err-parts-clause-err c =
    misfit_passed c.from_residual-in_err-parts.result c.in_err-parts.field-0.0 c.from_residual-in_err-parts.ensures.1
    (no_later_parts c.in_ok-first.ensures.ok.read c.args.scanner.now c.part.new.scanner c.in_ok-first.ensures.ok.taken) c.in_err-parts.ensures.err

pub returns-in_err-parts-clause-extends : goal.returns-in_err-parts-clause-extends
returns-in_err-parts-clause-extends c =
    extends_on c.args.terms.now c.part.new.terms c.later_parts.new.terms c.in_ok-first.ensures.extends c.in_err-parts.ensures.extends

pub returns-clause-ok : goal.returns-clause-ok
returns-clause-ok c =
    parts_taken c.part.new.terms c.later_parts.new.terms c.args.self.now.max c.args.scanner.now c.part.new.scanner c.later_parts.new.scanner c.new.result c.in_ok-first.first c.push.new.list c.in_ok-parts.parts
    c.in_ok-parts.ensures.extends c.new.ensures.items c.in_ok-first.ensures.ok c.in_ok-push.ensures.ok c.in_ok-parts.ensures.ok

pub returns-clause-extends : goal.returns-clause-extends
returns-clause-extends c = extends_on c.args.terms.now c.part.new.terms c.later_parts.new.terms c.in_ok-first.ensures.extends c.in_ok-parts.ensures.extends
