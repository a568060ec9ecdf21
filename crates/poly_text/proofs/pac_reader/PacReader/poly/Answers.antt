use Rattle.std.proofs.Common.{◌≡◌, sym, ap, subst, ◌∙◌}
use Rattle.poly_terms.specs.Laws.{extends_itself}
use Rattle.poly_terms.specs.Tables.{Extends, Table, modulus_in}
use Rattle.poly_text.proofs.Misfits.{misfit_passed, no_value}
use Rattle.poly_text.proofs.PolynomialSteps.{poly_taken, poly_without_value}
use Rattle.poly_text.proofs.pac_reader.PacReader.poly.Goals as goal

-- room was taken, and nothing else has changed
still_extends : (old new : Table) → new ≡ old → Extends old new
still_extends old new same = subst (Extends old) (sym same) (extends_itself old)

pub returns-in_err-given-clause-ok : goal.returns-in_err-given-clause-ok
returns-in_err-given-clause-ok c = no_value c.from_residual.result _ c.in_err-given.field-0.0 c.from_residual.ensures.1

pub returns-in_err-given-clause-err : goal.returns-in_err-given-clause-err
returns-in_err-given-clause-err c = misfit_passed c.from_residual.result c.in_err-given.field-0.0 c.from_residual.ensures.1 (λ e. e) c.in_err-given.ensures.err

pub returns-in_err-given-clause-extends : goal.returns-in_err-given-clause-extends
returns-in_err-given-clause-extends c = still_extends c.args.terms.now c.take_room-room.new.self c.take_room-room.ensures.same

pub returns-in_default-clause-ok : goal.returns-in_default-clause-ok
returns-in_default-clause-ok c =
    poly_without_value c.args.self.now.exponent c.args.self.now.max c.take_room-room.new.self c.args.scanner.now c.all_terms.new.scanner c.in_ok-given.field-0
    c.in_default.not-Some c.in_ok-given.ensures.ok

pub returns-in_default-clause-err : goal.returns-in_default-clause-err
returns-in_default-clause-err c = tt

pub returns-in_default-clause-extends : goal.returns-in_default-clause-extends
returns-in_default-clause-extends c = still_extends c.args.terms.now c.take_room-room.new.self c.take_room-room.ensures.same

pub returns-in-Ok-clause-ok : goal.returns-in-Ok-clause-ok
returns-in-Ok-clause-ok c =
    poly_taken c.args.self.now.exponent c.args.self.now.max c.take_room-room.new.self c.make_of.new.self c.args.scanner.now c.all_terms.new.scanner c.in_ok-given.field-0 c.in-Some.given c.in-Ok.poly
    (ap modulus_in c.take_room-room.ensures.same ∙ c.requires) c.in-Some.is c.in_ok-given.ensures.ok c.in-Ok.ensures.extends c.in-Ok.ensures.of
    c.in-Ok.ensures.value

pub returns-in-Ok-clause-err : goal.returns-in-Ok-clause-err
returns-in-Ok-clause-err c = tt

pub returns-in-Ok-clause-extends : goal.returns-in-Ok-clause-extends
returns-in-Ok-clause-extends c = subst (λ t. Extends t c.make_of.new.self) c.take_room-room.ensures.same c.in-Ok.ensures.extends

pub returns-in-Err-clause-ok : goal.returns-in-Err-clause-ok
returns-in-Err-clause-ok c = tt

pub returns-in-Err-clause-err : goal.returns-in-Err-clause-err
returns-in-Err-clause-err c = tt

pub returns-in-Err-clause-extends : goal.returns-in-Err-clause-extends
returns-in-Err-clause-extends c = subst (λ t. Extends t c.make_of.new.self) c.take_room-room.ensures.same c.in-Err.ensures.extends
