use Rattle.std.proofs.Common.{◌≡◌, ◌∙◌, None, false, true, sym, subst, rules}
use Rattle.mv_text.proofs.CallerLemmas.{misfit_from}
use Rattle.mv_text.specs.Steps.{IsMisfit}
use Rattle.drup_text.specs.ClauseReading.{cut_line_at}
use Rattle.drup_text.specs.Steps.{TakesTwo}
use Rattle.drup_text.proofs.HeaderTexts.{none_fails, none_taken, replace_fails, size_fails, size_none, size_other, size_some}
use Rattle.drup_text.proofs.header_reading.size.Goals as goal

pub returns-in_err-text-clause-err : goal.returns-in_err-text-clause-err
returns-in_err-text-clause-err c =
    let misfit : IsMisfit (cut_line_at c.args.scanner.now ≡ None) c.in_err-text.field-0.0 =
    misfit_from c.in_err-text.field-0.0 (none_fails c.args.scanner.now (sym c.is_at.ensures ∙ c.if-is_at.true)) c.in_err-text.ensures.err in
    search (rules, misfit)

pub returns-then-is_at-clause-ok : goal.returns-then-is_at-clause-ok
returns-then-is_at-clause-ok c = none_taken c.args.outputs c.args.scanner.now c.text.new.self (sym c.is_at.ensures ∙ c.if-is_at.true) c.in_ok-text.ensures.ok

pub returns-in_err-text-2-clause-err : goal.returns-in_err-text-2-clause-err
returns-in_err-text-2-clause-err c =
    let misfit : IsMisfit (cut_line_at c.args.scanner.now ≡ None) c.in_err-text-2.field-0.0 =
    misfit_from c.in_err-text-2.field-0.0 (replace_fails c.args.scanner.now (sym c.is_at.ensures ∙ c.if-is_at.false)) c.in_err-text-2.ensures.err in
    search (rules, misfit)

pub returns-in_err-lo-clause-err : goal.returns-in_err-lo-clause-err
returns-in_err-lo-clause-err c =
    let misfit : IsMisfit (cut_line_at c.args.scanner.now ≡ None) c.in_err-lo.field-0.0 =
    misfit_from c.in_err-lo.field-0.0 (size_fails c.args.scanner.now c.text-2.new.self (sym c.is_at.ensures ∙ c.if-is_at.false) c.in_ok-text-2.ensures.ok) c.in_err-lo.ensures.err in
    search (rules, misfit)

pub returns-in_default-clause-ok : goal.returns-in_default-clause-ok
returns-in_default-clause-ok c =
    size_none c.args.outputs c.args.scanner.now c.text-2.new.self c.two.new.scanner (sym c.is_at.ensures ∙ c.if-is_at.false) c.in_ok-text-2.ensures.ok
    (subst (TakesTwo c.args.outputs c.text-2.new.self c.two.new.scanner) c.in_default.is c.in_ok-lo.ensures.ok)

pub returns-then-is_cut_size-clause-ok : goal.returns-then-is_cut_size-clause-ok
returns-then-is_cut_size-clause-ok c =
    size_some c.args.outputs c.args.scanner.now c.text-2.new.self c.two.new.scanner (c.in-Some.lo, c.in-Some.count) (sym c.is_at.ensures ∙ c.if-is_at.false) c.in_ok-text-2.ensures.ok
    (subst (TakesTwo c.args.outputs c.text-2.new.self c.two.new.scanner) c.in-Some.is c.in_ok-lo.ensures.ok) (c.is_cut_size.ensures.0 c.if-is_cut_size.true)

pub returns-else-is_cut_size-clause-ok : goal.returns-else-is_cut_size-clause-ok
returns-else-is_cut_size-clause-ok c =
    size_other c.args.outputs c.args.scanner.now c.text-2.new.self c.two.new.scanner (c.in-Some.lo, c.in-Some.count) (sym c.is_at.ensures ∙ c.if-is_at.false) c.in_ok-text-2.ensures.ok
    (subst (TakesTwo c.args.outputs c.text-2.new.self c.two.new.scanner) c.in-Some.is c.in_ok-lo.ensures.ok)
    (λ fits. let f : false ≡ true = sym c.if-is_cut_size.false ∙ c.is_cut_size.ensures.1 fits in absurd (cc))
