use Rattle.std.proofs.Common.{◌≡◌, ◌∙◌, ◌*◌, ◌+◌, None, false, true, sym, subst, rules}
use Rattle.mv_text.proofs.CallerLemmas.{misfit_from}
use Rattle.mv_text.specs.Steps.{IsMisfit}
use Rattle.drup_text.specs.ClauseReading.{pair_line_at}
use Rattle.drup_text.specs.Steps.{TakesTwo}
use Rattle.drup_text.proofs.HeaderTexts.{pair_fails, pair_none, pair_other, pair_some}
use Rattle.drup_text.proofs.header_reading.pair.Goals as goal

pub returns-in_err-x-clause-err : goal.returns-in_err-x-clause-err
returns-in_err-x-clause-err c =
    let misfit : IsMisfit (pair_line_at c.args.scanner.now ≡ None) c.in_err-x.field-0.0 =
    misfit_from c.in_err-x.field-0.0 (pair_fails c.args.scanner.now) c.in_err-x.ensures.err in
    search (rules, misfit)

pub returns-in_default-clause-ok : goal.returns-in_default-clause-ok
returns-in_default-clause-ok c =
    pair_none c.args.extended.now c.args.scanner.now c.two.new.scanner c.max.ensures.extension
    (subst (λ m. TakesTwo (2 * m + 1) c.args.scanner.now c.two.new.scanner None) c.max.ensures.value
    (subst (TakesTwo (2 * c.max.result + 1) c.args.scanner.now c.two.new.scanner) c.in_default.is c.in_ok-x.ensures.ok))

pub returns-then-has_pair-clause-ok : goal.returns-then-has_pair-clause-ok
returns-then-has_pair-clause-ok c =
    pair_some c.args.extended.now (2 * c.max.result + 1) c.args.scanner.now c.two.new.scanner (c.in-Some.x, c.in-Some.y)
    (subst (TakesTwo (2 * c.max.result + 1) c.args.scanner.now c.two.new.scanner) c.in-Some.is c.in_ok-x.ensures.ok) (c.has_pair.ensures.0 c.if-has_pair.true)

pub returns-else-has_pair-clause-ok : goal.returns-else-has_pair-clause-ok
returns-else-has_pair-clause-ok c =
    pair_other c.args.extended.now (2 * c.max.result + 1) c.args.scanner.now c.two.new.scanner (c.in-Some.x, c.in-Some.y)
    (subst (TakesTwo (2 * c.max.result + 1) c.args.scanner.now c.two.new.scanner) c.in-Some.is c.in_ok-x.ensures.ok)
    (λ has. let f : false ≡ true = sym c.if-has_pair.false ∙ c.has_pair.ensures.1 has in absurd (cc))
