use Rattle.std.proofs.Common.{◌≡◌, ◌∙◌, ◌≤◌, ◌*◌, ◌+◌, None, ap, false, length, true, sym, subst, rules}
use Rattle.std.proofs.Math.Nat.{le-max_left, le-max_right}
use Rattle.graph_core.specs.Graph.{Aig}
use Rattle.mv_text.proofs.CallerLemmas.{misfit_from}
use Rattle.mv_text.specs.Steps.{IsMisfit}
use Rattle.drup_text.specs.ClauseReading.{output_line_at}
use Rattle.drup_text.specs.Steps.{TakesTwo}
use Rattle.drup_text.proofs.HeaderTexts.{output_fails, output_none, output_other, output_some}
use Rattle.drup_text.proofs.header_reading.output.Goals as goal

pub returns-in_err-column-clause-err : goal.returns-in_err-column-clause-err
returns-in_err-column-clause-err c =
    let misfit : IsMisfit (output_line_at c.args.scanner.now ≡ None) c.in_err-column.field-0.0 =
    misfit_from c.in_err-column.field-0.0 (output_fails c.args.scanner.now) c.in_err-column.ensures.err in
    search (rules, misfit)

pub returns-in_default-clause-ok : goal.returns-in_default-clause-ok
returns-in_default-clause-ok c =
    let e = c.args.extended.now in
    let columns = c.outputs-columns.result in
    let greatest = c.max-greatest.result in
    let most = c.max-most.result in
    let is : columns ≡ length e.graph.outputs = c.outputs-columns.ensures.value ∙ ap (λ (g : Aig). length g.outputs) c.graph.ensures in
    output_none e most c.args.scanner.now c.two.new.scanner c.max-greatest.ensures.extension
    (subst (λ n. n ≤ most) is (subst (λ n. columns ≤ n) (sym c.max-most.ensures) (le-max_left columns (2 * greatest + 1))))
    (subst (λ n. 2 * n + 1 ≤ most) c.max-greatest.ensures.value (subst (λ n. 2 * greatest + 1 ≤ n) (sym c.max-most.ensures) (le-max_right columns (2 * greatest + 1))))
    (subst (TakesTwo most c.args.scanner.now c.two.new.scanner) c.in_default.is c.in_ok-column.ensures.ok)

pub returns-then-has_output-clause-ok : goal.returns-then-has_output-clause-ok
returns-then-has_output-clause-ok c =
    output_some c.args.extended.now c.max-most.result c.args.scanner.now c.two.new.scanner (c.in-Some.column, c.in-Some.new)
    (subst (TakesTwo c.max-most.result c.args.scanner.now c.two.new.scanner) c.in-Some.is c.in_ok-column.ensures.ok) (c.has_output.ensures.0 c.if-has_output.true)

pub returns-else-has_output-clause-ok : goal.returns-else-has_output-clause-ok
returns-else-has_output-clause-ok c =
    output_other c.args.extended.now c.max-most.result c.args.scanner.now c.two.new.scanner (c.in-Some.column, c.in-Some.new)
    (subst (TakesTwo c.max-most.result c.args.scanner.now c.two.new.scanner) c.in-Some.is c.in_ok-column.ensures.ok)
    (λ has. let f : false ≡ true = sym c.if-has_output.false ∙ c.has_output.ensures.1 has in absurd (cc))
