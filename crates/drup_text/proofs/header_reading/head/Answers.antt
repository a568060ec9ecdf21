use Rattle.std.proofs.Common.{◌≡◌, ◌∙◌, None, ap, false, length, rules, subst, sym, true}
use Rattle.graph_core.specs.Graph.{Aig}
use Rattle.mv_text.proofs.CallerLemmas.{misfit_from}
use Rattle.mv_text.specs.Steps.{IsMisfit}
use Rattle.drup_text.specs.ClauseReading.{block_line_at}
use Rattle.drup_text.specs.Steps.{TakesTwo}
use Rattle.drup_text.proofs.BlockTexts.{head_carry_fails, head_front_fails, head_none, head_other, head_size_fails, head_some}
use Rattle.drup_text.proofs.header_reading.head.Goals as goal

pub returns-in_err-text-clause-err : goal.returns-in_err-text-clause-err
returns-in_err-text-clause-err c =
    let misfit : IsMisfit (block_line_at c.args.scanner.now ≡ None) c.in_err-text.field-0.0 =
    misfit_from c.in_err-text.field-0.0 (head_front_fails c.args.scanner.now) c.in_err-text.ensures.err in
    search (rules, misfit)

pub returns-in_err-size-clause-err : goal.returns-in_err-size-clause-err
returns-in_err-size-clause-err c =
    let misfit : IsMisfit (block_line_at c.args.scanner.now ≡ None) c.in_err-size.field-0.0 =
    misfit_from c.in_err-size.field-0.0 (head_size_fails c.args.scanner.now c.text.new.self c.in_ok-text.ensures.ok) c.in_err-size.ensures.err in
    search (rules, misfit)

pub returns-in_err-carry-clause-err : goal.returns-in_err-carry-clause-err
returns-in_err-carry-clause-err c =
    let two = c.in_ok-size.ensures.ok in
    let misfit : IsMisfit (block_line_at c.args.scanner.now ≡ None) c.in_err-carry.field-0.0 =
    misfit_from c.in_err-carry.field-0.0 (head_carry_fails c.args.scanner.now c.text.new.self c.two.new.scanner two.read c.in_ok-text.ensures.ok two.taken) c.in_err-carry.ensures.err in
    search (rules, misfit)

pub returns-in_default-clause-ok : goal.returns-in_default-clause-ok
returns-in_default-clause-ok c =
    head_none c.args.extended.now c.outputs.result c.args.scanner.now c.text.new.self c.two.new.scanner c.carry.new.scanner c.in_ok-carry.carry
    (c.outputs.ensures.value ∙ ap (λ (g : Aig). length g.outputs) c.graph.ensures) c.in_ok-text.ensures.ok
    (subst (TakesTwo c.outputs.result c.text.new.self c.two.new.scanner) c.in_default.is c.in_ok-size.ensures.ok) c.in_ok-carry.ensures.ok

pub returns-then-has_room-clause-ok : goal.returns-then-has_room-clause-ok
returns-then-has_room-clause-ok c =
    head_some c.args.extended.now c.outputs.result c.args.scanner.now c.text.new.self c.two.new.scanner c.carry.new.scanner (c.in-Some.lo, c.in-Some.count) c.in_ok-carry.carry c.in_ok-text.ensures.ok
    (subst (TakesTwo c.outputs.result c.text.new.self c.two.new.scanner) c.in-Some.is c.in_ok-size.ensures.ok) c.in_ok-carry.ensures.ok (c.has_room.ensures.value.0 c.if-has_room.true)

pub returns-else-has_room-clause-ok : goal.returns-else-has_room-clause-ok
returns-else-has_room-clause-ok c =
    head_other c.args.extended.now c.outputs.result c.args.scanner.now c.text.new.self c.two.new.scanner c.carry.new.scanner (c.in-Some.lo, c.in-Some.count) c.in_ok-carry.carry c.in_ok-text.ensures.ok
    (subst (TakesTwo c.outputs.result c.text.new.self c.two.new.scanner) c.in-Some.is c.in_ok-size.ensures.ok) c.in_ok-carry.ensures.ok
    (λ has. let f : false ≡ true = sym c.if-has_room.false ∙ c.has_room.ensures.value.1 has in absurd (cc))
