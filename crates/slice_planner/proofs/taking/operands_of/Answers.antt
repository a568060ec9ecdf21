use Rattle.std.specs.Prelude.{[], take}
use Rattle.std.proofs.Common.{ap, ◌∙◌, arith}
use Rattle.slice_planner.specs.Taking.{read_by_gates}
use Rattle.slice_planner.proofs.ReadCounts.{one_at_most}
use Rattle.slice_planner.proofs.TablesMade.{operands_low, operands_more}
use Rattle.slice_planner.proofs.taking.operands_of.Goals as goal

pub one_more-requires-clause-small : goal.one_more-requires-clause-small
one_more-requires-clause-small c =
    let i = c.loop-gate.gate-index in
    let v = c.var.result in
    let so_far = c.loop-gate.invariant.counts v ∙ ap (λ gates. read_by_gates (take i gates) [] v) c.loop-gate.invariant.items in
    let low = operands_low c.args.extended.now c.gates-gate-items.ensures.extension i v in
    let max = c.max.ensures.small in
    omega arith

pub one_more-requires-in-loop-gate-clause-small : goal.one_more-requires-in-loop-gate-clause-small
one_more-requires-in-loop-gate-clause-small c =
    let i = c.loop-gate.gate-index in
    let v = c.var-in-loop-gate.result in
    let so_far = c.loop-gate.invariant.counts v ∙ ap (λ gates. read_by_gates (take i gates) [] v) c.loop-gate.invariant.items in
    let low = operands_low c.args.extended.now c.gates-gate-items.ensures.extension i v in
    let max = c.max.ensures.small in
    let more = c.one_more.ensures.each v in
    let one = one_at_most c.var.result v in
    omega arith

pub loop-gate-preserved : goal.loop-gate-preserved
loop-gate-preserved c = record {
  items = c.loop-gate.invariant.items;
  room = c.one_more-in-loop-gate.ensures.room ∙ c.one_more.ensures.room ∙ c.loop-gate.invariant.room;
  counts = operands_more c.gates-gate-items.result.now c.loop-gate.gate-index _ c.var.result c.var-in-loop-gate.result c.loop-gate.readers.items c.one_more.new.table.items c.one_more-in-loop-gate.new.table.items
      c.loop-gate-test.true c.var.ensures c.var-in-loop-gate.ensures c.one_more.ensures c.one_more-in-loop-gate.ensures c.loop-gate.invariant.counts;
}
