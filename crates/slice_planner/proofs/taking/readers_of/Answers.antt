use Rattle.std.specs.Prelude.{[]}
use Rattle.std.proofs.Common.{◌∙◌, arith}
use Rattle.ripple_graft.specs.Extension.{new_outputs}
use Rattle.slice_planner.specs.Taking.{read_by_gates}
use Rattle.slice_planner.proofs.ReadCounts.{columns_zero}
use Rattle.slice_planner.proofs.TablesMade.{output_low, outputs_more, reads_low}
use Rattle.slice_planner.proofs.taking.readers_of.Goals as goal

pub loop-k-init : goal.loop-k-init
loop-k-init c = record {
  room = c.in_ok-readers.ensures.room;
  counts = λ v.
      let all = c.in_ok-readers.ensures.counts v in
      let none = columns_zero (new_outputs c.args.extended.now) v in
      omega arith;
}

pub one_more-requires-clause-in_range : goal.one_more-requires-clause-in_range
one_more-requires-clause-in_range c =
    let low = output_low c.args.extended.now c.gates-gates.ensures.extension c.loop-k.k c.new_output.result c.new_output.ensures in
    let room = c.loop-k.invariant.room in
    let is = c.var.ensures in
    omega arith

pub one_more-requires-clause-small : goal.one_more-requires-clause-small
one_more-requires-clause-small c =
    let v = c.var.result in
    let so_far = c.loop-k.invariant.counts v in
    let low = reads_low c.args.extended.now c.gates-gates.ensures.extension c.loop-k.k v in
    let max = c.max-max.ensures.small in
    let few = c.outputs-k-end.type_inv in
    let below = c.loop-k-test.true in
    omega arith

pub loop-k-preserved : goal.loop-k-preserved
loop-k-preserved c =
    let e = c.args.extended.now in record {
      room = c.one_more.ensures.room ∙ c.loop-k.invariant.room;
      counts = outputs_more (new_outputs e) (read_by_gates e.gates []) c.loop-k.k c.new_output.result c.var.result c.loop-k.readers.items c.one_more.new.table.items c.new_output.ensures c.var.ensures c.one_more.ensures
          c.loop-k.invariant.counts;
    }
