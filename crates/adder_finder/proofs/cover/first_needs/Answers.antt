use Rattle.std.proofs.Common.{arith}
use Rattle.adder_finder.proofs.Covers.{first_step, pair_at}
use Rattle.adder_finder.proofs.cover.first_needs.Goals as goal

pub lower-requires : goal.lower-requires
lower-requires c =
    let low = c.requires.pairs.in_range c.loop-i.i (record { 0 = 0 }, record { 0 = 0 }) c.loop-i-test.true in
    let left = low.0 in
    let room = c.loop-i.invariant.room in
    record { in_range = omega arith }

pub loop-i-preserved : goal.loop-i-preserved
loop-i-preserved c =
    first_step c.args.graph.now.max c.loop-i.i c.args.pairs.now c.loop-i.needs.items c.lower.new.needs.items c.lower-in-loop-i.new.needs.items c.var.result c.var-in-loop-i.result
    (pair_at c.args.pairs.now c.loop-i.i c.var.result c.var-in-loop-i.result (record { 0 = 0 }, record { 0 = 0 }) c.loop-i-test.true c.var.ensures c.var-in-loop-i.ensures) c.loop-i.invariant c.lower.ensures c.lower-in-loop-i.ensures
