use Rattle.std.proofs.Common.{ap, sym, ◌∙◌, arith}
use Rattle.std.specs.Prelude.{length}
use Rattle.graph_core.specs.Graph.Literals.{constant_false}
use Rattle.ripple_graft.specs.Blocks.{block}
use Rattle.ripple_graft.specs.Grafts.{seen_in}
use Rattle.ripple_graft.proofs.BlockLists.{length-ripple_outputs}
use Rattle.ripple_graft.proofs.GraftedGraphs.{grafted_more, grafted_small, length-take_enough, reach_is}
use Rattle.ripple_graft.proofs.replacing.with_block.Goals as goal

pub adder_behind-requires : goal.adder_behind-requires
adder_behind-requires c =
    let after = grafted_more c.args.graph.now (seen_in c.args.graph.now c.args.before) (block c.args.cut.now c.args.carry) c.requires.grafted c.requires.fits in
    rw c.as_slice-pairs.ensures (grafted_small c.args.graph.now _ c.output_literals-outputs.ensures.built after)

pub slice_bounds-columns_behind-end : goal.slice_bounds-columns_behind-end
slice_bounds-columns_behind-end c =
    let outs = ap length (c.deref.ensures.value ∙ c.in_ok-adder.ensures.outputs_are) in
    let many = length-ripple_outputs c.args.before.max constant_false c.as_slice-pairs.result.now in
    let wide = (reach_is (length c.as_slice-pairs.result.now) c.args.carry).1 in
    let told = c.reach-reach.ensures in
    sym (length-take_enough c.reach-reach.result c.deref.result.now (omega arith))
