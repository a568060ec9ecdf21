use Rattle.std.specs.Prelude.{slice_index_or}
use Rattle.adder_finder.proofs.Covers.{cover_end, cover_start, cover_step, key_at}
use Rattle.adder_finder.proofs.cover.needs_of.Goals as goal

pub loop-level-init : goal.loop-level-init
loop-level-init c = cover_start c.args.graph.now c.args.pairs.now c.args.keys.now c.in_ok-needs.needs.items c.requires.pairs.few c.requires.keys c.in_ok-needs.ensures

pub loop-level-preserved : goal.loop-level-preserved
loop-level-preserved c =
    cover_step c.args.graph.now c.max-max.ensures.built.well_formed c.args.pairs.now c.args.keys.now c.loop-level._level-index (slice_index_or c.args.keys.now c.loop-level._level-index (0, 0)).1
    c.loop-level.needs.items c.cover.new.needs.items c.requires.keys c.loop-level.invariant c.loop-level-test.true (key_at c.args.keys.now c.loop-level._level-index (0, 0) c.loop-level-test.true)
    (c.requires.keys.in_range c.loop-level._level-index (0, 0) c.loop-level-test.true) c.cover.ensures

pub returns : goal.returns
returns c = cover_end c.args.graph.now c.max-max.ensures.built.well_formed c.args.pairs.now c.args.keys.now c.loop-level._level-index c.loop-level.needs.items c.loop-level-test.false c.loop-level.invariant
