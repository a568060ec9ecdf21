use Rattle.std.proofs.Common.{◌∙◌, ◌+◌, ap, drop, get_or}
use Rattle.std.proofs.lemmas.List.{drop_all}
use Rattle.drup_text.specs.WrittenTexts.{block_head_text, block_text, blocks_text, pairs_text}
use Rattle.drup_text.proofs.WrittenLoops.{block_end, next_block}
use Rattle.pair_limits.proofs.Behind.{up_to_all, up_to_more, text_is, text_then}
use Rattle.pair_limits.proofs.clauses.put_blocks.Goals as goal

pub loop-block-preserved : goal.loop-block-preserved
loop-block-preserved c =
    let i = c.loop-block.block-index in
    let blocks = c.args.blocks.now in
    let block = c.block-item.result in
    up_to_more (block_text (get_or blocks i block)) (blocks_text (drop (i + 1) blocks)) (next_block blocks i block c.loop-block-test.true) c.loop-block.invariant
    (text_is (block_end (block_head_text block) (pairs_text block.cut.pairs) ∙ ap block_text c.block-item.is) (text_then c.put_head.ensures (text_is (ap pairs_text c.as_slice.ensures) c.put_pairs.ensures)))

pub returns : goal.returns
returns c = up_to_all (ap blocks_text (drop_all c.loop-block.block-index c.args.blocks.now c.loop-block-test.false)) c.loop-block.invariant
