use Rattle.std.proofs.Common.{◌∙◌, ◌+◌, ap, drop, get_or}
use Rattle.mv_text.proofs.CallerLemmas.{Puts-is, Puts-then, up_to_more}
use Rattle.drup_text.specs.WrittenTexts.{block_head_text, block_text, blocks_text, pairs_text}
use Rattle.drup_text.proofs.WrittenLoops.{block_end, next_block}
use Rattle.drup_text.proofs.writing.put_blocks.Goals as goal

pub loop-block-preserved : goal.loop-block-preserved
loop-block-preserved g c =
    let i = c.loop-block.block-index in
    let blocks = c.args.blocks.now in
    let block = c.block-item.result in
    record {
      «open» = c.put_pairs.ensures.open;
      puts = up_to_more (block_text (get_or blocks i block)) (blocks_text (drop (i + 1) blocks)) (next_block blocks i block c.loop-block-test.true) c.loop-block.invariant.puts
          (Puts-is (block_end (block_head_text block) (pairs_text block.cut.pairs) ∙ ap block_text c.block-item.is) (Puts-then c.put_head.ensures.puts (Puts-is (ap pairs_text c.as_slice.ensures) c.put_pairs.ensures.puts)));
    }
