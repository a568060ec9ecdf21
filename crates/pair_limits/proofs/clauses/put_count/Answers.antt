use Rattle.std.proofs.Common.{length}
use Rattle.std.specs.Prelude.{decimal}
use Rattle.drup_text.specs.WrittenTexts.{blocks_text}
use Rattle.drup_text.proofs.WrittenLoops.{count_end}
use Rattle.pair_limits.proofs.Behind.{text_is, text_then}
use Rattle.pair_limits.proofs.clauses.put_count.Goals as goal

pub returns : goal.returns
returns c =
    text_is (count_end (decimal (length c.args.blocks.now)) (blocks_text c.args.blocks.now))
    (text_then (text_then (text_then c.put.ensures c.put_number.ensures) c.put-2.ensures) c.put_blocks.ensures)
