use Rattle.std.proofs.Common.{length}
use Rattle.std.specs.Prelude.{decimal}
use Rattle.mv_text.proofs.CallerLemmas.{Puts-is, Puts-then}
use Rattle.drup_text.specs.WrittenTexts.{blocks_text}
use Rattle.drup_text.proofs.WrittenLoops.{count_end}
use Rattle.drup_text.proofs.writing.put_count.Goals as goal

pub returns-clause-puts : goal.returns-clause-puts
returns-clause-puts g c =
    Puts-is (count_end (decimal (length c.args.blocks.now)) (blocks_text c.args.blocks.now))
    (Puts-then (Puts-then (Puts-then c.put.ensures.puts c.put_number.ensures.puts) c.put-2.ensures.puts) c.put_blocks.ensures.puts)
