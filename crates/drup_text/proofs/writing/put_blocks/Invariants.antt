use Rattle.std.proofs.Common.{◌≡◌, true, drop}
use Rattle.drup_text.specs.WrittenTexts.{blocks_text}
use Rattle.mv_text.proofs.CallerLemmas.{PutsUpTo}
use Rattle.drup_text.proofs.writing.put_blocks.Given as goal

abbrev pub invariant-loop-block : goal.invariant-loop-block
invariant-loop-block g l = record {
  «open» : (g.D.Desk.seen l.desk).writes l.output.slot ≡ true;
  puts : PutsUpTo (blocks_text l.blocks) (blocks_text (drop l.block-index l.blocks)) l.initial.output l.output (g.D.Desk.seen l.initial.desk) (g.D.Desk.seen l.desk);
}
