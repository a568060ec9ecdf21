use Rattle.std.proofs.Common.{drop}
use Rattle.drup_text.specs.WrittenTexts.{blocks_text}
use Rattle.pair_limits.proofs.Behind.{TakesUpTo}
use Rattle.pair_limits.proofs.clauses.put_blocks.Given as goal

abbrev pub invariant-loop-block : goal.invariant-loop-block
invariant-loop-block l = TakesUpTo (blocks_text l.blocks) (blocks_text (drop l.block-index l.blocks)) l.initial.room l.room
