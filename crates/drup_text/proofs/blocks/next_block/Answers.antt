use Rattle.std.specs.Prelude.{ℕ, Bool}
use Rattle.drup_text.specs.ClauseTexts.{IsBlockLine}
use Rattle.drup_text.specs.HeaderSteps.{block_part, line_part, pairs_part}
use Rattle.drup_text.specs.LineTexts.{IsHeadOf}
use Rattle.drup_text.proofs.BlockSteps.{block_refused}
use Rattle.drup_text.proofs.HeaderSteps.{refused_behind}
use Rattle.drup_text.proofs.blocks.next_block.Goals as goal

pub returns-in-Err-pairs-clause-block : goal.returns-in-Err-pairs-clause-block
returns-in-Err-pairs-clause-block g c =
    let x = c.args.extended.now in
    let head : ℕ × ℕ × Bool = (c.in-Ok.lo, c.in-Ok.count, c.in-Ok.carry) in
    refused_behind (line_part IsBlockLine (IsHeadOf x)) (pairs_part x c.in-Ok.count) (block_part x) head c.in-Ok.ensures.keeps.lengths c.in-Ok.ensures.head c.in-Err-pairs.fail c.in-Ok.ensures.reads.stands
    (λ IsLong. block_refused x IsLong c.args.file.now.number head) c.in-Err-pairs.ensures.pairs
