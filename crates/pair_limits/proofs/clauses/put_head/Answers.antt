use Rattle.std.proofs.Common.{ap, length}
use Rattle.std.specs.Prelude.{decimal}
use Rattle.drup_text.specs.ClauseTexts.{carry_text}
use Rattle.drup_text.proofs.WrittenLoops.{head_end}
use Rattle.pair_limits.proofs.Behind.{text_is, text_then}
use Rattle.pair_limits.proofs.clauses.put_head.Goals as goal

pub returns : goal.returns
returns c =
    let block = c.args.block.now in
    text_is (head_end (decimal block.cut.lo) (decimal (length block.cut.pairs)) (carry_text block.carry))
    (text_then
    (text_then
    (text_then (text_then (text_then c.put.ensures (text_is (ap decimal c.from.ensures) c.put_number.ensures)) c.put-2.ensures)
    (text_is (ap (λ ps. decimal (length ps)) c.as_slice.ensures) c.put_number-2.ensures))
    (text_is c.carry.ensures c.put-3.ensures))
    c.put-4.ensures)
