use Rattle.std.proofs.Common.{ap, length}
use Rattle.std.specs.Prelude.{decimal}
use Rattle.mv_text.proofs.CallerLemmas.{Puts-is, Puts-then}
use Rattle.drup_text.specs.ClauseTexts.{carry_text}
use Rattle.drup_text.proofs.WrittenLoops.{head_end}
use Rattle.drup_text.proofs.writing.put_head.Goals as goal

pub returns-clause-puts : goal.returns-clause-puts
returns-clause-puts g c =
    let block = c.args.block.now in
    Puts-is (head_end (decimal block.cut.lo) (decimal (length block.cut.pairs)) (carry_text block.carry))
    (Puts-then
    (Puts-then
    (Puts-then (Puts-then (Puts-then c.put.ensures.puts (Puts-is (ap decimal c.from.ensures) c.put_number.ensures.puts)) c.put-2.ensures.puts)
    (Puts-is (ap (λ ps. decimal (length ps)) c.as_slice.ensures) c.put_number-2.ensures.puts))
    (Puts-is c.carry.ensures.text c.put-3.ensures.puts))
    c.put-4.ensures.puts)
