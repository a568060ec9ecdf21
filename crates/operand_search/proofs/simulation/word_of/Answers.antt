use Rattle.std.proofs.Common.{arith, refl, ap, get_or}
use Rattle.operand_search.proofs.Bits.{literal_word, literal_word_negated, not_odd}
use Rattle.operand_search.proofs.simulation.word_of.Goals as goal

pub returns-then-negated : goal.returns-then-negated
returns-then-negated c i h =
    let odd = c.if-negated.ensures.0 refl in
    literal_word_negated i c.args.words.now c.args.lit (get_or c.args.words.now c.var.result 0) (omega (arith, c.type_inv.words c.var.result)) h (c.requires.constant i h)
    (ap (λ v. get_or c.args.words.now v 0) c.var.ensures) odd

pub returns-else-negated : goal.returns-else-negated
returns-else-negated c i h =
    let even = not_odd c.args.lit c.if-negated.ensures.1 in
    literal_word i c.args.words.now c.args.lit (get_or c.args.words.now c.var.result 0) (c.requires.constant i h) (ap (λ v. get_or c.args.words.now v 0) c.var.ensures) even
