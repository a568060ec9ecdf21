use Rattle.std.proofs.Common.{ap, sym, ◌==◌, ◌∙◌, w64}
use Rattle.std.proofs.lemmas.Nat.Bits.{bit_at_set_same, bit_at_set_other, bit_at_clear_same, bit_at_clear_other}
use Rattle.operand_search.proofs.lanes.with_bit.Goals as goal

pub returns-then-bit-clause-here : goal.returns-then-bit-clause-here
returns-then-bit-clause-here c = ap (λ n. n == 1) (bit_at_set_same w64 c.args.word c.args.place c.requires) ∙ sym c.if-bit.true

pub returns-then-bit-clause-others : goal.returns-then-bit-clause-others
returns-then-bit-clause-others c i h ne = ap (λ n. n == 1) (bit_at_set_other w64 c.args.word c.args.place c.requires i ne)

pub returns-else-bit-clause-here : goal.returns-else-bit-clause-here
returns-else-bit-clause-here c = ap (λ n. n == 1) (bit_at_clear_same w64 c.args.word c.args.place c.requires) ∙ sym c.if-bit.false

pub returns-else-bit-clause-others : goal.returns-else-bit-clause-others
returns-else-bit-clause-others c i h ne = ap (λ n. n == 1) (bit_at_clear_other w64 c.args.word c.args.place c.requires i h ne)
