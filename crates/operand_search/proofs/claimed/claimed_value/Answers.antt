use Rattle.std.proofs.Common.{◌+◌, ◌*◌, ◌%◌, ◌^◌, length, refl, subst, ◌∙◌}
use Rattle.operand_search.specs.Numbers.{IsNumber}
use Rattle.operand_search.proofs.LowBits.{sum_is}
use Rattle.operand_search.proofs.claimed.claimed_value.Goals as goal

pub returns : goal.returns
returns c =
    let s = c.args.operands.now in
    let x = c.number-a.result in
    let y = c.number-b.result in
    let first : IsNumber s.claim.sign (length s.a) c.args.numbers.a x =
    subst (λ k. IsNumber k (length s.a) c.args.numbers.a x) c.sign-sign.ensures (subst (λ n. IsNumber c.sign-sign.result n c.args.numbers.a x) c.a_width.ensures.value c.number-a.ensures) in
    let second : IsNumber s.claim.sign (length s.b) c.args.numbers.b y =
    subst (λ k. IsNumber k (length s.b) c.args.numbers.b y) c.sign-sign.ensures (subst (λ n. IsNumber c.sign-sign.result n c.args.numbers.b y) c.b_width.ensures.value c.number-b.ensures) in
    c.low_bits.ensures ∙
    sum_is s.claim.sign (length s.a) (length s.b) c.args.outputs c.args.numbers.a c.args.numbers.b c.args.numbers.c x y (x * y % 2 ^ 128) ((x * y % 2 ^ 128 + c.args.numbers.c) % 2 ^ 128) c.requires first second refl refl
