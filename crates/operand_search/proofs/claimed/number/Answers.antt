use Rattle.std.proofs.Common.{◌+◌, ◌-◌, ◌*◌, ◌%◌, ◌^◌, ◌<◌, ◌≤◌, ap, subst, sym, arith}
use Rattle.operand_search.specs.Numbers.{IsNumber}
use Rattle.operand_search.proofs.LowBits.{number_kept, number_wrapped}
use Rattle.operand_search.proofs.claimed.number.Goals as goal

pub returns-then-number-bits : goal.returns-then-number-bits
returns-then-number-bits c =
    let n = c.args.bits in
    let low : 2 * c.args.a < 1 * 2 ^ n % 2 ^ 128 = omega (arith, c.if-number-bits.true, c.from-number.ensures) in
    subst (IsNumber c.args.sign n c.args.a) (sym c.from-number.ensures) (number_kept c.args.sign n c.args.a c.in-Signed.is c.requires low)

pub returns-else-number-bits : goal.returns-else-number-bits
returns-else-number-bits c =
    let n = c.args.bits in
    let a = c.from-number.result in
    let high : 1 * 2 ^ n % 2 ^ 128 ≤ 2 * c.args.a = omega (arith, c.if-number-bits.false, c.from-number.ensures) in
    number_wrapped c.args.sign n c.args.a ((a + (2 ^ 128 - 1 * 2 ^ n % 2 ^ 128)) % 2 ^ 128) c.in-Signed.is c.requires high
    (ap (λ z. (z + (2 ^ 128 - 1 * 2 ^ n % 2 ^ 128)) % 2 ^ 128) c.from-number.ensures)
