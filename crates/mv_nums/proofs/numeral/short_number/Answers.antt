use Rattle.std.proofs.Common.{◌<◌, get_or, arith}
use Rattle.std.proofs.lemmas.List.Elements.{All-more}
use Rattle.std.proofs.lemmas.List.Sums.{fold_more}
use Rattle.mv_nums.specs.Numeral.{IsDigit, append_digit}
use Rattle.mv_nums.proofs.Decimal.{more_small}
use Rattle.mv_nums.proofs.numeral.short_number.Goals as goal

pub overflow_mul-number : goal.overflow_mul-number
overflow_mul-number c =
    let none : 0 < 10 = omega arith in
    let few : c.loop-byte.byte-index < 19 = omega arith in
    let more = more_small c.loop-byte.number c.loop-byte.byte-index 0 c.loop-byte.invariant.small few none in
    omega (arith, more.0)

pub overflow_add-number : goal.overflow_add-number
overflow_add-number c =
    let digit : IsDigit (get_or c.args.bytes.now c.loop-byte.byte-index 0) = grind arith in
    let below : c.from.result < 10 = omega (arith, c.from.ensures, digit.1) in
    let few : c.loop-byte.byte-index < 19 = omega arith in
    omega (arith, (more_small c.loop-byte.number c.loop-byte.byte-index c.from.result c.loop-byte.invariant.small few below).0)

pub loop-byte-preserved : goal.loop-byte-preserved
loop-byte-preserved c =
    let bytes = c.args.bytes.now in
    let i = c.loop-byte.byte-index in
    let digit : IsDigit (get_or bytes i 0) = grind arith in
    let below : c.from.result < 10 = omega (arith, c.from.ensures, digit.1) in
    let few : i < 19 = omega arith in
    record {
      digits = All-more IsDigit bytes i 0 c.loop-byte-test.true c.loop-byte.invariant.digits digit;
      number = omega (arith, c.from.ensures, c.loop-byte.invariant.number, fold_more append_digit 0 bytes i 0 c.loop-byte-test.true);
      small = (more_small c.loop-byte.number i c.from.result c.loop-byte.invariant.small few below).1;
    }
