use Rattle.std.proofs.Common.{◌<◌, rules, arith}
use Rattle.aiger_reader.proofs.GroupSteps.{group_small, weight_small}
use Rattle.aiger_reader.proofs.binary.read_groups.Goals as goal

pub overflow_mul-result : goal.overflow_mul-result
overflow_mul-result c =
    let at = c.loop-count in
    let small : c.from.result < 256 = omega (arith, c.from.ensures, c.if-byte-lt128.true) in
    omega (arith, group_small at.weight at.count c.from.result at.invariant.weight at.invariant.few small)

pub overflow_add-result : goal.overflow_add-result
overflow_add-result c =
    let at = c.loop-count in
    let small : c.from.result < 256 = omega (arith, c.from.ensures, c.if-byte-lt128.true) in
    omega (
      arith,
      at.invariant.value,
      weight_small at.weight at.count at.invariant.weight at.invariant.few,
      group_small at.weight at.count c.from.result at.invariant.weight at.invariant.few small,
    )

pub overflow_mul-value : goal.overflow_mul-value
overflow_mul-value c =
    let at = c.loop-count in
    let small : c.from-in-loop-count.result < 256 = search rules in
    omega (arith, group_small at.weight at.count c.from-in-loop-count.result at.invariant.weight at.invariant.few small)

pub overflow_add-value : goal.overflow_add-value
overflow_add-value c =
    let at = c.loop-count in
    let small : c.from-in-loop-count.result < 256 = search rules in
    omega (
      arith,
      at.invariant.value,
      weight_small at.weight at.count at.invariant.weight at.invariant.few,
      group_small at.weight at.count c.from-in-loop-count.result at.invariant.weight at.invariant.few small,
    )

pub overflow_mul-weight : goal.overflow_mul-weight
overflow_mul-weight c =
    let at = c.loop-count in
    omega (arith, weight_small at.weight at.count at.invariant.weight at.invariant.few)
