use Rattle.std.proofs.Common.{◌≡◌, ◌<◌, ◌≤◌, ◌⊎◌, inl, inr, true, false, length, get_or, arith}
use Rattle.graph_core.specs.Text.Numerals.{is_digit}
use Rattle.mv_text.proofs.DigitSteps.{all_ahead, is_none, is_one, more_small, none_ahead, one_more_digit, too_many}
use Rattle.mv_text.proofs.scanner.number_ahead.Goals as goal
use Rattle.mv_text.proofs.scanner.number_ahead.Goals.{then-loop-count-test+else-is_ascii_digit, else-loop-count-test}

pub overflow_mul-number : goal.overflow_mul-number
overflow_mul-number c =
    let none : 0 < 10 = omega arith in
    let few : c.loop-count.count < 19 = omega (arith, c.if-count-most.false, c.loop-count.invariant.few, c.requires) in
    let more = more_small c.loop-count.number c.loop-count.count 0 c.loop-count.invariant.small few none in
    omega (arith, more.0)

pub overflow_add-number : goal.overflow_add-number
overflow_add-number c =
    let below : c.from.result < 10 = omega (arith, c.from.ensures, c.if-is_ascii_digit.ensures.cases) in
    let few : c.loop-count.count < 19 = omega (arith, c.if-count-most.false, c.loop-count.invariant.few, c.requires) in
    omega (arith, (more_small c.loop-count.number c.loop-count.count c.from.result c.loop-count.invariant.small few below).0)

pub loop-count-preserved : goal.loop-count-preserved
loop-count-preserved c =
    let i = c.loop-count.count in
    let b = get_or c.args.bytes.now i 0 in
    let low : 48 ≤ b = omega (arith, c.if-is_ascii_digit.ensures.cases) in
    let high : b ≤ 57 = omega (arith, c.if-is_ascii_digit.ensures.cases) in
    let below : c.from.result < 10 = omega (arith, c.from.ensures, high) in
    let few : i < c.args.most = omega (arith, c.if-count-most.false, c.loop-count.invariant.few) in
    one_more_digit c.args.most c.args.bytes.now c.loop-count.number i c.from.result c.loop-count-test.true few c.requires (is_one b low high) c.from.ensures below c.loop-count.invariant

pub returns-then-count-most : goal.returns-then-count-most
returns-then-count-most c =
    let b = get_or c.args.bytes.now c.loop-count.count 0 in
    let digit : is_digit b ≡ true = is_one b (omega (arith, c.if-is_ascii_digit.ensures.cases)) (omega (arith, c.if-is_ascii_digit.ensures.cases)) in
    record { some = tt; none = too_many c.args.most c.args.bytes.now c.loop-count.number c.loop-count.count c.loop-count-test.true c.if-count-most.true digit c.loop-count.invariant }

-- no digit comes next
pub returns-then-count-eq0 : goal.returns-then-count-eq0
returns-then-count-eq0 c =
    let ends : (length c.args.bytes.now ≤ c.loop-count.count) ⊎ (is_digit (get_or c.args.bytes.now c.loop-count.count 0) ≡ false) =
    elim c.loop-count-test.branch [ then-loop-count-test+else-is_ascii_digit w ↦ inr (is_none _ w.if-is_ascii_digit.ensures.cases) | else-loop-count-test w ↦ inl (omega arith) ] in
    record { some = tt; none = none_ahead c.args.most c.args.bytes.now c.loop-count.number c.loop-count.count c.if-count-eq0.true ends c.loop-count.invariant }

pub returns : goal.returns
returns c =
    let ends : (length c.args.bytes.now ≤ c.loop-count.count) ⊎ (is_digit (get_or c.args.bytes.now c.loop-count.count 0) ≡ false) =
    elim c.loop-count-test.branch [ then-loop-count-test+else-is_ascii_digit w ↦ inr (is_none _ w.if-is_ascii_digit.ensures.cases) | else-loop-count-test w ↦ inl (omega arith) ] in
    let some : 0 < c.loop-count.count = omega (arith, c.if-count-eq0.false) in
    record { some = all_ahead c.args.most c.args.bytes.now c.loop-count.number c.loop-count.count some ends c.loop-count.invariant; none = tt }
