use Rattle.std.proofs.Common.{◌≡◌, ◌/◌, ◌*◌, length, arith, ap, sym, ◌∙◌, length-append}
use Rattle.graph_core.proofs.OfGraphs.OperandPlaces.{length-a_part, length-b_part}
use Rattle.graph_core.proofs.operands.Operands.with_addend.Goals as goal

pub invariant_of-result : goal.invariant_of-result
invariant_of-result c =
    let inputs = c.input_literals-inputs.result.now in
    let front = c.split_at.result.0.now in
    let n = length front / 2 in
    let whole : length inputs ≡ 4 * (length inputs / 4) = rw c.input_literals-inputs.ensures.value c.requires.shape.inputs in
    let half : length front ≡ 2 * (length inputs / 4) = c.split_at.ensures.front_len in
    let even : length front ≡ 2 * n = omega arith in
    let a_size = ap length c.in_ok-a.ensures.a ∙ length-a_part c.args.order n front even in
    let b_size = ap length c.in_ok-a.ensures.b ∙ length-b_part c.args.order n front even in
    let narrow = c.requires.narrow in
    let seen = ap length c.input_literals-inputs.ensures.value in
    let back = c.split_at.ensures.back_len in
    let rest = c.in_ok-extend_from_slice.ensures.len in
    let none = c.new-c.ensures.len in
    record {
      even = λ e. a_size ∙ sym b_size;
      narrow_a = omega arith;
      narrow_b = omega arith;
      addend = omega (arith, ap length c.in_ok-extend_from_slice.ensures.items, ap length c.new-c.ensures.items, length-append c.new-c.result.items c.split_at.result.1.now);
    }
