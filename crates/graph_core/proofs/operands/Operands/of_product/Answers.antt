use Rattle.std.proofs.Common.{◌≡◌, ◌/◌, ◌*◌, length, arith, ap, sym, ◌∙◌}
use Rattle.graph_core.specs.Graph.Operands.{a_part, b_part, multiplying}
use Rattle.graph_core.proofs.OfGraphs.OperandPlaces.{a_bits_are, b_bits_are, length-a_part, length-b_part}
use Rattle.graph_core.proofs.operands.Operands.of_product.Goals as goal

pub invariant_of-result : goal.invariant_of-result
invariant_of-result c =
    let n = length c.input_literals.result.now / 2 in
    let even : length c.input_literals.result.now ≡ 2 * n = rw c.input_literals.ensures.value c.requires.shape.inputs in
    let a_size = ap length c.in_ok-a.ensures.a ∙ length-a_part c.args.order n c.input_literals.result.now even in
    let b_size = ap length c.in_ok-a.ensures.b ∙ length-b_part c.args.order n c.input_literals.result.now even in
    let narrow = c.requires.narrow in
    record {
      even = λ e. a_size ∙ sym b_size;
      narrow_a = omega (arith, ap length c.input_literals.ensures.value);
      narrow_b = omega (arith, ap length c.input_literals.ensures.value);
      addend = omega (arith, ap length c.new-c.ensures.items);
    }

pub returns : goal.returns
returns c =
    let first = c.in_ok-a.ensures.a ∙ ap (λ xs. a_part c.args.order (length xs / 2) xs) c.input_literals.ensures.value ∙ sym (a_bits_are c.args.order c.args.graph.now) in
    let second = c.in_ok-a.ensures.b ∙ ap (λ xs. b_part c.args.order (length xs / 2) xs) c.input_literals.ensures.value ∙ sym (b_bits_are c.args.order c.args.graph.now) in
    let none = c.new-c.ensures.items in
    λ i. record { claim = multiplying c.args.order c.args.sign; a = first i; b = second i; c = none i }
