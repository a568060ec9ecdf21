use Rattle.std.proofs.Common.{◌≡◌, ◌*◌, ◌+◌, ◌-◌, ◌/◌, ◌<◌, ◌^◌, ℕ, false, length, get_or, arith, ap, ap₂, subst, sym, ◌∙◌, drop}
use Rattle.graph_core.specs.Graph.Assignments.{bit}
use Rattle.graph_core.specs.declared.order.Order.TheVariants.{Interleaved}
use Rattle.graph_core.specs.Graph.Operands.{evens, inputs_of, odds}
use Rattle.graph_core.proofs.OfGraphs.OperandBits.{number_of}
use Rattle.graph_core.proofs.OfGraphs.OperandPlaces.{length-a_part, length-b_part, a_part_at, b_part_at, number_step, number_fits, number_of-low, byte_is_bit, bit_low, no_number, parts_are}
use Rattle.graph_core.proofs.operands.interleaved_pair.Goals as goal

pub loop-i-init : goal.loop-i-init
loop-i-init c =
    let n = length c.args.inputs.now / 2 in
    record {
      a = no_number n (evens c.args.inputs.now) (length-a_part Interleaved n c.args.inputs.now c.requires.even);
      b = no_number n (odds c.args.inputs.now) (length-b_part Interleaved n c.args.inputs.now c.requires.even);
    }

pub overflow_mul-a : goal.overflow_mul-a
overflow_mul-a c =
    let n = length c.args.inputs.now / 2 in
    let narrow = c.requires.narrow in
    let wide = length-a_part Interleaved n c.args.inputs.now c.requires.even in
    let fits = number_fits (evens c.args.inputs.now) 63 c.loop-i.i c.loop-i-test.true (omega arith) in
    let same = c.loop-i.invariant.a in
    omega arith

pub overflow_add-a : goal.overflow_add-a
overflow_add-a c =
    let n = length c.args.inputs.now / 2 in
    let narrow = c.requires.narrow in
    let wide = length-a_part Interleaved n c.args.inputs.now c.requires.even in
    let fits = number_fits (evens c.args.inputs.now) 63 c.loop-i.i c.loop-i-test.true (omega arith) in
    let same = c.loop-i.invariant.a in
    let place = 2 * (c.loop-i.i - 1) in
    let byte = byte_is_bit (get_or c.args.inputs.now place false) in
    let low = bit_low (get_or c.args.inputs.now place false) in
    let value = c.from.ensures in
    omega arith

pub overflow_mul-b : goal.overflow_mul-b
overflow_mul-b c =
    let n = length c.args.inputs.now / 2 in
    let narrow = c.requires.narrow in
    let wide = length-b_part Interleaved n c.args.inputs.now c.requires.even in
    let fits = number_fits (odds c.args.inputs.now) 63 c.loop-i.i c.loop-i-test.true (omega arith) in
    let same = c.loop-i.invariant.b in
    omega arith

pub overflow_add-b : goal.overflow_add-b
overflow_add-b c =
    let n = length c.args.inputs.now / 2 in
    let narrow = c.requires.narrow in
    let wide = length-b_part Interleaved n c.args.inputs.now c.requires.even in
    let fits = number_fits (odds c.args.inputs.now) 63 c.loop-i.i c.loop-i-test.true (omega arith) in
    let same = c.loop-i.invariant.b in
    let place = 2 * (c.loop-i.i - 1) + 1 in
    let byte = byte_is_bit (get_or c.args.inputs.now place false) in
    let low = bit_low (get_or c.args.inputs.now place false) in
    let value = c.from-in-loop-i.ensures in
    omega arith

pub loop-i-preserved : goal.loop-i-preserved
loop-i-preserved c =
    let inputs = c.args.inputs.now in
    let n = length inputs / 2 in
    let i = c.loop-i.i in
    let low = c.loop-i.auto.i in
    record {
      a = number_step (evens inputs) i c.loop-i.a c.from.result c.loop-i-test.true (omega (arith, length-a_part Interleaved n inputs c.requires.even)) c.loop-i.invariant.a
          (c.from.ensures ∙ byte_is_bit (get_or inputs (2 * (i - 1)) false) ∙ ap bit (sym (a_part_at Interleaved n inputs (i - 1) false (omega arith))));
      b = number_step (odds inputs) i c.loop-i.b c.from-in-loop-i.result c.loop-i-test.true (omega (arith, length-b_part Interleaved n inputs c.requires.even)) c.loop-i.invariant.b
          (c.from-in-loop-i.ensures ∙ byte_is_bit (get_or inputs (2 * (i - 1) + 1) false) ∙ ap bit (sym (b_part_at Interleaved n inputs (i - 1) false (omega arith))));
    }

pub returns-clause-bits : goal.returns-clause-bits
returns-clause-bits c =
    let inputs = c.args.inputs.now in
    let n = length inputs / 2 in
    let zero : c.loop-i.i ≡ 0 = omega arith in
    let a_is : c.loop-i.a ≡ number_of (evens inputs) = c.loop-i.invariant.a ∙ ap (λ k. number_of (drop k (evens inputs))) zero in
    let b_is : c.loop-i.b ≡ number_of (odds inputs) = c.loop-i.invariant.b ∙ ap (λ k. number_of (drop k (odds inputs))) zero in
    parts_are Interleaved n inputs c.requires.even ∙ ap₂ (inputs_of Interleaved n) (sym a_is) (sym b_is)

pub returns-clause-a : goal.returns-clause-a
returns-clause-a c =
    let inputs = c.args.inputs.now in
    let n = length inputs / 2 in
    let zero : c.loop-i.i ≡ 0 = omega arith in
    let is : c.loop-i.a ≡ number_of (evens inputs) = c.loop-i.invariant.a ∙ ap (λ k. number_of (drop k (evens inputs))) zero in
    subst (λ x. x < 2 ^ n) (sym is) (subst (λ k. number_of (evens inputs) < 2 ^ k) (length-a_part Interleaved n inputs c.requires.even) (number_of-low (evens inputs)))

pub returns-clause-b : goal.returns-clause-b
returns-clause-b c =
    let inputs = c.args.inputs.now in
    let n = length inputs / 2 in
    let zero : c.loop-i.i ≡ 0 = omega arith in
    let is : c.loop-i.b ≡ number_of (odds inputs) = c.loop-i.invariant.b ∙ ap (λ k. number_of (drop k (odds inputs))) zero in
    subst (λ x. x < 2 ^ n) (sym is) (subst (λ k. number_of (odds inputs) < 2 ^ k) (length-b_part Interleaved n inputs c.requires.even) (number_of-low (odds inputs)))
