use Rattle.std.proofs.Common.{◌≡◌, ℕ, Bool, List, refl, ◌-◌, false, length, get_or, arith, ap, ◌∙◌, drop}
use Rattle.graph_core.specs.Graph.Operands.{bits_of}
use Rattle.graph_core.proofs.OfGraphs.OperandBits.{number_of}
use Rattle.graph_core.proofs.OfGraphs.OperandPlaces.{number_step, number_fits, number_of-low, bits_of-number_of, byte_is_bit, bit_low, no_number}
use Rattle.graph_core.proofs.operands.number_of.Goals as goal

pub loop-i-init : goal.loop-i-init
loop-i-init c = record { number = no_number (length c.args.bits.now) c.args.bits.now refl }

pub overflow_mul-number : goal.overflow_mul-number
overflow_mul-number c =
    let fits = number_fits c.args.bits.now 127 c.loop-i.i c.loop-i-test.true c.requires in
    let same = c.loop-i.invariant.number in
    omega arith

pub overflow_add-number : goal.overflow_add-number
overflow_add-number c =
    let fits = number_fits c.args.bits.now 127 c.loop-i.i c.loop-i-test.true c.requires in
    let same = c.loop-i.invariant.number in
    let byte = byte_is_bit (get_or c.args.bits.now (c.loop-i.i - 1) false) in
    let low = bit_low (get_or c.args.bits.now (c.loop-i.i - 1) false) in
    let value = c.from.ensures in
    omega arith

pub loop-i-preserved : goal.loop-i-preserved
loop-i-preserved c = record {
  number = number_step c.args.bits.now c.loop-i.i c.loop-i.number c.from.result c.loop-i-test.true (omega arith) c.loop-i.invariant.number
      (c.from.ensures ∙ byte_is_bit (get_or c.args.bits.now (c.loop-i.i - 1) false));
}

number_is : (i n : ℕ) (bits : List Bool) → i ≡ 0 → n ≡ number_of (drop i bits) → n ≡ number_of bits
number_is i n bits zero h = h ∙ ap (λ k. number_of (drop k bits)) zero

pub returns-clause-bits : goal.returns-clause-bits
returns-clause-bits c =
    ap (bits_of (length c.args.bits.now)) (number_is c.loop-i.i c.loop-i.number c.args.bits.now (omega arith) c.loop-i.invariant.number) ∙ bits_of-number_of c.args.bits.now

pub returns-clause-low : goal.returns-clause-low
returns-clause-low c =
    rw (number_is c.loop-i.i c.loop-i.number c.args.bits.now (omega arith) c.loop-i.invariant.number) (number_of-low c.args.bits.now)
