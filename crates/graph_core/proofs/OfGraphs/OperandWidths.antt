-- How many literals the operands have that a claim names in a graph.
use Rattle.std.specs.Prelude.{◌≡◌, ℕ, ◌+◌, ◌*◌, ◌≤◌, Bool, true, false, [], length, take, drop}
use Rattle.std.proofs.Common.{refl, sym, ap, ◌∙◌, arith, length-drop}
use Rattle.std.proofs.lemmas.List.{length-take}
use Rattle.graph_core.specs.declared.claim.Claim.{Claim}
use Rattle.graph_core.specs.declared.order.Order.{Order}
use Rattle.graph_core.specs.declared.order.Order.TheVariants.{Interleaved}
use Rattle.graph_core.specs.declared.widths.Widths.{Widths}
use Rattle.graph_core.specs.declared.widths.Widths.TheVariants.{Equal, Given as OfWidths}
use Rattle.graph_core.specs.Graph.{Aig}
use Rattle.graph_core.specs.Graph.Operands.{HasShapeFor, HasSumShape, AreNarrow, SidesAreNarrow, a_literals, a_width, addend_width, b_literals, b_width, c_literals, has_addend, order_for, order_of, sum_width, width}
use Rattle.graph_core.proofs.OfGraphs.OperandPlaces.{a_bits_are, b_bits_are, length-a_part, length-b_part}

-- of a graph with an addend, the inputs of the operands
front_of : (g : Aig) → HasSumShape g → length (take (2 * sum_width g) g.inputs) ≡ 2 * sum_width g
front_of g shape = let h = shape.inputs in omega (arith, length-take (2 * sum_width g) g.inputs)

pub length-a_literals : (w : Widths) (order : Order) (g : Aig) → HasShapeFor w g → length (a_literals w order g) ≡ a_width w g
length-a_literals (Equal false) order g shape = ap length (a_bits_are order g) ∙ length-a_part order (width g) g.inputs shape.inputs
length-a_literals (Equal true) order g shape = length-a_part order (sum_width g) (take (2 * sum_width g) g.inputs) (front_of g shape)
length-a_literals (OfWidths a b add) order g shape = let h = shape.inputs in omega (arith, length-take a g.inputs)

pub length-b_literals : (w : Widths) (order : Order) (g : Aig) → HasShapeFor w g → length (b_literals w order g) ≡ b_width w g
length-b_literals (Equal false) order g shape = ap length (b_bits_are order g) ∙ length-b_part order (width g) g.inputs shape.inputs
length-b_literals (Equal true) order g shape = length-b_part order (sum_width g) (take (2 * sum_width g) g.inputs) (front_of g shape)
length-b_literals (OfWidths a b add) order g shape = let h = shape.inputs in omega (arith, length-take b (drop a g.inputs), length-drop a g.inputs)

pub length-c_literals : (w : Widths) (g : Aig) → HasShapeFor w g → length (c_literals w g) ≡ addend_width (has_addend w) (a_width w g + b_width w g)
length-c_literals (Equal false) g shape = refl
length-c_literals (Equal true) g shape = let h = shape.inputs in omega (arith, length-drop (2 * sum_width g) g.inputs)
length-c_literals (OfWidths a b add) g shape = let h = shape.inputs in omega (arith, length-drop b (drop a g.inputs), length-drop a g.inputs)

addend_low : (add : Bool) (n : ℕ) → addend_width add n ≤ n
addend_low false n = omega arith
addend_low true n = omega arith

-- interleaved operands are equally wide
even_widths : (w : Widths) (order : Order) (g : Aig) → order_for w order ≡ Interleaved → a_width w g ≡ b_width w g
even_widths (Equal false) order g e = refl
even_widths (Equal true) order g e = refl
even_widths (OfWidths a b add) order g e = absurd (cc)

pub even_sides : (g : Aig) (k : Claim) → HasShapeFor k.widths g → order_of k ≡ Interleaved →
    length (a_literals k.widths k.order g) ≡ length (b_literals k.widths k.order g)
even_sides g k shape e = length-a_literals k.widths k.order g shape ∙ even_widths k.widths k.order g e ∙ sym (length-b_literals k.widths k.order g shape)

pub sides_are_narrow : SidesAreNarrow
sides_are_narrow g k shape narrow =
    let wide_a = length-a_literals k.widths k.order g shape in
    let wide_b = length-b_literals k.widths k.order g shape in
    let wide_c = length-c_literals k.widths g shape in
    let low_a = narrow.a in
    let low_b = narrow.b in
    record {
      even = even_sides g k shape;
      narrow_a = omega arith;
      narrow_b = omega arith;
      addend = omega (arith, addend_low (has_addend k.widths) (a_width k.widths g + b_width k.widths g));
    }
