-- The literals of operands and addend are the inputs, in their order.
use Rattle.std.specs.Prelude.{◌≡◌, ◌+◌, List, ◌++◌, length}
use Rattle.std.proofs.Common.{ap, ◌∙◌, arith, length-append}
use Rattle.graph_core.specs.declared.order.Order.{Order}
use Rattle.graph_core.specs.declared.order.Order.TheVariants.{Separate, Interleaved}
use Rattle.graph_core.specs.Graph.{Aig}
use Rattle.graph_core.specs.Graph.Operands.{Sides, AreOperandsOf, HasShapeFor, in_order, inputs_in, operand_literals, order_of}
use Rattle.graph_core.proofs.OfGraphs.Multiplies.{sides_are_inputs}
use Rattle.graph_core.proofs.OfGraphs.OperandBits.{length-alternate}

pub length-in_order : {X : Type 0} (order : Order) (xs ys : List X) → length (in_order order xs ys) ≡ length xs + length ys
length-in_order Separate xs ys = length-append xs ys
length-in_order Interleaved xs ys = length-alternate xs ys

-- the literals of operands and addend, in the order of the inputs or not
pub length-literals_in : (s : Sides) → length (operand_literals s) ≡ length (inputs_in s)
length-literals_in s =
    omega (arith, length-append s.a (s.b ++ s.c), length-append s.b s.c, length-append (in_order (order_of s.claim) s.a s.b) s.c, length-in_order (order_of s.claim) s.a s.b)

pub are_inputs : (g : Aig) (s : Sides) → HasShapeFor s.claim.widths g → AreOperandsOf g s → inputs_in s ≡ g.inputs
are_inputs g s shape of = ap inputs_in of ∙ sides_are_inputs g s.claim shape

-- there are as many literals of operands and addend as inputs
pub length-literals : (g : Aig) (s : Sides) → HasShapeFor s.claim.widths g → AreOperandsOf g s → length (operand_literals s) ≡ length g.inputs
length-literals g s shape of = length-literals_in s ∙ ap length (are_inputs g s shape of)
