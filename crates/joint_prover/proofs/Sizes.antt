-- What a graph's size says, for each claim.
use Rattle.std.proofs.Common.{◌≤◌, true, false, length, arith}
use Rattle.graph_core.specs.declared.bounds.TheConstants.{MOST_INPUTS, MOST_VARIABLES}
use Rattle.graph_core.specs.declared.widths.Widths.{Widths}
use Rattle.graph_core.specs.declared.widths.Widths.TheVariants.{Equal, Given}
use Rattle.graph_core.specs.Aiger.Sizes.{IsSizedAs}
use Rattle.graph_core.specs.Graph.{Aig}
use Rattle.graph_core.specs.Graph.Operands.{a_width, b_width, profile_of}

pub some_bits : (w : Widths) (g : Aig) → IsSizedAs (profile_of w) g → (1 ≤ a_width w g) × (1 ≤ b_width w g)
some_bits (Equal false) g sized = (sized.some, sized.some)
some_bits (Equal true) g sized = (sized.some, sized.some)
some_bits (Given a b add) g sized = (sized.some_a, sized.some_b)

pub some_outputs : (w : Widths) (g : Aig) → IsSizedAs (profile_of w) g → 1 ≤ length g.outputs
some_outputs (Equal false) g sized = sized.shape.some_outputs
some_outputs (Equal true) g sized = sized.shape.some_outputs
some_outputs (Given a b add) g sized = sized.shape.some_outputs

pub few_outputs : (w : Widths) (g : Aig) → IsSizedAs (profile_of w) g → length g.outputs ≤ 128
few_outputs (Equal false) g sized = let n = sized.narrow in let few = sized.shape.outputs in omega arith
few_outputs (Equal true) g sized = let n = sized.narrow in let few = sized.shape.outputs in omega arith
few_outputs (Given a b add) g sized = let n = sized.narrow_a in let m = sized.narrow_b in let few = sized.shape.outputs in omega arith

pub few_inputs : (w : Widths) (g : Aig) → IsSizedAs (profile_of w) g → length g.inputs ≤ MOST_INPUTS
few_inputs (Equal false) g sized = let n = sized.narrow in let all = sized.shape.inputs in omega arith
few_inputs (Equal true) g sized = let n = sized.narrow in let all = sized.shape.inputs in omega arith
few_inputs (Given a b false) g sized = let n = sized.narrow_a in let m = sized.narrow_b in let all = sized.shape.inputs in omega arith
few_inputs (Given a b true) g sized = let n = sized.narrow_a in let m = sized.narrow_b in let all = sized.shape.inputs in omega arith

pub few_variables : (w : Widths) (g : Aig) → IsSizedAs (profile_of w) g → g.max ≤ MOST_VARIABLES
few_variables (Equal false) g sized = sized.small
few_variables (Equal true) g sized = sized.small
few_variables (Given a b add) g sized = sized.small
