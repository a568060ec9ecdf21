-- A graph that a text spells is of the size of its profile.
use Rattle.std.specs.Prelude.{ℕ, ◌+◌, Bool, true, false, List, length}
use Rattle.std.proofs.Common.{sym, subst, arith}
use Rattle.graph_core.specs.declared.profile.Profile.{Profile}
use Rattle.graph_core.specs.declared.profile.Profile.TheVariants.{Multiplier, MultiplyAdd, Given, Any}
use Rattle.graph_core.specs.Graph.{Aig, IsWellFormed}
use Rattle.graph_core.specs.declared.widths.Widths.{Widths}
use Rattle.graph_core.specs.declared.widths.Widths.TheVariants.{Equal, Given as OfWidths}
use Rattle.graph_core.specs.Graph.Operands.{HasMultiplierShape, HasSumShape, HasShapeFor, AreNarrow, profile_of}
use Rattle.graph_core.specs.Aiger.{Listing, HasCounts, Spells, are_widths, given_inputs, graph_of}
use Rattle.graph_core.specs.Aiger.Sizes.{IsSizedAs, SpelledShape}
use Rattle.graph_core.proofs.OfAiger.GivenWidths.{both_widths, outputs_low, passed}

pub shape_of : (g : Listing) → HasCounts Multiplier g → HasMultiplierShape (graph_of g)
shape_of g counts = record { inputs = omega (arith, counts.step); some_outputs = omega (arith, counts.some_outputs); outputs = omega (arith, counts.step, counts.outputs) }

pub sum_shape_of : (g : Listing) → HasCounts MultiplyAdd g → HasSumShape (graph_of g)
sum_shape_of g counts = record { inputs = omega (arith, counts.step); some_outputs = omega (arith, counts.some_outputs); outputs = omega (arith, counts.step, counts.outputs) }

pub well_formed : (p : Profile) (bytes : List ℕ) (g : Aig) → Spells p bytes g → IsWellFormed g
well_formed p bytes g spells = subst IsWellFormed (sym spells.3) spells.2.graph

given_sized : (a b : ℕ) (add : Bool) (g : Listing) → HasCounts (Given a b add) g → IsSizedAs (Given a b add) (graph_of g)
given_sized a b add g counts =
    let fits = passed (are_widths a b) (given_inputs a b add) (length g.inputs) counts.some counts.few in
    let widths = both_widths a b fits.0 in
    record {
      shape = record { inputs = fits.1; some_outputs = omega (arith, counts.some_outputs); outputs = outputs_low add (a + b) (length g.inputs) (length g.outputs) fits.1 counts.outputs };
      some_a = widths.0.0;
      some_b = widths.1.0;
      narrow_a = widths.0.1;
      narrow_b = widths.1.1;
      small = counts.max;
    }

sized : (p : Profile) (g : Listing) → HasCounts p g → IsSizedAs p (graph_of g)
sized Multiplier g counts =
    let step = counts.step in
    let some = counts.some in
    let few = counts.few in
    record { shape = shape_of g counts; some = omega arith; narrow = omega arith; small = counts.max }
sized MultiplyAdd g counts =
    let step = counts.step in
    let some = counts.some in
    let few = counts.few in
    record { shape = sum_shape_of g counts; some = omega arith; narrow = omega arith; small = counts.max }
sized (Given a b add) g counts = given_sized a b add g counts
sized Any g counts = record { few_inputs = counts.few; some_outputs = omega (arith, counts.some_outputs); few_outputs = counts.outputs; small = counts.max }

pub spelled_shape : SpelledShape
spelled_shape p bytes g spells = subst (IsSizedAs p) (sym spells.3) (sized p spells.0 spells.1.2)

-- the shape that a claim asks for is that of its profile
pub shape_for : (w : Widths) (g : Aig) → IsSizedAs (profile_of w) g → HasShapeFor w g
shape_for (Equal false) g sized = sized.shape
shape_for (Equal true) g sized = sized.shape
shape_for (OfWidths a b add) g sized = sized.shape

-- and its operands are narrow
pub narrow_for : (w : Widths) (g : Aig) → IsSizedAs (profile_of w) g → AreNarrow w g
narrow_for (Equal false) g sized = record { a = sized.narrow; b = sized.narrow }
narrow_for (Equal true) g sized = record { a = sized.narrow; b = sized.narrow }
narrow_for (OfWidths a b add) g sized = record { a = sized.narrow_a; b = sized.narrow_b }
