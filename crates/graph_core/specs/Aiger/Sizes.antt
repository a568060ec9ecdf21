-- The size of the graph that a text spells, for each profile.
use Rattle.std.specs.Prelude.{ℕ, ◌≤◌, Bool, List, length}
use Rattle.graph_core.specs.declared.bounds.TheConstants.{MOST_VARIABLES, MOST_INPUTS, MOST_OUTPUTS}
use Rattle.graph_core.specs.declared.profile.Profile.{Profile}
use Rattle.graph_core.specs.declared.profile.Profile.TheVariants.{Multiplier, MultiplyAdd, Given, Any}
use Rattle.graph_core.specs.Graph.{Aig}
use Rattle.graph_core.specs.Graph.Operands.{HasMultiplierShape, HasSumShape, HasGivenShape, width, sum_width}
use Rattle.graph_core.specs.Aiger.{Spells}

-- A multiplier's graph has operands of 1 to 64 bits.
pub record IsMultiplierSized (g : Aig) : Type 0 where
  pub shape : HasMultiplierShape g
  pub some : 1 ≤ width g
  pub narrow : width g ≤ 64
  pub small : g.max ≤ MOST_VARIABLES

-- With an addend it has such operands too.
pub record IsSumSized (g : Aig) : Type 0 where
  pub shape : HasSumShape g
  pub some : 1 ≤ sum_width g
  pub narrow : sum_width g ≤ 64
  pub small : g.max ≤ MOST_VARIABLES

-- Operands of given widths have 1 to 64 bits each.
pub record IsGivenSized (a : ℕ) (b : ℕ) (add : Bool) (g : Aig) : Type 0 where
  pub shape : HasGivenShape a b add g
  pub some_a : 1 ≤ a
  pub some_b : 1 ≤ b
  pub narrow_a : a ≤ 64
  pub narrow_b : b ≤ 64
  pub small : g.max ≤ MOST_VARIABLES

-- Any graph is within the bounds, and has an output.
pub record IsBounded (g : Aig) : Type 0 where
  pub few_inputs : length g.inputs ≤ MOST_INPUTS
  pub some_outputs : 1 ≤ length g.outputs
  pub few_outputs : length g.outputs ≤ MOST_OUTPUTS
  pub small : g.max ≤ MOST_VARIABLES

abbrev pub IsSizedAs : Profile → Aig → Type 0
IsSizedAs Multiplier g = IsMultiplierSized g
IsSizedAs MultiplyAdd g = IsSumSized g
IsSizedAs (Given a b add) g = IsGivenSized a b add g
IsSizedAs Any g = IsBounded g

-- A spelled graph is of its profile's size.
abbrev pub SpelledShape : Type 0
SpelledShape = (p : Profile) (bytes : List ℕ) (g : Aig) → Spells p bytes g → IsSizedAs p g
