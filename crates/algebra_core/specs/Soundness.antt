-- What a vanishing specification means for the graph that a text spells.
use Rattle.std.specs.Prelude.{◌≡◌, ℕ, List}
use Rattle.graph_core.specs.declared.order.Order.{Order}
use Rattle.graph_core.specs.declared.profile.Profile.{Profile}
use Rattle.graph_core.specs.declared.profile.Profile.TheVariants.{Multiplier}
use Rattle.graph_core.specs.Graph.Assignments.{Assignment}
use Rattle.graph_core.specs.Graph.{Aig, IsEvaluation}
use Rattle.graph_core.specs.Graph.Operands.{Sides, sides_of, MeetsClaim, Multiplies}
use Rattle.graph_core.specs.Graph.Extended.{without_cut}
use Rattle.graph_core.specs.Aiger.{Spells}
use Rattle.algebra_core.specs.AlgebraLines.{specification}

-- Where a text spells a graph and the specification vanishes on each of its evaluations, the graph meets the claim.
abbrev pub VanishingMeetsClaim : Type 0
VanishingMeetsClaim = (p : Profile) (bytes : List ℕ) (g : Aig) (s : Sides) → Spells p bytes g →
    ((σ : Assignment) → IsEvaluation g.gates σ → specification (without_cut g) s σ ≡ 0) → MeetsClaim g s

-- So a multiplier's graph, with the operands under an order of its inputs, multiplies.
abbrev pub VanishingMultiplies : Type 0
VanishingMultiplies = (bytes : List ℕ) (g : Aig) (order : Order) → Spells Multiplier bytes g →
    ((σ : Assignment) → IsEvaluation g.gates σ → specification (without_cut g) (sides_of order g) σ ≡ 0) → Multiplies g order
