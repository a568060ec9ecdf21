-- Plans over made graphs with a ripple-carry adder: every frontier is small, and the last one is 0.
use Rattle.std.specs.Prelude.{◌≡◌, ℕ, ◌+◌, ◌*◌, ◌<◌, ◌≤◌, List, take}
use Rattle.graph_core.specs.declared.order.Order.TheVariants.{Separate}
use Rattle.graph_core.specs.Graph.{Aig, SameUpToOperands, IsWellFormed}
use Rattle.graph_core.specs.Graph.Extended.{without_cut, modulus}
use Rattle.algebra_core.specs.NormalForm.{HasSize}
use Rattle.graph_core.specs.Graph.Assignments.{Assignment}
use Rattle.graph_core.specs.Graph.Operands.{sides_of}
use Rattle.frontier_core.specs.declared.step.Step.{Step}
use Rattle.frontier_core.specs.Frontier.{frontier_value}
use Rattle.frontier_core.specs.Plan.{nothing, taken, value_of_taken, AreSteps, IsPlan}
use Rattle.graph_maker.specs.declared.kind.Kind.{Kind}
use Rattle.graph_maker.specs.declared.adder.Adder.TheVariants.{Ripple}
use Rattle.graph_maker.specs.Made.{made}
use Rattle.slice_planner.specs.Groups.{groups, AreByGroups}
use Rattle.slice_planner.specs.Slices.{IsSlicePlan}

-- While steps over a made graph with a ripple-carry adder go by its groups, each frontier has few monomials.
abbrev pub MadeSlicesAreSmall : Type 0
MadeSlicesAreSmall = (kind : Kind) (n : ℕ) (g : Aig) (steps : List Step) (size : ℕ) → 0 < n → SameUpToOperands (made kind n Ripple) g →
    AreSteps (without_cut g) nothing steps → AreByGroups (groups g.gates) (taken nothing steps).eliminated →
    HasSize (modulus (without_cut g)) (frontier_value (without_cut g) (sides_of Separate g) (taken nothing steps).added
    (taken nothing steps).eliminated) size → size ≤ 8 * n * n + 64

-- So for every slice plan.
abbrev pub SlicePlansAreSmall : Type 0
SlicePlansAreSmall = (kind : Kind) (n : ℕ) (g : Aig) (steps : List Step) (t size : ℕ) → 0 < n →
    SameUpToOperands (made kind n Ripple) g → IsSlicePlan (without_cut g) steps →
    HasSize (modulus (without_cut g)) (value_of_taken (without_cut g) (sides_of Separate g) (taken nothing (take t steps))) size → size ≤ 8 * n * n + 64

-- And the last frontier of every plan over such a graph is 0 at every assignment.
abbrev pub MadeRestIsZero : Type 0
MadeRestIsZero = (kind : Kind) (n : ℕ) (g : Aig) (steps : List Step) (σ : Assignment) → 0 < n →
    SameUpToOperands (made kind n Ripple) g → IsWellFormed g → IsPlan (without_cut g) steps →
    frontier_value (without_cut g) (sides_of Separate g) (taken nothing steps).added (taken nothing steps).eliminated σ ≡ 0
