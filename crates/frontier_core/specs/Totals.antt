-- What the gap is once all columns were added.
use Rattle.std.specs.Prelude.{◌≡◌, ℕ, ◌<◌, true, List, length}
use Rattle.graph_core.specs.Graph.Assignments.{Assignment}
use Rattle.graph_core.specs.Graph.Operands.{Sides}
use Rattle.algebra_core.specs.Polynomials.{difference}
use Rattle.graph_core.specs.Graph.Extended.{Extended, modulus}
use Rattle.algebra_core.specs.AlgebraLines.{specification}
use Rattle.frontier_core.specs.Sets.{has}
use Rattle.frontier_core.specs.Pending.{gap}

-- Once all columns were added the gap is the specification minus the rest.
abbrev pub TotalEnds : Type 0
TotalEnds = (e : Extended) (s : Sides) (added : List ℕ) (rest : Assignment → ℕ) → ((k : ℕ) → k < length e.graph.outputs → has added k ≡ true) →
    ((σ : Assignment) → gap e s added rest σ ≡ difference (modulus e) (specification e s σ) (rest σ)) ×
    (((σ : Assignment) → rest σ ≡ 0) → (σ : Assignment) → gap e s added rest σ ≡ specification e s σ)
