-- A made graph's gates, and their groups.
use Rattle.std.specs.Prelude.{ℕ, ◌<◌}
use Rattle.graph_core.specs.Graph.{Aig, SameUpToOperands}
use Rattle.graph_maker.specs.declared.kind.Kind.{Kind}
use Rattle.graph_maker.specs.declared.adder.Adder.TheVariants.{Ripple}
use Rattle.graph_maker.specs.Made.{made}
use Rattle.slice_planner.specs.AdderLists.{AreAddersAndProducts}
use Rattle.slice_planner.specs.GroupPlans.{AreInOrder}

-- A made graph's gates are in such an order.
abbrev pub MadeGatesAreInOrder : Type 0
MadeGatesAreInOrder = (kind : Kind) (n : ℕ) (g : Aig) → 0 < n → SameUpToOperands (made kind n Ripple) g → AreInOrder g.gates

-- They are adders and products of inputs.
abbrev pub MadeGroupsAreAdders : Type 0
MadeGroupsAreAdders = (kind : Kind) (n : ℕ) (g : Aig) → 0 < n → SameUpToOperands (made kind n Ripple) g → AreAddersAndProducts g.gates
