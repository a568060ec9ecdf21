-- Lists of gates that are adders and products of inputs.
use Rattle.std.specs.Prelude.{◌≡◌, false, List, [], ◌∷◌, map}
use Rattle.std.specs.List.{All, Any}
use Rattle.graph_core.specs.declared.gate.Gate.{Gate}
use Rattle.graph_core.specs.Graph.Literals.{variable_of}
use Rattle.frontier_core.specs.Sets.{has}
use Rattle.slice_planner.specs.Groups.{groups}

-- the gate reads inputs and constants alone
abbrev pub ReadsNoGate : List Gate → Gate → Type 0
ReadsNoGate gates x = (has (map (λ y. y.v) gates) (variable_of x.left) ≡ false) × (has (map (λ y. y.v) gates) (variable_of x.right) ≡ false)

-- A gate that is a group alone reads no gate: so the groups are half and full adders and products of inputs.
abbrev pub AreAddersAndProducts : List Gate → Type 0
AreAddersAndProducts gates = All (λ x. Any (λ group. group ≡ x.v ∷ []) (groups gates) → ReadsNoGate gates x) gates
