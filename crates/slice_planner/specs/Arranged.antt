-- Gates in groups that stand next to each other. Private clauses alone cite this file.
use Rattle.std.specs.Prelude.{◌≡◌, ◌⊎◌, ℕ, ◌<◌, ◌≤◌, Bool, true, false, List, map, length, slice_index_or}
use Rattle.std.specs.List.{All, between}
use Rattle.graph_core.specs.declared.gate.Gate.{Gate}
use Rattle.graph_core.specs.declared.literal.Lit.{Lit}
use Rattle.graph_core.specs.Graph.Literals.{variable_of}
use Rattle.graph_core.specs.Graph.Extended.{Extended}
use Rattle.frontier_core.specs.Sets.{has}
use Rattle.slice_planner.specs.declared.arrangement.Part.{Part}

-- gates, and which of them are a group
pub record Arranged : Type 0 where
  pub gates : List Gate
  pub parts : List Part

abbrev pub arranged : List Gate → List Part → Arranged
arranged gates parts = record { gates = gates; parts = parts }

-- each part is one of the list
abbrev pub AreWithin : List Gate → List Part → Type 0
AreWithin gates parts = All (λ p. (p.start ≤ p.end) × (p.end ≤ length gates)) parts

-- the gates of each part
abbrev pub pieces : List Gate → List Part → List (List Gate)
pieces gates parts = map (λ p. between p.start p.end gates) parts

abbrev pub groups_in : Arranged → List (List Gate)
groups_in a = pieces a.gates a.parts

abbrev pub variables : List Gate → List ℕ
variables gates = map (λ x. x.v) gates

-- the variables of each group
abbrev pub lists_in : Arranged → List (List ℕ)
lists_in a = map variables (groups_in a)

-- an operand is a gate's
abbrev pub ReadsGate : List Gate → Gate → Type 0
ReadsGate gates x = (has (variables gates) (variable_of x.left) ≡ true) ⊎ (has (variables gates) (variable_of x.right) ≡ true)

-- a literal is that of a gate that a table doesn't have
abbrev pub IsLater : Extended → List Bool → Lit → Type 0
IsLater e table l = (has (variables e.gates) (variable_of l) ≡ true) × (variable_of l < length table) × (slice_index_or table (variable_of l) false ≡ false)
