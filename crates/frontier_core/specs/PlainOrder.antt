-- The plain order of gates, in which each stands before those that it reads.
use Rattle.std.specs.Prelude.{◌≡◌, ◌≢◌, ℕ, ◌<◌, ◌≤◌, ◌⊎◌, true, List, map, length, take, slice_get}
use Rattle.std.specs.declared.option.Option.TheVariants.{Some}
use Rattle.std.specs.List.{All, AllPairs}
use Rattle.std.specs.List.Sorted.{IsPermutation}
use Rattle.graph_core.specs.declared.gate.Gate.{Gate}
use Rattle.graph_core.specs.Graph.Literals.{variable_of}
use Rattle.graph_core.specs.Graph.{IsLevel, IsAcyclic}
use Rattle.graph_core.specs.Graph.Operands.{Sides}
use Rattle.algebra_core.specs.NormalForm.{HasSize}
use Rattle.graph_core.specs.Graph.Extended.{Extended, modulus}
use Rattle.ripple_graft.specs.Extension.{IsExtension}
use Rattle.frontier_core.specs.Sets.{has}
use Rattle.frontier_core.specs.Columns.{all_columns}
use Rattle.frontier_core.specs.Frontier.{IsFrontier, IsLastFrontier, frontier_value}

-- a gate comes before another: by greater level, ties by greater variable
abbrev pub ComesBefore : List Gate → ℕ → ℕ → Type 0
ComesBefore gates v w = (i j : ℕ) → IsLevel gates v i → IsLevel gates w j → (j < i) ⊎ ((i ≡ j) × (w < v))

-- The gates' variables in the plain order.
abbrev pub IsPlainOrder : List Gate → List ℕ → Type 0
IsPlainOrder gates vs = IsPermutation vs (map (λ x. x.v) gates) × AllPairs (ComesBefore gates) vs

-- The size of the plain order's frontier: all columns are added, and the first t gates eliminated.
abbrev pub HasPlainSize : Extended → Sides → ℕ → ℕ → Type 0
HasPlainSize e s t n = (vs : List ℕ) × IsPlainOrder e.gates vs × HasSize (modulus e) (frontier_value e s (all_columns e) (take t vs)) n

-- Acyclic gates of different variables have a plain order.
abbrev pub PlainOrderExists : Type 0
PlainOrderExists = (gates : List Gate) → IsAcyclic gates → AllPairs ◌≢◌ (map (λ x. x.v) gates) → (vs : List ℕ) × IsPlainOrder gates vs

-- There is at most one.
abbrev pub PlainOrderIsOne : Type 0
PlainOrderIsOne = (gates : List Gate) (vs ws : List ℕ) → IsAcyclic gates → IsPlainOrder gates vs → IsPlainOrder gates ws → vs ≡ ws

-- After all columns, the gates one by one in the plain order leave a frontier each time, and all of them the last one.
abbrev pub PlainOrderLeavesFrontiers : Type 0
PlainOrderLeavesFrontiers = (e : Extended) (vs : List ℕ) (t : ℕ) → IsExtension e → IsPlainOrder e.gates vs →
    IsFrontier e (all_columns e) (take t vs) × (length e.gates ≤ t → IsLastFrontier e (all_columns e) (take t vs))

-- Whatever gates were eliminated before: where all that come before a gate in the plain order are, its readers are.
abbrev pub PlainOrderFinishes : Type 0
PlainOrderFinishes = (e : Extended) (eliminated vs : List ℕ) (t v : ℕ) → IsAcyclic e.gates → IsPlainOrder e.gates vs →
    All (λ w. has eliminated w ≡ true) (take t vs) →
    slice_get vs t ≡ Some v → All (λ x. (variable_of x.left ≡ v) ⊎ (variable_of x.right ≡ v) → has eliminated x.v ≡ true) e.gates
