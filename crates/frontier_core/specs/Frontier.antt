-- Frontiers: partial sums of columns in which some gates are eliminated.
use Rattle.std.specs.Prelude.{◌≡◌, ◌≢◌, ℕ, ◌+◌, ◌%◌, ◌<◌, ◌⊎◌, Bool, true, false, ◌&&◌, List, [], ◌∷◌, map, length, slice_get, ◌==◌, if◌then◌else◌}
use Rattle.std.specs.declared.option.Option.TheVariants.{Some}
use Rattle.std.specs.List.{All, AllPairs, Contains, filter}
use Rattle.graph_core.specs.declared.literal.Lit.{Lit}
use Rattle.graph_core.specs.declared.gate.Gate.{Gate}
use Rattle.graph_core.specs.Graph.Literals.{variable_of}
use Rattle.graph_core.specs.Graph.Assignments.{Assignment, literal}
use Rattle.graph_core.specs.Graph.{evaluation}
use Rattle.graph_core.specs.Graph.Operands.{Sides, ReadInputs}
use Rattle.graph_core.specs.Graph.Extended.{Extended, modulus}
use Rattle.ripple_graft.specs.Extension.{new_outputs, IsExtension}
use Rattle.frontier_core.specs.Sets.{has}
use Rattle.frontier_core.specs.Columns.{column_value, columns_sum}

-- The columns that were added and the gates that were eliminated: each gate that reads an eliminated one is
-- eliminated, and each column whose output is a literal of an eliminated one was added.
pub record IsFrontier (e : Extended) (added eliminated : List ℕ) : Type 0 where
  pub columns : All (λ k. k < length e.graph.outputs) added
  pub gates : All (λ v. has (map (λ x. x.v) e.gates) v ≡ true) eliminated
  pub columns_once : AllPairs ◌≢◌ added
  pub gates_once : AllPairs ◌≢◌ eliminated
  pub readers : All (λ x. (has eliminated (variable_of x.left) ≡ true) ⊎ (has eliminated (variable_of x.right) ≡ true) → has eliminated x.v ≡ true) e.gates
  pub outputs : (k : ℕ) (l : Lit) → slice_get (new_outputs e) k ≡ Some l → has eliminated (variable_of l) ≡ true → has added k ≡ true

-- the gates that are computed
abbrev pub gates_among : List ℕ → List Gate → List Gate
gates_among eliminated gates = filter (λ x. has eliminated x.v) gates

-- The frontier's function at an assignment, in which the eliminated gates are computed from the other variables.
abbrev pub frontier_value : Extended → Sides → List ℕ → List ℕ → Assignment → ℕ
frontier_value e s added eliminated σ =
    columns_sum (modulus e) s added 0 (new_outputs e) (evaluation (gates_among eliminated e.gates) σ) % modulus e

-- The frontier of all columns and all gates.
pub record IsLastFrontier (e : Extended) (added eliminated : List ℕ) : Type 0 where
  pub all_columns : (k : ℕ) → k < length e.graph.outputs → has added k ≡ true
  pub all_gates : All (λ x. has eliminated x.v ≡ true) e.gates

-- an assignment with one variable's value changed
abbrev pub set_to : ℕ → Bool → Assignment → Assignment
set_to v b σ w = if w == v then b else σ w

-- No column is added and no gate eliminated at first, and the function is 0.
abbrev pub FirstFrontier : Type 0
FirstFrontier = (e : Extended) → IsFrontier e [] [] × ((s : Sides) (σ : Assignment) → frontier_value e s [] [] σ ≡ 0)

-- A column that isn't added yet can be.
abbrev pub AddingLeavesFrontier : Type 0
AddingLeavesFrontier = (e : Extended) (added eliminated : List ℕ) (k : ℕ) → IsFrontier e added eliminated →
    k < length e.graph.outputs → has added k ≡ false → IsFrontier e (k ∷ added) eliminated

-- A gate that isn't eliminated yet can be, where its readers are and the columns whose output it is were added.
abbrev pub EliminatingLeavesFrontier : Type 0
EliminatingLeavesFrontier = (e : Extended) (added eliminated : List ℕ) (v : ℕ) → IsFrontier e added eliminated →
    has (map (λ x. x.v) e.gates) v ≡ true → has eliminated v ≡ false →
    All (λ x. (variable_of x.left ≡ v) ⊎ (variable_of x.right ≡ v) → has eliminated x.v ≡ true) e.gates →
    ((k : ℕ) (l : Lit) → slice_get (new_outputs e) k ≡ Some l → variable_of l ≡ v → has added k ≡ true) →
    IsFrontier e added (v ∷ eliminated)

-- Adding a column adds its value to the function: none of its variables is eliminated.
abbrev pub AddingAddsColumn : Type 0
AddingAddsColumn = (e : Extended) (s : Sides) (added eliminated : List ℕ) (k : ℕ) (o : Lit) (σ : Assignment) →
    IsExtension e → ReadInputs e.graph s → IsFrontier e added eliminated →
    slice_get (new_outputs e) k ≡ Some o → has added k ≡ false →
    frontier_value e s (k ∷ added) eliminated σ ≡ (frontier_value e s added eliminated σ + column_value e s k o σ) % modulus e

-- Eliminating a gate replaces its variable by the AND of its operands.
abbrev pub EliminatingComputesGate : Type 0
EliminatingComputesGate = (e : Extended) (s : Sides) (added eliminated : List ℕ) (x : Gate) (σ : Assignment) → IsExtension e → IsFrontier e added eliminated →
    Contains e.gates x → has eliminated x.v ≡ false →
    frontier_value e s added (x.v ∷ eliminated) σ ≡ frontier_value e s added eliminated (set_to x.v (literal σ x.left && literal σ x.right) σ)

-- The order of the columns and of the gates doesn't matter.
abbrev pub FrontierIsSet : Type 0
FrontierIsSet = (e : Extended) (added eliminated columns gates : List ℕ) → ((k : ℕ) → has added k ≡ has columns k) →
    ((v : ℕ) → has eliminated v ≡ has gates v) →
    ((s : Sides) (σ : Assignment) → frontier_value e s added eliminated σ ≡ frontier_value e s columns gates σ) ×
    (AllPairs ◌≢◌ columns → AllPairs ◌≢◌ gates → IsFrontier e added eliminated → IsFrontier e columns gates)
