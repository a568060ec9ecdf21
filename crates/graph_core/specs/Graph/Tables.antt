-- The tables that a graph keeps beside its lists. Of these a public clause cites IsSchedule alone.
use Rattle.std.specs.Prelude.{◌≡◌, ◌≢◌, ◌==◌, ℕ, suc, ◌+◌, ◌<◌, ◌≤◌, ◌⊎◌, List, [], ◌∷◌, map, take, length, slice_index, slice_index_or}
use Rattle.std.specs.List.{All, AllPairs, Contains, count_by, flat_map}
use Rattle.graph_core.specs.declared.literal.Lit.{Lit}
use Rattle.graph_core.specs.declared.gate.Gate.{Gate}
use Rattle.graph_core.specs.Graph.Literals.{variable_of}
use Rattle.graph_core.specs.Graph.{Aig, IsFree, IsLevel, IsBuilt, reader_count}

abbrev pub aig : ℕ → List Lit → List Lit → List Gate → Aig
aig max inputs outputs gates = record { max = max; inputs = inputs; outputs = outputs; gates = gates }

-- What is kept of each variable, and the gates in an order in which operands come first.
pub record Tables : Type 0 where
  pub places : List ℕ
  pub levels : List ℕ
  pub readers : List ℕ
  pub schedule : List Gate

abbrev pub tables : List ℕ → List ℕ → List ℕ → List Gate → Tables
tables places levels readers schedule = record { places = places; levels = levels; readers = readers; schedule = schedule }

-- A table has a place for each variable up to the greatest, and for the constant.
abbrev pub IsTable : ℕ → (ℕ → ℕ → Type 0) → List ℕ → Type 0
IsTable max P table = (length table ≡ max + 1) × ((v : ℕ) → v ≤ max → P v (slice_index table v))

-- At place n - 1 is the gate with the variable; n is 0 where there is none.
pub record IsPlace (gates : List Gate) (v n : ℕ) : Type 0 where
  pub none : n ≡ 0 → IsFree gates v
  pub some : (k : ℕ) → n ≡ suc k → (k < length gates) × ((d : Gate) → (slice_index_or gates k d).v ≡ v)

-- The variable is no gate's, or that of one of the gates that are done.
abbrev pub IsSettled : List Gate → List Gate → ℕ → Type 0
IsSettled gates done v = IsFree gates v ⊎ Contains (map (λ x. x.v) done) v

-- A gate's variable and those of its operands have places in the tables.
pub record FitsTable (max : ℕ) (x : Gate) : Type 0 where
  pub own : x.v ≤ max
  pub left : variable_of x.left ≤ max
  pub right : variable_of x.right ≤ max

-- Gates of which each stands after those that it reads.
pub record IsOrdered (gates : List Gate) : Type 0 where
  pub left : (i : ℕ) (d : Gate) → i < length gates → IsSettled gates (take i gates) (variable_of (slice_index_or gates i d).left)
  pub right : (i : ℕ) (d : Gate) → i < length gates → IsSettled gates (take i gates) (variable_of (slice_index_or gates i d).right)

-- The same gates, once each, after those that they read.
pub record IsSchedule (gates schedule : List Gate) : Type 0 where
  pub some : All (Contains gates) schedule
  pub all : All (Contains schedule) gates
  pub once : AllPairs ◌≢◌ (map (λ x. x.v) schedule)
  pub ordered : IsOrdered schedule

-- the literals that gates read
abbrev pub gates_read : List Gate → List Lit
gates_read gates = flat_map (λ x. x.left ∷ x.right ∷ []) gates

-- The table has how often each variable is read.
abbrev pub AreCounts : List Lit → List ℕ → Type 0
AreCounts read table = (v : ℕ) → v < length table → slice_index table v ≡ count_by (λ l. variable_of l == v) read

pub record HasTables (g : Aig) (t : Tables) : Type 0 where
  pub built : IsBuilt g
  pub places : IsTable g.max (IsPlace g.gates) t.places
  pub levels : IsTable g.max (IsLevel g.gates) t.levels
  pub readers : IsTable g.max (λ v n. n ≡ reader_count g v) t.readers
  pub schedule : IsSchedule g.gates t.schedule
