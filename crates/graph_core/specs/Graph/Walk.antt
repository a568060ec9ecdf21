-- A walk over gates, from each to those that it reads. No public clause cites it.
use Rattle.std.specs.Prelude.{◌≡◌, ◌≢◌, ℕ, ◌+◌, ◌<◌, ◌⊎◌, List, [], ◌∷◌, ◌++◌, map, take, length, slice_index, slice_index_or, slice_set, if◌then◌else◌, ◌==◌}
use Rattle.std.specs.List.{All, AllPairs, Contains}
use Rattle.graph_core.specs.declared.gate.Gate.{Gate}
use Rattle.graph_core.specs.declared.fault.GraphFault.{GraphFault}
use Rattle.graph_core.specs.declared.fault.GraphFault.TheVariants as fault
use Rattle.graph_core.specs.declared.graph.schedule.Mark.{Mark}
use Rattle.graph_core.specs.declared.graph.schedule.Mark.TheVariants.{New, Open, Done}
use Rattle.graph_core.specs.Graph.Literals.{variable_of}
use Rattle.graph_core.specs.Graph.{IsFree}
use Rattle.graph_core.specs.Aiger.Refusal.{HasLevel}
use Rattle.graph_core.specs.Graph.Tables.{IsPlace, IsSettled}

-- What a walk has: the gates, a mark for each variable, the path to where it is, and the scheduled gates.
pub record Visits : Type 0 where
  pub gates : List Gate
  pub marks : List Mark
  pub path : List Gate
  pub schedule : List Gate

abbrev pub visits : List Gate → List Mark → List Gate → List Gate → Visits
visits gates marks path schedule = record { gates = gates; marks = marks; path = path; schedule = schedule }

abbrev pub mark_of : Visits → ℕ → Mark
mark_of w v = slice_index_or w.marks v Done

-- a variable's mark before the walk, by its number in the table of places
abbrev pub first_mark : ℕ → Mark
first_mark n = if n == 0 then Done else New

-- A gate's variable and those of its operands are below a bound.
pub record FitsPlaces (n : ℕ) (x : Gate) : Type 0 where
  pub own : x.v < n
  pub left : variable_of x.left < n
  pub right : variable_of x.right < n

-- The table has the places of the gates.
pub record AreGatePlaces (gates : List Gate) (n : ℕ) (places : List ℕ) : Type 0 where
  pub size : length places ≡ n
  pub each : (v : ℕ) → v < n → IsPlace gates v (slice_index places v)

-- The gate reads the variable.
abbrev pub ReadsVariable : Gate → ℕ → Type 0
ReadsVariable x v = (variable_of x.left ≡ v) ⊎ (variable_of x.right ≡ v)

pub record AreVisits (w : Visits) : Type 0 where
  pub in_range : All (FitsPlaces (length w.marks)) w.gates
  pub distinct : AllPairs ◌≢◌ (map (λ x. x.v) w.gates)
  -- what is done: variables of no gate, and those of the scheduled gates, each after those that it reads
  pub free : (v : ℕ) → IsFree w.gates v → mark_of w v ≡ Done
  pub done : (v : ℕ) → mark_of w v ≡ Done → IsSettled w.gates w.schedule v
  pub some : All (Contains w.gates) w.schedule
  pub scheduled : All (λ x. mark_of w x.v ≡ Done) w.schedule
  pub once : AllPairs ◌≢◌ (map (λ x. x.v) w.schedule)
  pub left : (i : ℕ) (d : Gate) → i < length w.schedule → IsSettled w.gates (take i w.schedule) (variable_of (slice_index_or w.schedule i d).left)
  pub right : (i : ℕ) (d : Gate) → i < length w.schedule → IsSettled w.gates (take i w.schedule) (variable_of (slice_index_or w.schedule i d).right)
  -- the path: different gates, each of which reads the next
  pub on_path : All (Contains w.gates) w.path
  pub «open» : All (λ x. mark_of w x.v ≡ Open) w.path
  pub opened : (v : ℕ) → mark_of w v ≡ Open → Contains (map (λ x. x.v) w.path) v
  pub apart : AllPairs ◌≢◌ (map (λ x. x.v) w.path)
  pub chain : (i : ℕ) (d : Gate) → i + 1 < length w.path → ReadsVariable (slice_index_or w.path i d) (slice_index_or w.path (i + 1) d).v

-- A gate is put on the path.
abbrev pub entered : Visits → Gate → Visits
entered w x = record { gates = w.gates; marks = slice_set w.marks x.v Open; path = w.path ++ x ∷ []; schedule = w.schedule }

-- The last gate of a path is scheduled.
abbrev pub left : Visits → List Gate → Gate → Visits
left w front x = record { gates = w.gates; marks = slice_set w.marks x.v Done; path = front; schedule = w.schedule ++ x ∷ [] }

-- What was reached stays so.
pub record KeepsReached (old new : Visits) : Type 0 where
  pub gates : new.gates ≡ old.gates
  pub size : length new.marks ≡ length old.marks
  pub reached : (v : ℕ) → mark_of old v ≢ New → mark_of new v ≢ New

-- The fault is the least variable without a level.
abbrev pub IsCycle : List Gate → ℕ → GraphFault → Type 0
IsCycle gates n f = (v : ℕ) × (f ≡ fault.Cycle v) × (v < n) × ¬ (HasLevel gates v) × ((w : ℕ) → w < v → HasLevel gates w)
