-- What is kept while the steps of a slice plan are taken. Private clauses alone cite this file.
use Rattle.std.specs.Prelude.{◌≡◌, ℕ, zero, suc, ◌+◌, ◌<◌, ◌≤◌, Bool, true, false, List, [], ◌∷◌, ◌++◌, length, slice_index_or, if◌then◌else◌, ◌==◌}
use Rattle.graph_core.specs.declared.gate.Gate.{Gate}
use Rattle.graph_core.specs.declared.literal.Lit.{Lit}
use Rattle.graph_core.specs.Graph.Extended.{Extended}
use Rattle.graph_core.specs.Graph.Literals.{variable_of}
use Rattle.ripple_graft.specs.Extension.{new_outputs}
use Rattle.frontier_core.specs.declared.step.Step.{Step}
use Rattle.frontier_core.specs.Plan.{AreSteps, nothing, taken}
use Rattle.frontier_core.specs.Sets.{has}
use Rattle.slice_planner.specs.GroupPlans.{AreAtGroups}
use Rattle.slice_planner.specs.SlicePlan.{columns_added, count_down}

-- The steps so far over an extended graph, and from which column on the columns were added.
pub record Took : Type 0 where
  pub extended : Extended
  pub steps : List Step
  pub below : ℕ

abbrev pub took : Extended → List Step → ℕ → Took
took e steps below = record { extended = e; steps = steps; below = below }

-- ---- what reads a variable

-- 1 where the two are one
abbrev pub is_one : ℕ → ℕ → ℕ
is_one u v = if u == v then 1 else 0

-- of how many of a gate's operands it is the variable
abbrev pub read_by_gate : Gate → ℕ → ℕ
read_by_gate x v = is_one (variable_of x.left) v + is_one (variable_of x.right) v

-- of how many operands of gates that aren't eliminated
abbrev pub read_by_gates : List Gate → List ℕ → ℕ → ℕ
read_by_gates [] eliminated v = 0
read_by_gates (x ∷ gates) eliminated v = (if has eliminated x.v then 0 else read_by_gate x v) + read_by_gates gates eliminated v

-- of how many of the first k outputs
abbrev pub read_by_columns : List Lit → ℕ → ℕ → ℕ
read_by_columns [] k v = 0
read_by_columns (l ∷ ls) zero v = 0
read_by_columns (l ∷ ls) (suc k) v = is_one (variable_of l) v + read_by_columns ls k v

-- how often gates that aren't eliminated and columns that aren't added read a variable
abbrev pub still_read : Took → ℕ → ℕ
still_read t v = read_by_gates t.extended.gates (taken nothing t.steps).eliminated v + read_by_columns (new_outputs t.extended) t.below v

-- The steps follow one another, their columns are the last ones, from the last down, and the tables say which gates were eliminated and what
-- is still read.
pub record IsTaking (t : Took) (gone : List Bool) (readers : List ℕ) : Type 0 where
  pub follow : AreSteps t.extended nothing t.steps
  pub low : t.below ≤ length t.extended.graph.outputs
  pub columns : columns_added t.steps ++ count_down t.below ≡ count_down (length t.extended.graph.outputs)
  pub added : (k : ℕ) → k < length t.extended.graph.outputs → t.below ≤ k → has (taken nothing t.steps).added k ≡ true
  pub ahead : (k : ℕ) → k < t.below → has (taken nothing t.steps).added k ≡ false
  pub gone_room : length gone ≡ t.extended.max + 1
  pub readers_room : length readers ≡ t.extended.max + 1
  pub is_gone : (v : ℕ) → slice_index_or gone v false ≡ has (taken nothing t.steps).eliminated v
  pub reads : (v : ℕ) → slice_index_or readers v 0 ≡ still_read t v

-- The variable's gate isn't eliminated, and nothing reads it any more.
abbrev pub IsReadyGate : Took → ℕ → Type 0
IsReadyGate t v = (has (taken nothing t.steps).eliminated v ≡ false) × (still_read t v ≡ 0)

-- A table has one more at a variable, or one less.
pub record Raises (v : ℕ) (old new : List ℕ) : Type 0 where
  pub room : length new ≡ length old
  pub each : (w : ℕ) → slice_index_or new w 0 ≡ is_one v w + slice_index_or old w 0

pub record LowersByOne (v : ℕ) (old new : List ℕ) : Type 0 where
  pub room : length new ≡ length old
  pub each : (w : ℕ) → slice_index_or old w 0 ≡ is_one v w + slice_index_or new w 0

-- Steps that end between two groups still do.
abbrev pub StaysAtGroups : Took → Took → Type 0
StaysAtGroups old new = (gs : List (List ℕ)) → AreAtGroups old.extended gs old.steps → AreAtGroups old.extended gs new.steps
