-- What the lists of a graph without faults give to the making of its tables.
use Rattle.std.specs.Prelude.{◌≡◌, ◌≢◌, ℕ, ◌+◌, ◌<◌, ◌≤◌, List, ◌∷◌, ◌++◌, map, length, slice_index, slice_index_or}
use Rattle.std.specs.List.{All, AllByRecursion, AllPairs, Contains}
use Rattle.std.proofs.Common.{arith, inl, inr, eqb, eqb-true, true}
use Rattle.std.proofs.lemmas.List.{length-map}
use Rattle.std.proofs.lemmas.List.Elements.{All-contains, All-map, Contains-get_or, recursion_from_All}
use Rattle.std.proofs.lemmas.List.Kept.{AllPairs-cons}
use Rattle.std.proofs.lemmas.Bool.Decides.{Decides-eqb}
use Rattle.graph_core.specs.declared.gate.Gate.{Gate}
use Rattle.graph_core.specs.Graph.Literals.{variable_of}
use Rattle.graph_core.specs.Graph.{Aig, IsLevel, free, above, IsBuilt}
use Rattle.graph_core.specs.Graph.Tables.{HasTables, IsTable, IsPlace, IsSchedule, FitsTable, AreCounts, gates_read}
use Rattle.graph_core.proofs.OfGraphs.WellFormedGates.{gate_in_range, output_in_range, gates_apart}
use Rattle.graph_core.proofs.OfGraphs.Levels.{In, all_in, any_in}
use Rattle.std.proofs.lemmas.Map.Steps.{length-le_from_distinct_below}
use Rattle.std.proofs.lemmas.Map.Made.{IsDistinct-from_AllPairs}

-- different numbers from 1 to a greatest are at most that many
pub few_numbers : (vs : List ℕ) (m : ℕ) → AllPairs ◌≢◌ vs → All (λ v. (0 < v) × (v ≤ m)) vs → length vs ≤ m
few_numbers vs m apart low =
    let all = AllPairs-cons ◌≢◌ 0 vs (λ k d l. let p = (low k d l).0 in omega arith) apart in
    let few = length-le_from_distinct_below (0 ∷ vs) (m + 1) (IsDistinct-from_AllPairs Decides-eqb (0 ∷ vs) all) (λ q h. below q (any_in (eqb q) (0 ∷ vs) h)) in
    omega arith
  where
    inside : (ws : List ℕ) (q w : ℕ) → AllByRecursion (λ v. (0 < v) × (v ≤ m)) ws → In w ws → eqb q w ≡ true → q < m + 1
    inside ws q w a i e = let l = (all_in (λ v. (0 < v) × (v ≤ m)) ws w a i).1 in let same = eqb-true q w e in omega arith

    below : (q : ℕ) → (w : ℕ) × In w (0 ∷ vs) × (eqb q w ≡ true) → q < m + 1
    below q (w, inl z, e) = let same = eqb-true q w e in omega arith
    below q (w, inr i, e) = inside vs q w (recursion_from_All (λ v. (0 < v) × (v ≤ m)) vs low) i e

-- gates of different variables up to a greatest are at most that many
pub few_distinct : (gates : List Gate) (m : ℕ) → AllPairs ◌≢◌ (map (λ x. x.v) gates) → All (λ x. (0 < x.v) × (x.v ≤ m)) gates → length gates ≤ m
few_distinct gates m apart low =
    let few = few_numbers (map (λ x. x.v) gates) m apart (All-map (λ v. (0 < v) × (v ≤ m)) (λ x. x.v) gates low) in
    omega (arith, length-map gates (λ x. x.v))

module _ (g : Aig) (built : IsBuilt g) (schedule : List Gate) (order : IsSchedule g.gates schedule) where
  pub gates_fit : All (FitsTable g.max) g.gates
  gates_fit k d below = let r = gate_in_range g built.well_formed (slice_index_or g.gates k d) (Contains-get_or g.gates k d below) in
      let left = r.left in let right = r.right in record { own = r.own; left = omega arith; right = omega arith }

  pub schedule_fits : All (FitsTable g.max) schedule
  schedule_fits k d below = All-contains (FitsTable g.max) g.gates (slice_index_or schedule k d) gates_fit (order.some k d below)

  pub few_gates : length g.gates ≤ g.max
  few_gates = few_distinct g.gates g.max (gates_apart g built.well_formed)
      (λ k d below. (built.well_formed.defined_once.gates k d below, built.well_formed.gates_in_range k d below))

  pub few_scheduled : length schedule ≤ g.max
  few_scheduled = few_distinct schedule g.max order.once
      (λ k d below. let r = gate_in_range g built.well_formed (slice_index_or schedule k d) (order.some k d below) in (r.positive, r.own))

  pub outputs_fit : All (λ l. variable_of l ≤ g.max) g.outputs
  outputs_fit k d below = let low = output_in_range g built.well_formed (slice_index_or g.outputs k d) (Contains-get_or g.outputs k d below) in omega arith

  -- levels depend on which gates there are, and not on their order
  level_in : (v k : ℕ) → IsLevel schedule v k → IsLevel g.gates v k
  level_in _ _ (free v f) = free v (λ k d below. All-contains (λ x. x.v ≢ v) schedule (slice_index_or g.gates k d) f (order.all k d below))
  level_in _ _ (above x i j c l r) = above x i j (All-contains (Contains g.gates) schedule x order.some c) (level_in (variable_of x.left) i l) (level_in (variable_of x.right) j r)

  pub tables_made : (places levels readers : List ℕ) → IsTable g.max (IsPlace g.gates) places → IsTable g.max (IsLevel schedule) levels → length readers ≡ g.max + 1 → AreCounts (g.outputs ++ gates_read g.gates) readers →
      HasTables g (record { places = places; levels = levels; readers = readers; schedule = schedule })
  tables_made places levels readers p l size counts = record {
    built = built;
    places = p;
    levels = (l.0, λ v low. level_in v (slice_index levels v) (l.1 v low));
    readers = (size, λ v low. counts v (omega arith));
    schedule = order;
  }
