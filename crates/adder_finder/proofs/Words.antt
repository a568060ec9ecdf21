-- Words that proofs alone cite.
use Rattle.std.specs.Prelude.{◌≡◌, ℕ, ◌⊎◌, List, ◌+◌, ◌<◌, ◌≤◌, length, take, slice_index, slice_index_or}
use Rattle.std.specs.List.{Contains}
use Rattle.graph_core.specs.declared.literal.Lit.{Lit}
use Rattle.graph_core.specs.Graph.{Aig, reader_count}
use Rattle.adder_finder.specs.FinalStage.{variables_of}
use Rattle.adder_finder.specs.Cover.{IsCoveredBy}

-- A key from the i-th on has the variable.
abbrev pub IsAhead : List (ℕ × ℕ) → ℕ → ℕ → Type 0
IsAhead keys i v = (j : ℕ) × (d : ℕ × ℕ) × (i ≤ j) × (j < length keys) × ((slice_index_or keys j d).1 ≡ v)

-- What is needed once the gates of the first i keys are done.
pub record AreNeedsAt (g : Aig) (pairs : List (Lit × Lit)) (keys : List (ℕ × ℕ)) (i : ℕ) (needs : List ℕ) : Type 0 where
  pub room : length needs ≡ g.max + 1
  pub constant : slice_index needs 0 ≡ 0
  pub enough : (v j : ℕ) → v ≤ g.max → j ≤ length pairs → slice_index needs v ≤ j → IsCoveredBy g pairs j v
  pub member : (v j : ℕ) → v ≤ g.max → j ≤ length pairs → Contains (variables_of (take j pairs)) v → slice_index needs v ≤ j
  pub least : (v j : ℕ) → v ≤ g.max → j ≤ length pairs → ¬ (IsAhead keys i v) → IsCoveredBy g pairs j v → slice_index needs v ≤ j

-- Of two variables that are read by one gate this one is read more than once, and the other not; or it is the lesser.
abbrev pub IsReadMore : Aig → ℕ → ℕ → Type 0
IsReadMore g u w = ((1 < reader_count g u) × (reader_count g w ≤ 1)) ⊎
    ((((1 < reader_count g u) × (1 < reader_count g w)) ⊎ ((reader_count g u ≤ 1) × (reader_count g w ≤ 1))) × (u < w))
