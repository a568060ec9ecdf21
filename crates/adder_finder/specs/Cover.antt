-- How many pairs cover a variable, and how that is found. Private clauses alone cite this file.
use Rattle.std.specs.Prelude.{◌≡◌, ◌≢◌, ℕ, ◌+◌, ◌<◌, ◌≤◌, ◌⊎◌, List, map, length, take, slice_index, slice_index_or}
use Rattle.std.specs.List.{All, Contains}
use Rattle.graph_core.specs.declared.bounds.TheConstants.{MOST_OUTPUTS}
use Rattle.graph_core.specs.declared.literal.Lit.{Lit}
use Rattle.graph_core.specs.declared.gate.Gate.{Gate}
use Rattle.graph_core.specs.Graph.Literals.{variable_of}
use Rattle.graph_core.specs.Graph.{Aig, IsGateOf, IsLevel}
use Rattle.adder_finder.specs.FinalStage.{IsCovered, variables_of}

-- covered by the first j pairs
abbrev pub IsCoveredBy : Aig → List (Lit × Lit) → ℕ → ℕ → Type 0
IsCoveredBy g pairs j v = IsCovered g.gates (variables_of (take j pairs)) v

-- By variable: how many of the pairs, from the first on, cover it. Where more than there are, all of them don't.
pub record AreNeeds (g : Aig) (pairs : List (Lit × Lit)) (needs : List ℕ) : Type 0 where
  pub room : length needs ≡ g.max + 1
  pub enough : (v j : ℕ) → v ≤ g.max → j ≤ length pairs → slice_index needs v ≤ j → IsCoveredBy g pairs j v
  pub least : (v j : ℕ) → v ≤ g.max → j ≤ length pairs → IsCoveredBy g pairs j v → slice_index needs v ≤ j

-- Few pairs of variables of the graph.
pub record ArePairsIn (g : Aig) (pairs : List (Lit × Lit)) : Type 0 where
  pub few : length pairs ≤ MOST_OUTPUTS
  pub in_range : All (λ p. (variable_of p.0 ≤ g.max) × (variable_of p.1 ≤ g.max)) pairs

-- Levels and variables, of which each gate's is one, by rising levels.
pub record AreKeys (g : Aig) (keys : List (ℕ × ℕ)) : Type 0 where
  pub levels : All (λ key. IsLevel g.gates key.1 key.0) keys
  pub in_range : All (λ key. key.1 ≤ g.max) keys
  pub all : All (λ x. Contains (map (λ key. key.1) keys) x.v) g.gates
  pub rising : (i j : ℕ) (d : ℕ × ℕ) → i ≤ j → j < length keys → (slice_index_or keys i d).0 ≤ (slice_index_or keys j d).0

-- One of the first n and of the first j pairs has the variable.
abbrev pub IsOfPairs : List (Lit × Lit) → ℕ → ℕ → ℕ → Type 0
IsOfPairs pairs n j v = (i : ℕ) × (i < j) × (i < n) ×
    ((d : Lit × Lit) → (variable_of (slice_index_or pairs i d).0 ≡ v) ⊎ (variable_of (slice_index_or pairs i d).1 ≡ v))

-- Of n pairs: the constant needs none, and a variable of them as many as there are up to the first that has it.
pub record AreFirstNeeds (max : ℕ) (pairs : List (Lit × Lit)) (n : ℕ) (needs : List ℕ) : Type 0 where
  pub room : length needs ≡ max + 1
  pub constant : slice_index needs 0 ≡ 0
  pub enough : (v j : ℕ) → v ≤ max → j ≤ MOST_OUTPUTS → slice_index needs v ≤ j → (v ≡ 0) ⊎ IsOfPairs pairs n j v
  pub least : (v j : ℕ) → v ≤ max → IsOfPairs pairs n j v → slice_index needs v ≤ j

-- At most n at a variable.
pub record Lowers (v n : ℕ) (old new : List ℕ) : Type 0 where
  pub room : length new ≡ length old
  pub others : (w : ℕ) → w ≢ v → slice_index new w ≡ slice_index old w
  pub here : slice_index new v ≤ n
  pub less : slice_index new v ≤ slice_index old v
  pub one : (slice_index new v ≡ n) ⊎ (slice_index new v ≡ slice_index old v)

-- At most as many at a gate's variable as both its operands have.
pub record IsCover (g : Aig) (v : ℕ) (old new : List ℕ) : Type 0 where
  pub room : length new ≡ length old
  pub others : (w : ℕ) → w ≢ v → slice_index new w ≡ slice_index old w
  pub less : slice_index new v ≤ slice_index old v
  pub through : (x : Gate) (j : ℕ) → IsGateOf g.gates v x → slice_index old (variable_of x.left) ≤ j → slice_index old (variable_of x.right) ≤ j →
      slice_index new v ≤ j
  pub one : (j : ℕ) → slice_index new v ≤ j → (slice_index old v ≤ j) ⊎
      ((x : Gate) × IsGateOf g.gates v x × (slice_index old (variable_of x.left) ≤ j) × (slice_index old (variable_of x.right) ≤ j))
