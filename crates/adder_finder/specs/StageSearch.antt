-- How the final stage is searched. Private clauses alone cite this file.
use Rattle.std.specs.Prelude.{◌≡◌, ℕ, suc, ◌<◌, ◌≤◌, ◌⊎◌, List, length, slice_index, slice_index_or}
use Rattle.std.specs.List.{All}
use Rattle.graph_core.specs.declared.literal.Lit.{Lit}
use Rattle.graph_core.specs.Graph.Literals.{variable_of}
use Rattle.graph_core.specs.Graph.{Aig}
use Rattle.ripple_graft.specs.declared.cut.Cut.{Cut}
use Rattle.adder_finder.specs.declared.stage.Next.{Next}
use Rattle.adder_finder.specs.XorShape.{HasXorShape, IsXorOfPair, IsXorGate}
use Rattle.adder_finder.specs.FinalStage.{IsFit, PrefersNext}

-- The output's gate and just one of its sides have XOR shape: the pair of that side, and the variable of the other one.
abbrev pub IsNextShape : Aig → Lit → Next → Type 0
IsNextShape g output next = (u w : ℕ) × (x y : Lit) × HasXorShape g.gates (variable_of output) u w x y ×
    IsXorOfPair g (variable_of x) next.pair × ¬ (IsXorGate g (variable_of y)) × (next.side ≡ variable_of y)

-- These are the shapes of the first outputs, up to the first that has none.
pub record AreNextShapes (g : Aig) (outputs : List Lit) (nexts : List Next) : Type 0 where
  pub few : length nexts ≤ length outputs
  pub each : (k : ℕ) (o : Lit) (n : Next) → k < length nexts → IsNextShape g (slice_index_or outputs k o) (slice_index_or nexts k n)
  pub last : (o : Lit) (n : Next) → length nexts < length outputs → ¬ (IsNextShape g (slice_index_or outputs (length nexts) o) n)

-- the other sides are in a table
abbrev pub AreSidesIn : ℕ → List Next → Type 0
AreSidesIn size nexts = All (λ n. n.side < size) nexts

-- How many columns, from the first on, have their other side covered by the pairs before them.
pub record IsCount (needs : List ℕ) (nexts : List Next) (count : ℕ) : Type 0 where
  pub few : count ≤ length nexts
  pub each : (k : ℕ) (n : Next) → k < count → slice_index needs (slice_index_or nexts k n).side ≤ suc k
  pub last : (n : Next) → count < length nexts → suc count < slice_index needs (slice_index_or nexts count n).side

-- These columns are all, or all but the last, whose output is covered by their pairs and the first one.
abbrev pub IsWholeStage : List ℕ → List Lit → ℕ → Type 0
IsWholeStage needs outputs count = (count ≡ length outputs) ⊎
    ((suc count ≡ length outputs) × ((o : Lit) → slice_index needs (variable_of (slice_index_or outputs count o)) ≤ suc count))

-- no cut at this low column is fit
abbrev pub NoneFitsAt : Aig → ℕ → Type 0
NoneFitsAt g lo = (cut : Cut) → cut.lo ≡ lo → ¬ (IsFit g cut)

-- a fit cut at this low column that is as long as any other
abbrev pub IsLongestAt : Aig → ℕ → Cut → Type 0
IsLongestAt g lo cut = (cut.lo ≡ lo) × IsFit g cut × PrefersNext g cut
