-- Numbers that the enumeration gives one after another, and which of them are told apart from what is claimed.
use Rattle.std.specs.Prelude.{◌≡◌, ℕ, ◌%◌, ◌<◌, Bool, true, List, [], ◌∷◌, ◌++◌, take, length, slice_index_or}
use Rattle.std.specs.List.{All}
use Rattle.graph_core.specs.declared.numbers.Numbers.{Numbers}
use Rattle.graph_core.specs.Graph.{Aig, evaluated}
use Rattle.graph_core.specs.Graph.Operands.{Sides, claimed, inputs_at, output_modulus, value_at_inputs}
use Rattle.frontier_core.specs.LeastDifference.{IsDifferenceAt}
use Rattle.operand_search.specs.Enumeration.{IsEnumeratedBefore, IsStep}
use Rattle.operand_search.specs.Lanes.{StandFor}

-- So many steps from values of the inputs on, and the numbers that were stepped from.
pub data IsRun (s : Sides) (most : ℕ) (bits : List Bool) : List Numbers → Bool → List Bool → Type 0 where
  start : IsRun s most bits [] true bits
  more : (xs : List Numbers) (x : Numbers) (goes_on : Bool) (ys zs : List Bool) → IsRun s most bits xs true ys → StandFor s ys x →
      IsStep most goes_on ys zs → IsRun s most bits (xs ++ x ∷ []) goes_on zs

-- On these numbers the graph's value is what is claimed.
abbrev pub IsRightOn : Aig → Sides → Numbers → Type 0
IsRightOn g s x = value_at_inputs g (inputs_at s x) ≡ claimed (output_modulus g) s (evaluated g (inputs_at s x)) % output_modulus g

-- The first numbers of a list on which it isn't.
pub record IsFirstWrong (g : Aig) (s : Sides) (xs : List Numbers) (j : ℕ) : Type 0 where
  pub within : j < length xs
  pub wrong : (d : Numbers) → ¬ (IsRightOn g s (slice_index_or xs j d))
  pub before : All (IsRightOn g s) (take j xs)

-- No values of the inputs on which it isn't come before these.
abbrev pub NoneBefore : Aig → Sides → List Bool → Type 0
NoneBefore g s bits = (other : List Bool) → IsDifferenceAt g s other → IsEnumeratedBefore other bits → ⊥
