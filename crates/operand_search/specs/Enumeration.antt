-- The enumeration of the values of some inputs: fewer ones first, and as many by the lexicographic order of their positions.
use Rattle.std.specs.Prelude.{◌≡◌, ℕ, ◌+◌, ◌-◌, ◌*◌, ◌^◌, ◌<◌, ◌≤◌, ◌⊎◌, Bool, List, [], ◌∷◌, length, MatchBool, ◌++◌, not, take, replicate, slice_index_or}
use Rattle.graph_core.specs.Graph.Assignments.{bit}
use Rattle.frontier_core.specs.LeastDifference.{Precedes, ones_from}

-- how many are one
abbrev pub ones : List Bool → ℕ
ones xs = length (ones_from 0 xs)

-- The values come before others in the enumeration.
abbrev pub IsEnumeratedBefore : List Bool → List Bool → Type 0
IsEnumeratedBefore xs ys = Precedes (ones_from 0 xs) (ones_from 0 ys)

-- Where the enumeration goes on, the values before these were passed; else all with at most so many ones were.
abbrev pub IsEnumerated : ℕ → Bool → List Bool → List Bool → Type 0
IsEnumerated most goes_on xs zs = MatchBool goes_on (IsEnumeratedBefore zs xs) (ones zs ≤ most)

-- One step on, nothing else is passed than the values that it steps from.
pub record IsStep (most : ℕ) (goes_on : Bool) (xs ys : List Bool) : Type 0 where
  pub size : length ys ≡ length xs
  pub few : MatchBool goes_on (ones ys ≤ most) (Unit {0})
  pub passed : (zs : List Bool) → length zs ≡ length xs → IsEnumerated most goes_on ys zs → (zs ≡ xs) ⊎ IsEnumeratedBefore zs xs

-- The list ends with so many of a value, and no more.
pub record EndsInRun (value : Bool) (xs : List Bool) (n : ℕ) : Type 0 where
  pub within : n ≤ length xs
  pub run : xs ≡ take (length xs - n) xs ++ replicate n value
  pub stop : n < length xs → slice_index_or xs (length xs - n - 1) value ≡ not value

-- the number whose binary digits these are, that of the greatest weight first
abbrev pub binary : List Bool → ℕ
binary [] = 0
binary (b ∷ bs) = bit b * 2 ^ length bs + binary bs

-- falls from values to the next ones
abbrev pub left_over : List Bool → ℕ
left_over xs = (length xs - ones xs) * 2 ^ length xs + binary xs
