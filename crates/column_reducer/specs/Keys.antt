-- Gates by their levels.
use Rattle.std.specs.Prelude.{◌≡◌, ℕ, ◌<◌, ◌≤◌, ◌⊎◌, List, [], ◌∷◌, map}
use Rattle.std.specs.List.{All, AllByRecursion}
use Rattle.std.specs.List.Sorted.{IsPermutation}
use Rattle.graph_core.specs.declared.gate.Gate.{Gate}
use Rattle.graph_core.specs.Graph.{IsLevel}

-- a lesser level, or the same one and a variable that isn't greater
abbrev pub Rises : ℕ × ℕ → ℕ × ℕ → Type 0
Rises a b = (a.0 < b.0) ⊎ ((a.0 ≡ b.0) × (a.1 ≤ b.1))

-- each key rises to all after it
abbrev pub AreRisingKeys : List (ℕ × ℕ) → Type 0
AreRisingKeys [] = Unit {0}
AreRisingKeys (x ∷ xs) = AllByRecursion (Rises x) xs × AreRisingKeys xs

-- The levels and variables of the gates, rising.
pub record AreGateKeys (gates : List Gate) (keys : List (ℕ × ℕ)) : Type 0 where
  pub levels : All (λ key. IsLevel gates key.1 key.0) keys
  pub variables : IsPermutation (map (λ x. x.v) gates) (map (λ key. key.1) keys)
  pub rising : AreRisingKeys keys
