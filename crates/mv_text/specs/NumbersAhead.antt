-- The number at the front of a text. This word serves private clauses.
use Rattle.std.specs.Prelude.{◌≡◌, ◌≤◌, ℕ, List, length, take, drop}
use Rattle.graph_core.specs.Text.{decimal}
use Rattle.mv_text.specs.Steps.{IsDigitsOf}

-- The digits at the front are so many, at least one and at most `most`, and spell the number.
pub record IsNumberAhead (most : ℕ) (bytes : List ℕ) (number count : ℕ) : Type 0 where
  pub digits : IsDigitsOf most bytes (take count bytes) (drop count bytes)
  pub within : count ≤ length bytes
  pub spelled : number ≡ decimal (take count bytes)
