-- Decimal numerals, the greatest weight first.
use Rattle.std.specs.Prelude.{◌≡◌, ℕ, ◌+◌, ◌*◌, ◌-◌, ◌<◌, ◌≤◌, List, ◌∷◌, [], length, slice_get, Some}
use Rattle.std.specs.List.{All, fold}

abbrev pub IsDigit : ℕ → Type 0
IsDigit byte = (48 ≤ byte) × (byte < 58)

-- the number that a digit after those of a number makes of it
abbrev pub append_digit : ℕ → ℕ → ℕ
append_digit number byte = 10 * number + (byte - 48)

-- the number that digits spell
abbrev pub decimal_value : List ℕ → ℕ
decimal_value bytes = fold append_digit 0 bytes

-- one digit or more, which spell the number; the first may be zeros
pub record SpellsNumber (bytes : List ℕ) (number : ℕ) : Type 0 where
  pub some : 0 < length bytes
  pub digits : All IsDigit bytes
  pub spelled : number ≡ decimal_value bytes

-- one digit or more, which spell a number no smaller than the bound
pub record SpellsAtLeast (bound : ℕ) (bytes : List ℕ) : Type 0 where
  pub some : 0 < length bytes
  pub digits : All IsDigit bytes
  pub at_least : bound ≤ decimal_value bytes

-- the numeral of a number: no leading zero, but in the numeral of 0
pub record IsNumeralOf (number : ℕ) (bytes : List ℕ) : Type 0 where
  pub spells : SpellsNumber bytes number
  pub shortest : slice_get bytes 0 ≡ Some 48 → bytes ≡ 48 ∷ []
