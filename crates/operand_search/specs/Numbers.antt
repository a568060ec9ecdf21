-- The number that an operand stands for, as it is computed.
use Rattle.std.specs.Prelude.{◌≡◌, ℕ, ◌%◌, ◌^◌, ◌≤◌}
use Rattle.graph_core.specs.declared.sign.Sign.{Sign}
use Rattle.graph_core.specs.Graph.Operands.{number_as}

-- It is the number modulo each power of 2 up to 2 ^ 128.
abbrev pub IsNumber : Sign → ℕ → ℕ → ℕ → Type 0
IsNumber sign n a x = (k : ℕ) → k ≤ 128 → x % 2 ^ k ≡ number_as sign (2 ^ k) n a % 2 ^ k
