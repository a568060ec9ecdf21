-- Residue classes modulo a power of two.
use Rattle.std.specs.Prelude.{ℕ, ◌≤◌}

-- the exponents of the moduli
abbrev pub IsWidth : ℕ → Type 0
IsWidth width = (1 ≤ width) × (width ≤ 128)

-- a class modulo 2^width, by the number below 2^width that stands for it
pub record ResidueClass : Type 0 where
  pub width : ℕ
  pub value : ℕ
