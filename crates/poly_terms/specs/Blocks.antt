-- Coefficients in blocks of 64 numbers, one behind the other. These words serve private clauses.
use Rattle.std.specs.Prelude.{◌≡◌, ◌⊎◌, ℕ, ◌*◌, ◌<◌, ◌^◌, List, [], ◌∷◌, ◌++◌, length, replicate}
use Rattle.std.specs.List.{AllByRecursion}

-- a block has nothing yet, or a coefficient for each of its numbers
abbrev pub IsBlock : List ℕ → Type 0
IsBlock cs = (cs ≡ []) ⊎ (length cs ≡ 64)

-- the coefficients of its numbers: where it has nothing yet they are 0
abbrev pub filled : List ℕ → List ℕ
filled [] = replicate 64 0
filled (c ∷ cs) = c ∷ cs

-- the coefficients of blocks
abbrev pub joined : List (List ℕ) → List ℕ
joined [] = []
joined (block ∷ blocks) = block ++ joined blocks

-- Blocks of 64 coefficients each, with so many numbers that each is a word.
pub record AreBlocks (blocks : List (List ℕ)) : Type 0 where
  pub whole : AllByRecursion (λ block. length block ≡ 64) blocks
  pub few : length blocks * 64 < 2 ^ 64
