-- Bounds on words.
use Rattle.std.specs.Prelude.{◌^◌, ◌<◌, ◌≤◌, Bool, true, false, List, [], ◌∷◌, length}
use Rattle.std.proofs.Common.{arith, pow-suc}
use Rattle.graph_core.specs.declared.literal.Lit.{Lit}
use Rattle.graph_core.specs.Graph.Assignments.{Assignment, literal, bit, word}

pub bit_le : (b : Bool) → bit b ≤ 1
bit_le true = omega arith
bit_le false = omega arith

-- a word of n bits is below 2 ^ n
pub word_below : (σ : Assignment) (ls : List Lit) → word σ ls < 2 ^ length ls
word_below σ [] = omega arith
word_below σ (l ∷ ls) = omega (arith, bit_le (literal σ l), word_below σ ls, pow-suc 2 (length ls))
