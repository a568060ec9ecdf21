-- Truth values that are kept as the bits of words: lane i of some words is the list of their bits i.
use Rattle.std.specs.Prelude.{◌≡◌, ℕ, ◌<◌, Bool, List, map, length, slice_index_or, ◌==◌}
use Rattle.std.specs.Int.{bit_at}
use Rattle.graph_core.specs.declared.numbers.Numbers.{Numbers}
use Rattle.graph_core.specs.Graph.{Aig, AreValues}
use Rattle.graph_core.specs.Graph.Operands.{Sides, AreInRange, inputs_at}

-- whether bit i is one
abbrev pub truth : ℕ → ℕ → Bool
truth i word = bit_at word i == 1

abbrev pub lane : ℕ → List ℕ → List Bool
lane i words = map (truth i) words

-- In each lane the words are the variables' values with that lane's inputs.
abbrev pub AreWords : Aig → List ℕ → List ℕ → Type 0
AreWords g inputs words = (i : ℕ) → i < 64 → AreValues g (lane i inputs) (lane i words)

-- The values of the inputs stand for two operands and, where there is one, an addend.
pub record StandFor (s : Sides) (bits : List Bool) (x : Numbers) : Type 0 where
  pub range : AreInRange s x
  pub is : bits ≡ inputs_at s x

-- Lane j of the inputs stands for the numbers at place j.
abbrev pub AreLanes : Sides → List Numbers → List ℕ → Type 0
AreLanes s xs inputs = (j : ℕ) (d : Numbers) → j < length xs → StandFor s (lane j inputs) (slice_index_or xs j d)
