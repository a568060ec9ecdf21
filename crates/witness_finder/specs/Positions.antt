-- Where the variables of a monomial stand among the inputs.
use Rattle.std.specs.Prelude.{◌≡◌, ℕ, ◌⊎◌, Bool, true, List, map}
use Rattle.std.specs.List.{All}
use Rattle.graph_core.specs.Graph.Literals.{variable_of}
use Rattle.graph_core.specs.Graph.Assignments.{literal}
use Rattle.graph_core.specs.Graph.Operands.{Sides, inputs_in}
use Rattle.algebra_core.specs.NormalForm.{AreRising}
use Rattle.frontier_core.specs.Sets.{has}
use Rattle.frontier_core.specs.LeastDifference.{Precedes, ones_of}

-- a monomial's variables rise, and each is an input's
pub record IsMonomialOver (s : Sides) (variables : List ℕ) : Type 0 where
  pub rising : AreRising 0 variables
  pub over : All (λ v. has (map variable_of (inputs_in s)) v ≡ true) variables

-- the values of the inputs at which just these variables are true
abbrev pub bits_at : Sides → List ℕ → List Bool
bits_at s variables = map (literal (has variables)) (inputs_in s)

-- the positions of these variables
abbrev pub positions : Sides → List ℕ → List ℕ
positions s variables = ones_of (has variables) (inputs_in s)

-- the one is the other, or precedes it
abbrev pub IsNoLater : List ℕ → List ℕ → Type 0
IsNoLater xs ys = (xs ≡ ys) ⊎ Precedes xs ys
