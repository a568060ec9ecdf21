-- How a gate of XOR shape is found among gates. Private clauses alone cite this file.
use Rattle.std.specs.Prelude.{◌≡◌, ◌≢◌, ℕ, ◌<◌, ◌≤◌, ◌⊎◌, Bool, true, false, List}
use Rattle.graph_core.specs.declared.literal.Lit.{Lit}
use Rattle.graph_core.specs.declared.gate.Gate.{Gate}
use Rattle.graph_core.specs.Graph.Literals.{variable_of, negation_of, IsNegated}
use Rattle.graph_core.specs.Graph.{Aig, IsGateOf, reader_count}
use Rattle.adder_finder.specs.declared.xor.Xor.{Xor}
use Rattle.adder_finder.specs.XorShape.{ordered_operands}

-- the gate's operands, in either order
abbrev pub HasOperands : Gate → Lit → Lit → Type 0
HasOperands g x y = ((g.left ≡ x) × (g.right ≡ y)) ⊎ ((g.left ≡ y) × (g.right ≡ x))

-- the literal is this gate's negation
abbrev pub IsBelow : List Gate → Lit → Gate → Type 0
IsBelow gates l x = IsNegated l × IsGateOf gates (variable_of l) x

-- Two different gates, of which one is the AND of two literals of different variables, and the other that of their negations.
pub record AreTwo (u w : Gate) : Type 0 where
  pub different : u.v ≢ w.v
  pub x_variable : 0 < variable_of u.left
  pub y_variable : 0 < variable_of u.right
  pub two_variables : variable_of u.left ≢ variable_of u.right
  pub reads : HasOperands w (negation_of u.left) (negation_of u.right)

-- the same, where it is told of each whether it is read more than once
abbrev pub IsMoreRead : ℕ → Bool → ℕ → Bool → Type 0
IsMoreRead u first w second = ((first ≡ true) × (second ≡ false)) ⊎ ((first ≡ second) × (u < w))

-- the shape of a gate over two others, of which the first generates
abbrev pub shape_of : Gate → Gate → Xor
shape_of generating other = record { generating = generating.v; other = other.v; pair = ordered_operands generating }

-- the shape of a gate over these two
pub record IsShapeOver (u : Gate) (first : Bool) (w : Gate) (second : Bool) (xor : Xor) : Type 0 where
  pub two : AreTwo u w
  pub over : (IsMoreRead u.v first w.v second × (xor ≡ shape_of u w)) ⊎ (IsMoreRead w.v second u.v first × (xor ≡ shape_of w u))
