-- Gates of XOR shape, their generating gates and their pairs.
use Rattle.std.specs.Prelude.{◌≡◌, ◌≢◌, ℕ, ◌<◌, ◌⊎◌, Bool, not, ◌&&◌, ◌||◌, List, map, if◌then◌else◌, nat_le}
use Rattle.std.specs.List.{Any, Contains}
use Rattle.graph_core.specs.declared.literal.Lit.{Lit}
use Rattle.graph_core.specs.declared.gate.Gate.{Gate}
use Rattle.graph_core.specs.Graph.Assignments.{Assignment, variable, literal}
use Rattle.graph_core.specs.Graph.Literals.{variable_of, negation_of}
use Rattle.graph_core.specs.Graph.{Aig, IsEvaluation}
use Rattle.graph_core.specs.Graph.Literals.{inverted}
use Rattle.adder_finder.specs.declared.xor.Xor.{Xor}

-- a gate of the list has this variable and these two operands, in either order
abbrev pub Computes : List Gate → ℕ → Lit → Lit → Type 0
Computes gates v x y = Any (λ g. (g.v ≡ v) × (((g.left ≡ x) × (g.right ≡ y)) ⊎ ((g.left ≡ y) × (g.right ≡ x)))) gates

-- Gate v is !u & !w, where u is over x and y of different variables, neither of them constant, and w over !x and !y. So v is x xor y.
pub record HasXorShape (gates : List Gate) (v u w : ℕ) (x y : Lit) : Type 0 where
  pub top : Computes gates v (inverted u) (inverted w)
  pub different : u ≢ w
  pub both : Computes gates u x y
  pub neither : Computes gates w (negation_of x) (negation_of y)
  pub x_variable : 0 < variable_of x
  pub y_variable : 0 < variable_of y
  pub two_variables : variable_of x ≢ variable_of y

-- another gate than v reads the variable, or an output has it
abbrev pub IsUsedBesides : Aig → ℕ → ℕ → Type 0
IsUsedBesides g v u = Any (λ x. (x.v ≢ v) × ((variable_of x.left ≡ u) ⊎ (variable_of x.right ≡ u))) g.gates ⊎ Contains (map variable_of g.outputs) u

-- Of the two gates below a gate of XOR shape the generating one is the one that is used besides; where both or neither are, the lesser.
abbrev pub IsGenerating : Aig → ℕ → ℕ → ℕ → Type 0
IsGenerating g v u w = (IsUsedBesides g v u × ¬ (IsUsedBesides g v w)) ⊎
    (((IsUsedBesides g v u × IsUsedBesides g v w) ⊎ (¬ (IsUsedBesides g v u) × ¬ (IsUsedBesides g v w))) × (u < w))

-- a gate's two operands, the lesser literal first
abbrev pub ordered_operands : Gate → Lit × Lit
ordered_operands g = if nat_le g.left.0 g.right.0 then (g.left, g.right) else (g.right, g.left)

-- A gate of XOR shape: its generating gate and the other one, its two sides, and its pair, the generating gate's operands.
pub record IsXor (g : Aig) (v generating other : ℕ) (x y : Lit) (pair : Lit × Lit) : Type 0 where
  pub shape : HasXorShape g.gates v generating other x y
  pub generates : IsGenerating g v generating other
  pub operands : Any (λ u. (u.v ≡ generating) × (pair ≡ ordered_operands u)) g.gates

abbrev pub IsXorGate : Aig → ℕ → Type 0
IsXorGate g v = (u w : ℕ) × (x y : Lit) × HasXorShape g.gates v u w x y

abbrev pub IsXorOfPair : Aig → ℕ → Lit × Lit → Type 0
IsXorOfPair g v pair = (u w : ℕ) × (x y : Lit) × IsXor g v u w x y pair

-- what is found of a gate of XOR shape: its sides are the variables of its pair
abbrev pub IsXorOf : Aig → ℕ → Xor → Type 0
IsXorOf g v xor = IsXor g v xor.generating xor.other xor.pair.0 xor.pair.1 xor.pair

-- ---- the law

abbrev pub exclusive_or : Bool → Bool → Bool
exclusive_or a b = (a || b) && not (a && b)

-- On each evaluation a gate of XOR shape is x xor y, the gate below it over x and y is their AND, and the other one is true where neither is.
abbrev pub XorShapeIsXor : Type 0
XorShapeIsXor = (gates : List Gate) (v u w : ℕ) (x y : Lit) (σ : Assignment) → HasXorShape gates v u w x y → IsEvaluation gates σ →
    (variable σ v ≡ exclusive_or (literal σ x) (literal σ y)) × (variable σ u ≡ (literal σ x && literal σ y)) ×
    (variable σ w ≡ (not (literal σ x) && not (literal σ y)))
