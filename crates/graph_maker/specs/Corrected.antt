-- The array for signed operands: what the unsigned product has too much is taken away from its upper half.
use Rattle.std.specs.Prelude.{◌≡◌, ℕ, zero, suc, ◌+◌, ◌*◌, ◌<◌, ◌≤◌, List, [], ◌∷◌, ◌++◌, take, drop, length}
use Rattle.graph_core.specs.declared.literal.Lit.{Lit}
use Rattle.graph_core.specs.declared.gate.Gate.{Gate}
use Rattle.graph_core.specs.declared.order.Order.TheVariants.{Separate}
use Rattle.graph_core.specs.declared.profile.Profile.TheVariants.{Multiplier}
use Rattle.graph_core.specs.declared.sign.Sign.TheVariants.{Signed}
use Rattle.graph_core.specs.Graph.{Aig, IsWellFormed}
use Rattle.graph_core.specs.Graph.Literals.{plain, inverted, constant_true, and_gate}
use Rattle.graph_core.specs.Graph.Operands.{width, HasMultiplierShape, Does, multiplying}
use Rattle.graph_maker.specs.declared.adder.Adder.{Adder}
use Rattle.graph_maker.specs.declared.kind.Kind.TheVariants.{Array}
use Rattle.graph_maker.specs.Builder.{Builder, with_gates, literals_from}
use Rattle.graph_maker.specs.Ripple.{Outputs, add_words}
use Rattle.graph_maker.specs.Made.{IsPackedAs, product_behind, whole_graph}

-- the gates x & y for each y
abbrev pub masked_gates : ℕ → Lit → List Lit → List Gate
masked_gates v x [] = []
masked_gates v x (y ∷ ys) = and_gate (v + 1) x y ∷ masked_gates (v + 1) x ys

-- the negations of so many variables from v on
abbrev pub inverted_from : ℕ → ℕ → List Lit
inverted_from v zero = []
inverted_from v (suc n) = inverted v ∷ inverted_from (v + 1) n

-- The word of x & y taken away from that of as many literals: their sum with the negations of these gates and a carry of 1.
abbrev pub take_away : Builder → List Lit → Lit → List Lit → Outputs
take_away b xs x ys =
    add_words (with_gates b (masked_gates b.last x ys)) xs (inverted_from (b.last + 1) (length ys)) constant_true

-- The upper half of the array's outputs less b where a's highest bit is 1, and less a where b's is.
abbrev pub correction : ℕ → Outputs → Outputs
correction n r =
    let first = take_away r.builder (drop n r.outputs) (plain n) (literals_from (n + 1) n) in
    take_away first.builder first.outputs (plain (2 * n)) (literals_from 1 n)

-- the lower half as it is, and the upper one so
abbrev pub corrected : ℕ → Outputs → Outputs
corrected n r = let s = correction n r in record { builder = s.builder; outputs = take n r.outputs ++ s.outputs }

-- The graph of a width and an adder: a is in the variables 1 to n, b in the next n, and the gates follow.
abbrev pub made_corrected : ℕ → Adder → Aig
made_corrected n adder = whole_graph (2 * n) (corrected n (product_behind (2 * n) Array n n adder))

-- Each corrected graph has two operands of n bits and an output for each bit of the product, has no fault, and multiplies signed operands.
pub record IsSignedMultiplier (n : ℕ) (g : Aig) : Type 0 where
  pub width : width g ≡ n
  pub shape : HasMultiplierShape g
  pub whole : length g.outputs ≡ 2 * n
  pub well_formed : IsWellFormed g
  pub multiplies : Does (multiplying Separate Signed) g

abbrev pub CorrectedMultiplies : Type 0
CorrectedMultiplies = (n : ℕ) (adder : Adder) → 0 < n → IsSignedMultiplier n (made_corrected n adder)

-- Up to 64 bits a corrected graph is a packed one.
abbrev pub CorrectedArePacked : Type 0
CorrectedArePacked = (n : ℕ) (adder : Adder) → 0 < n → n ≤ 64 → IsPackedAs Multiplier (made_corrected n adder)
