-- The multipliers of operands of two widths that are made, and that they multiply.
use Rattle.std.specs.Prelude.{◌≡◌, ℕ, ◌+◌, ◌*◌, ◌^◌, ◌<◌, ◌≤◌, false, ◌++◌, length}
use Rattle.graph_core.specs.declared.claim.Claim.{Claim}
use Rattle.graph_core.specs.declared.order.Order.TheVariants.{Separate}
use Rattle.graph_core.specs.declared.profile.Profile.TheVariants as profile
use Rattle.graph_core.specs.declared.sign.Sign.TheVariants.{Unsigned}
use Rattle.graph_core.specs.declared.widths.Widths.TheVariants.{Given}
use Rattle.graph_core.specs.Graph.{Aig, IsWellFormed}
use Rattle.graph_core.specs.Graph.Operands.{HasGivenShape, Does, bits_of, value_at_inputs}
use Rattle.graph_maker.specs.declared.kind.Kind.{Kind}
use Rattle.graph_maker.specs.declared.adder.Adder.{Adder}
use Rattle.graph_maker.specs.Made.{IsPackedAs, made, product_behind, whole_graph}

-- The graph of a kind, two widths and an adder: a is in the variables 1 to m, b in the next n, and the gates follow.
abbrev pub made_of : Kind → ℕ → ℕ → Adder → Aig
made_of kind m n adder = whole_graph (m + n) (product_behind (m + n) kind m n adder)

-- For all operands of m and of n bits the graph, whose inputs are those of a and then those of b, evaluates to their product.
abbrev pub MultipliesOf : ℕ → ℕ → Aig → Type 0
MultipliesOf m n g = (a b : ℕ) → a < 2 ^ m → b < 2 ^ n → value_at_inputs g (bits_of m a ++ bits_of n b) ≡ a * b

-- what is claimed of such a graph
abbrev pub claim_of_widths : ℕ → ℕ → Claim
claim_of_widths m n = record { order = Separate; sign = Unsigned; widths = Given m n false }

-- Each such graph has operands of m and of n bits and an output for each bit of the product, has no fault, and multiplies.
pub record IsMultiplierOf (m n : ℕ) (g : Aig) : Type 0 where
  pub shape : HasGivenShape m n false g
  pub whole : length g.outputs ≡ m + n
  pub well_formed : IsWellFormed g
  pub multiplies : MultipliesOf m n g
  pub does : Does (claim_of_widths m n) g

abbrev pub MadeOfMultiplies : Type 0
MadeOfMultiplies = (kind : Kind) (m n : ℕ) (adder : Adder) → 0 < m → 0 < n → IsMultiplierOf m n (made_of kind m n adder)

-- Up to 64 bits each it is a packed one.
abbrev pub MadeOfArePacked : Type 0
MadeOfArePacked = (kind : Kind) (m n : ℕ) (adder : Adder) → 0 < m → 0 < n → m ≤ 64 → n ≤ 64 → IsPackedAs (profile.Given m n false) (made_of kind m n adder)

-- That of one width is the one of two equal ones.
abbrev pub OneWidthIsTwo : Type 0
OneWidthIsTwo = (kind : Kind) (n : ℕ) (adder : Adder) → made kind n adder ≡ made_of kind n n adder
