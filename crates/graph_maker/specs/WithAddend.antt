-- A multiplier with an addend: its outputs are added to the addend.
use Rattle.std.specs.Prelude.{◌≡◌, ℕ, ◌+◌, ◌*◌, ◌<◌, ◌≤◌, length}
use Rattle.graph_core.specs.declared.order.Order.TheVariants.{Separate}
use Rattle.graph_core.specs.declared.sign.Sign.TheVariants.{Unsigned}
use Rattle.graph_core.specs.declared.profile.Profile.TheVariants.{MultiplyAdd}
use Rattle.graph_core.specs.Graph.{Aig, IsWellFormed}
use Rattle.graph_core.specs.Graph.Literals.{constant_false}
use Rattle.graph_core.specs.Graph.Operands.{sum_width, HasSumShape, Does, adding}
use Rattle.graph_maker.specs.declared.kind.Kind.{Kind}
use Rattle.graph_maker.specs.declared.adder.Adder.{Adder}
use Rattle.graph_maker.specs.Builder.{literals_from}
use Rattle.graph_maker.specs.Ripple.{Outputs, add_words}
use Rattle.graph_maker.specs.Made.{IsPackedAs, product_behind, whole_graph}

-- outputs of a product added to the addend, which is in the 2n variables after those of a and b
abbrev pub with_addend : ℕ → Outputs → Outputs
with_addend n r = add_words r.builder r.outputs (literals_from (2 * n + 1) (2 * n)) constant_false

-- The graph of a kind, a width and an adder: a is in the variables 1 to n, b in the next n, the addend in the next 2n, and the gates follow;
-- those of the product, and then a ripple position for each of its outputs and the addend's bit there.
abbrev pub made_sum : Kind → ℕ → Adder → Aig
made_sum kind n adder = whole_graph (4 * n) (with_addend n (product_behind (4 * n) kind n n adder))

-- Each such graph has two operands of n bits, an addend of 2n bits and as many outputs, has no fault, and multiplies and adds.
pub record IsMultiplyAdder (n : ℕ) (g : Aig) : Type 0 where
  pub width : sum_width g ≡ n
  pub shape : HasSumShape g
  pub whole : length g.outputs ≡ 2 * n
  pub well_formed : IsWellFormed g
  pub adds : Does (adding Separate Unsigned) g

abbrev pub MadeSumsAdd : Type 0
MadeSumsAdd = (kind : Kind) (n : ℕ) (adder : Adder) → 0 < n → IsMultiplyAdder n (made_sum kind n adder)

-- Up to 64 bits such a graph is a packed one.
abbrev pub SumsArePacked : Type 0
SumsArePacked = (kind : Kind) (n : ℕ) (adder : Adder) → 0 < n → n ≤ 64 → IsPackedAs MultiplyAdd (made_sum kind n adder)
