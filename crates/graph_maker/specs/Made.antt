-- The multipliers that are made, and that they multiply.
use Rattle.std.specs.Prelude.{◌≡◌, ℕ, ◌+◌, ◌*◌, ◌<◌, ◌≤◌, List, length}
use Rattle.graph_core.specs.declared.literal.Lit.{Lit}
use Rattle.graph_core.specs.declared.gate.Gate.{Gate}
use Rattle.graph_core.specs.declared.order.Order.TheVariants.{Separate}
use Rattle.graph_core.specs.Graph.{Aig, IsWellFormed}
use Rattle.graph_core.specs.declared.profile.Profile.{Profile}
use Rattle.graph_core.specs.declared.profile.Profile.TheVariants as profile
use Rattle.graph_core.specs.Aiger.{HasCounts, IsPacked}
use Rattle.graph_core.specs.Aiger.Writing.{written}
use Rattle.graph_core.specs.Graph.Operands.{width, HasMultiplierShape, Multiplies}
use Rattle.graph_maker.specs.declared.kind.Kind.{Kind}
use Rattle.graph_maker.specs.declared.kind.Kind.TheVariants.{Array, Dadda}
use Rattle.graph_maker.specs.declared.adder.Adder.{Adder}
use Rattle.graph_core.specs.Graph.Literals.{plain}
use Rattle.graph_maker.specs.Builder.{Builder, no_gates, literals_from}
use Rattle.graph_maker.specs.Ripple.{Outputs}
use Rattle.graph_maker.specs.Products.{products}
use Rattle.graph_maker.specs.ArrayRows.{array}
use Rattle.graph_maker.specs.DaddaTree.{dadda}

abbrev pub outputs_of : Kind → Adder → Builder → List (List Lit) → Outputs
outputs_of Array adder b rows = array adder b rows
outputs_of Dadda adder b rows = dadda adder b rows

-- The product of a, in the variables 1 to m, and b, in the next n, whose gates stand after so many inputs.
abbrev pub product_behind : ℕ → Kind → ℕ → ℕ → Adder → Outputs
product_behind inputs kind m n adder =
    let p = products (no_gates inputs) (literals_from 1 m) (literals_from (m + 1) n) in outputs_of kind adder p.builder p.rows

-- the graph of so many inputs, and of what was made after them
abbrev pub whole_graph : ℕ → Outputs → Aig
whole_graph inputs r = record { max = r.builder.last; inputs = literals_from 1 inputs; outputs = r.outputs; gates = r.builder.gates }

-- The graph of a kind, a width and an adder: a is in the variables 1 to n, b in the next n, and the gates follow.
abbrev pub made : Kind → ℕ → Adder → Aig
made kind n adder = whole_graph (2 * n) (product_behind (2 * n) kind n n adder)

-- Each made graph has two operands of n bits and an output for each bit of the product, has no fault, and multiplies.
pub record IsMadeMultiplier (n : ℕ) (g : Aig) : Type 0 where
  pub width : width g ≡ n
  pub shape : HasMultiplierShape g
  pub whole : length g.outputs ≡ 2 * n
  pub well_formed : IsWellFormed g
  pub multiplies : Multiplies g Separate

abbrev pub MadeMultiplies : Type 0
MadeMultiplies = (kind : Kind) (n : ℕ) (adder : Adder) → 0 < n → IsMadeMultiplier n (made kind n adder)

-- a gate's left side and two operands
abbrev pub gate_line : Gate → Lit × Lit × Lit
gate_line x = (plain x.v, x.left, x.right)

-- What is written for the graph is packed, and within the counts of a profile.
pub record IsPackedAs (p : Profile) (g : Aig) : Type 0 where
  pub counts : HasCounts p (written g)
  pub packed : IsPacked (written g)

-- Up to 64 bits a made graph is a packed one.
abbrev pub MadeArePacked : Type 0
MadeArePacked = (kind : Kind) (n : ℕ) (adder : Adder) → 0 < n → n ≤ 64 → IsPackedAs profile.Multiplier (made kind n adder)
