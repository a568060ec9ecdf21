-- What is made for a design, and what is claimed of it.
use Rattle.std.specs.Prelude.{ℕ, ◌≤◌, ⊤}
use Rattle.graph_core.specs.declared.claim.Claim.{Claim}
use Rattle.graph_core.specs.declared.order.Order.TheVariants.{Separate}
use Rattle.graph_core.specs.declared.sign.Sign.TheVariants.{Unsigned, Signed}
use Rattle.graph_core.specs.Graph.{Aig}
use Rattle.graph_core.specs.Graph.Operands.{multiplying, adding}
use Rattle.graph_maker.specs.declared.adder.Adder.{Adder}
use Rattle.graph_maker.specs.declared.design.Design.{Design}
use Rattle.graph_maker.specs.declared.design.Design.TheVariants.{Multiplier, OfWidths, Corrected, MultiplyAdd}
use Rattle.graph_maker.specs.Made.{made}
use Rattle.graph_maker.specs.MadeOfWidths.{claim_of_widths, made_of}
use Rattle.graph_maker.specs.Corrected.{made_corrected}
use Rattle.graph_maker.specs.WithAddend.{made_sum}

-- The graph of a design, a width and an adder.
abbrev pub designed : Design → ℕ → Adder → Aig
designed (Multiplier kind) n adder = made kind n adder
designed (OfWidths kind b) n adder = made_of kind n b adder
designed Corrected n adder = made_corrected n adder
designed (MultiplyAdd kind) n adder = made_sum kind n adder

-- What is claimed of it, and holds.
abbrev pub claim_of : Design → ℕ → Claim
claim_of (Multiplier kind) n = multiplying Separate Unsigned
claim_of (OfWidths kind b) n = claim_of_widths n b
claim_of Corrected n = multiplying Separate Signed
claim_of (MultiplyAdd kind) n = adding Separate Unsigned

-- A second operand of a width of its own has 1 to 64 bits.
abbrev pub IsDesign : Design → Type 0
IsDesign (OfWidths kind b) = (1 ≤ b) × (b ≤ 64)
IsDesign _ = ⊤
