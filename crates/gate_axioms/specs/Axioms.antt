-- Polynomials of a table with the values of axioms and of the specification, and where they are 0.
use Rattle.std.specs.Prelude.{◌≡◌}
use Rattle.graph_core.specs.declared.literal.Lit.{Lit}
use Rattle.graph_core.specs.declared.gate.Gate.{Gate}
use Rattle.algebra_core.specs.AlgebraLines.{gate_axiom, specification}
use Rattle.graph_core.specs.Graph.Assignments.{Assignment, bit, literal}
use Rattle.graph_core.specs.Graph.Extended.{Extended}
use Rattle.graph_core.specs.Graph.Operands.{Sides}
use Rattle.algebra_core.specs.Polynomials.{difference}
use Rattle.poly_terms.specs.Tables.{Table, Sum, modulus_in, value_in}

-- at every assignment it has the value of a gate's axiom
abbrev pub IsGateAxiom : Table → Sum → Gate → Type 0
IsGateAxiom t p gate = (σ : Assignment) → value_in t p σ ≡ (gate_axiom (modulus_in t) gate).value σ

-- at every assignment it has the value of the first literal minus the second
abbrev pub IsLiteralDifference : Table → Sum → Lit → Lit → Type 0
IsLiteralDifference t p left right = (σ : Assignment) → value_in t p σ ≡ difference (modulus_in t) (bit (literal σ left)) (bit (literal σ right))

-- at every assignment it has the value of the specification
abbrev pub HasSpecificationValue : Table → Sum → Extended → Sides → Type 0
HasSpecificationValue t p e s = (σ : Assignment) → value_in t p σ ≡ specification e s σ

-- The difference of two literals is 0 wherever they are equal.
abbrev pub EqualLiteralsVanish : Type 0
EqualLiteralsVanish = (t : Table) (p : Sum) (left right : Lit) (σ : Assignment) →
    IsLiteralDifference t p left right → literal σ left ≡ literal σ right → value_in t p σ ≡ 0
