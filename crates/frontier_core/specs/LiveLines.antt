-- Which lines are live under which ids, and lines that are put together from live ones.
use Rattle.std.specs.Prelude.{◌≡◌, ◌≢◌, ℕ, ◌+◌, List, [], ◌∷◌, ◌++◌}
use Rattle.std.specs.List.{Contains}
use Rattle.graph_core.specs.declared.gate.Gate.{Gate}
use Rattle.graph_core.specs.Graph.Assignments.{Assignment}
use Rattle.algebra_core.specs.Polynomials.{Polynomial, value}
use Rattle.graph_core.specs.Graph.Extended.{Extended, Column, modulus}
use Rattle.algebra_core.specs.AlgebraLines.{Line, Ledger, IsLive, IsLawfulLine, AreLawfulLines, axioms, column_axiom, gate_axiom, line_of, introduce, after, after_all, value_of}
use Rattle.ripple_graft.specs.Extension.{IsExtension}

-- The axioms are live under their ids.
abbrev pub AxiomsAreLive : Type 0
AxiomsAreLive = (e : Extended) → IsExtension e →
    ((x : Gate) → Contains e.gates x → IsLive (axioms e).live x.v × ((σ : Assignment) → value_of (axioms e).live x.v σ ≡ (gate_axiom (modulus e) x).value σ)) ×
    ((c : Column) → Contains e.replaced c → IsLive (axioms e).live (e.max + 1 + c.number) ×
    ((σ : Assignment) → value_of (axioms e).live (e.max + 1 + c.number) σ ≡ (column_axiom e c).value σ))

-- A new line is live under its id, and each line of another id is as it was.
abbrev pub NewLineIsLive : Type 0
NewLineIsLive = (m : ℕ) (l : Ledger) (id : ℕ) (p : Polynomial) →
    IsLive (introduce m l id p).live id × ((σ : Assignment) → value_of (introduce m l id p).live id σ ≡ value m p σ) ×
    ((i : ℕ) → i ≢ id → line_of (introduce m l id p).live i ≡ line_of l.live i)

-- One more lawful line.
abbrev pub LinesGrow : Type 0
LinesGrow = (m : ℕ) (l : Ledger) (xs : List Line) (x : Line) → AreLawfulLines m l xs → IsLawfulLine m (after_all m l xs) x →
    AreLawfulLines m l (xs ++ x ∷ []) × (after_all m l (xs ++ x ∷ []) ≡ after m (after_all m l xs) x)
