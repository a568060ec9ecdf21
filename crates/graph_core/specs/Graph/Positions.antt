-- One position of a ripple-carry adder as and-gates.
use Rattle.std.specs.Prelude.{ℕ, ◌+◌, List, [], ◌∷◌}
use Rattle.graph_core.specs.declared.literal.Lit.{Lit}
use Rattle.graph_core.specs.declared.gate.Gate.{Gate}
use Rattle.graph_core.specs.Graph.Literals.{negation_of, plain, inverted, and_gate}

-- The gates for x, y and the carry c, in the seven variables after v:
-- u = x & y, w = !x & !y, t = !u & !w, e = t & c, f = !t & !c, s = !e & !f, h = !u & !e.
abbrev pub position : ℕ → Lit → Lit → Lit → List Gate
position v x y c =
    and_gate (v + 1) x y ∷ and_gate (v + 2) (negation_of x) (negation_of y) ∷ and_gate (v + 3) (inverted (v + 1)) (inverted (v + 2)) ∷
    and_gate (v + 4) (plain (v + 3)) c ∷ and_gate (v + 5) (inverted (v + 3)) (negation_of c) ∷
    and_gate (v + 6) (inverted (v + 4)) (inverted (v + 5)) ∷ and_gate (v + 7) (inverted (v + 1)) (inverted (v + 4)) ∷ []

-- its sum is s, and its carry out is !h
abbrev pub sum_after : ℕ → Lit
sum_after v = plain (v + 6)

abbrev pub carry_after : ℕ → Lit
carry_after v = inverted (v + 7)
