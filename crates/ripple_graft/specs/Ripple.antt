-- A ripple-carry adder as and-gates: as many positions as there are pairs.
use Rattle.std.specs.Prelude.{◌≡◌, ℕ, ◌+◌, List, [], ◌∷◌, ◌++◌, map}
use Rattle.graph_core.specs.declared.literal.Lit.{Lit}
use Rattle.graph_core.specs.declared.gate.Gate.{Gate}
use Rattle.graph_core.specs.Graph.Literals.{constant_false}
use Rattle.graph_core.specs.Graph.Positions.{position, sum_after, carry_after}
use Rattle.graph_core.specs.Graph.Assignments.{Assignment, word}
use Rattle.graph_core.specs.Graph.{IsEvaluation}

-- the gates of the adder over some pairs, in the variables after v, with the carry c into the first position
abbrev pub ripple_gates : ℕ → Lit → List (Lit × Lit) → List Gate
ripple_gates v c [] = []
ripple_gates v c (p ∷ ps) = position v p.0 p.1 c ++ ripple_gates (v + 7) (carry_after v) ps

-- its sums, and after them the last carry
abbrev pub ripple_outputs : ℕ → Lit → List (Lit × Lit) → List Lit
ripple_outputs v c [] = c ∷ []
ripple_outputs v c (p ∷ ps) = sum_after v ∷ ripple_outputs (v + 7) (carry_after v) ps

-- On each evaluation of the adder the word of its sums and last carry is the sum of the pairs' words.
abbrev pub RippleAdds : Type 0
RippleAdds = (v : ℕ) (pairs : List (Lit × Lit)) (σ : Assignment) → IsEvaluation (ripple_gates v constant_false pairs) σ →
    word σ (ripple_outputs v constant_false pairs) ≡ word σ (map (λ p. p.0) pairs) + word σ (map (λ p. p.1) pairs)
