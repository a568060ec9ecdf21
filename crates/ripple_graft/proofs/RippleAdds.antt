-- A ripple-carry adder adds.
use Rattle.std.specs.Prelude.{◌≡◌, ℕ, ◌+◌, not, ◌&&◌, List, [], ◌∷◌, map}
use Rattle.std.specs.List.{AllByRecursion}
use Rattle.std.proofs.Common.{refl, ap, ap₂, ◌∙◌, arith}
use Rattle.std.proofs.lemmas.List.Elements.{recursion_from_All}
use Rattle.graph_core.specs.declared.literal.Lit.{Lit}
use Rattle.graph_core.specs.Graph.Assignments.{Assignment, bit, variable, literal, word}
use Rattle.graph_core.specs.Graph.Literals.{constant_false, inverted, plain}
use Rattle.graph_core.proofs.OfGraphs.CallerLemmas.{full_adder, literal-even, literal-negated, literal-odd}
use Rattle.graph_core.specs.Graph.Positions.{carry_after, sum_after}
use Rattle.ripple_graft.specs.Ripple.{ripple_gates, ripple_outputs, RippleAdds}

ripple_adds_from : (v : ℕ) (c : Lit) (ps : List (Lit × Lit)) (σ : Assignment) →
    AllByRecursion (λ x. variable σ x.v ≡ (literal σ x.left && literal σ x.right)) (ripple_gates v c ps) →
    word σ (ripple_outputs v c ps) ≡ word σ (map (λ p. p.0) ps) + word σ (map (λ p. p.1) ps) + bit (literal σ c)
ripple_adds_from v c [] σ h = omega arith
ripple_adds_from v c (p ∷ ps) σ h =
    let out = λ (k : ℕ). literal-even σ (plain (v + k)) (v + k) refl in
    let not_out = λ (k : ℕ). literal-odd σ (inverted (v + k)) (v + k) refl in
    let rest = ripple_adds_from (v + 7) (carry_after v) ps σ h.1.1.1.1.1.1.1 in
    let adds = full_adder (literal σ p.0) (literal σ p.1) (literal σ c) (variable σ (v + 1)) (variable σ (v + 2)) (variable σ (v + 3)) (variable σ (v + 4)) (variable σ (v + 5)) (variable σ (v + 6)) (variable σ (v + 7))
    h.0
    (h.1.0 ∙ ap₂ ◌&&◌ (literal-negated σ p.0) (literal-negated σ p.1))
    (h.1.1.0 ∙ ap₂ ◌&&◌ (not_out 1) (not_out 2))
    (h.1.1.1.0 ∙ ap (λ a. a && literal σ c) (out 3))
    (h.1.1.1.1.0 ∙ ap₂ ◌&&◌ (not_out 3) (literal-negated σ c))
    (h.1.1.1.1.1.0 ∙ ap₂ ◌&&◌ (not_out 4) (not_out 5))
    (h.1.1.1.1.1.1.0 ∙ ap₂ ◌&&◌ (not_out 1) (not_out 4)) in
    let sum_is : bit (literal σ (sum_after v)) ≡ bit (variable σ (v + 6)) = ap bit (out 6) in
    let carry_is : bit (literal σ (carry_after v)) ≡ bit (not (variable σ (v + 7))) = ap bit (not_out 7) in
    omega (arith, rest, adds, sum_is, carry_is)

pub ripple_adds : RippleAdds
ripple_adds v pairs σ evaluates =
    ripple_adds_from v constant_false pairs σ (recursion_from_All (λ x. variable σ x.v ≡ (literal σ x.left && literal σ x.right)) (ripple_gates v constant_false pairs) evaluates) ∙ omega arith
