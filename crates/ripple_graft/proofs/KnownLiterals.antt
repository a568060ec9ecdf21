-- Which variables are defined: those of inputs, and those of gates.
use Rattle.std.specs.Prelude.{◌≡◌, ◌↔◌, ℕ, ◌<◌, ◌⊎◌, List, map, length}
use Rattle.std.specs.List.{Any, Contains}
use Rattle.std.proofs.Common.{ap, sym, ◌∙◌, arith, get_or, inl, inr, ⊎_elim}
use Rattle.std.proofs.lemmas.List.{get_or-map, get_or_default, length-map}
use Rattle.std.proofs.lemmas.List.Elements.{Contains-append_left, Contains-append_right, Contains-append_cases}
use Rattle.graph_core.specs.Graph.Literals.{variable_of}
use Rattle.graph_core.specs.Graph.{Aig, defined}

-- an element with an image, and the image among the images
image : {X : Type 0} (f : X → ℕ) (xs : List X) (v : ℕ) → Any (λ x. f x ≡ v) xs → Contains (map f xs) v
image f xs v some = (some.0, omega (arith, length-map xs f, some.2), get_or-map f xs some.0 some.1 v some.2 ∙ ap f some.3 ∙ some.4)

preimage : {X : Type 0} (f : X → ℕ) (xs : List X) (v : ℕ) → X → Contains (map f xs) v → Any (λ x. f x ≡ v) xs
preimage f xs v d c =
    let below : c.0 < length xs = omega (arith, length-map xs f, c.1) in
    (c.0, get_or xs c.0 d, below, get_or_default xs c.0 (get_or xs c.0 d) d below, sym (get_or-map f xs c.0 d v below) ∙ c.2)

pub defined_is : (g : Aig) (v : ℕ) → Contains (defined g) v ↔ (Any (λ l. variable_of l ≡ v) g.inputs ⊎ Any (λ x. x.v ≡ v) g.gates)
defined_is g v = (
  λ c. ⊎_elim (λ a. inl (preimage variable_of g.inputs v (record { 0 = 0 }) a)) (λ b. inr (preimage (λ x. x.v) g.gates v (record { v = 0; left = record { 0 = 0 }; right = record { 0 = 0 } }) b))
      (Contains-append_cases (map variable_of g.inputs) (map (λ x. x.v) g.gates) v c),
  λ some. ⊎_elim (λ a. Contains-append_left (map variable_of g.inputs) (map (λ x. x.v) g.gates) v (image variable_of g.inputs v a))
      (λ b. Contains-append_right (map variable_of g.inputs) (map (λ x. x.v) g.gates) v (image (λ x. x.v) g.gates v b)) some,
)
