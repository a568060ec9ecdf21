-- Functions of no monomials.
use Rattle.std.specs.Prelude.{◌≡◌, ◌≢◌, ℕ, ◌+◌, ◌%◌, ◌<◌, [], ◌∷◌, length}
use Rattle.std.proofs.Common.{sym, ap, ◌∙◌, arith}
use Rattle.std.proofs.Math.Nat.{zero-mod}
use Rattle.graph_core.specs.Graph.Assignments.{Assignment}
use Rattle.algebra_core.specs.Polynomials.{Polynomial, difference, value}
use Rattle.algebra_core.specs.NormalForm.{HasSize}
use Rattle.algebra_core.proofs.CallerLemmas.{normal_forms_differ, difference_plus}

-- a function of size 0 is 0
pub size_none : (m : ℕ) (f : Assignment → ℕ) (n : ℕ) → HasSize m f n → n ≡ 0 → (σ : Assignment) → f σ ≡ 0
size_none m f n h none σ = sym (h.2 σ) ∙ go h.0 (h.3 ∙ none)
  where
    go : (p : Polynomial) → length p ≡ 0 → value m p σ ≡ 0
    go [] e = zero-mod m
    go (t ∷ p) e = absurd (omega arith)

-- one of another size isn't 0 everywhere
pub size_some : (m : ℕ) (f : Assignment → ℕ) (n : ℕ) → HasSize m f n → n ≢ 0 → ((σ : Assignment) → f σ ≡ 0) → ⊥
size_some m f n h some none =
    let is = h.3 in
    let at = normal_forms_differ m h.0 h.1 (omega arith) in at.1 (h.2 at.0 ∙ none at.0)

-- where minus a number is 0, the number is
pub opposite_zero : (m b : ℕ) → 0 < m → b % m ≡ b → difference m 0 b ≡ 0 → b ≡ 0
opposite_zero m b h small is =
    let more : b ≡ difference m 0 b + b = omega (arith, is) in
    sym small ∙ ap (λ z. z % m) more ∙ difference_plus m 0 b h ∙ zero-mod m
