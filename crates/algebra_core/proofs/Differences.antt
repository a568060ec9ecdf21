-- Lemmas on differences modulo a number.
use Rattle.std.specs.Prelude.{◌≡◌, ℕ, ◌+◌, ◌*◌, ◌-◌, ◌/◌, ◌%◌, ◌<◌}
use Rattle.std.proofs.Common.{sym, ap, ◌∙◌, arith, ⊎_elim, mod-eq_of_lt, mod-lt}
use Rattle.std.proofs.Math.Nat.{mod-mod, mul-mod_right, div-add-mod, add-mod_left, mod-add-mod, add-mul-mod_self_left}
use Rattle.std.proofs.lemmas.Bool.{cases_lt}
use Rattle.algebra_core.specs.Polynomials.{difference}
use Rattle.graph_core.proofs.OfGraphs.CallerLemmas.{sum_same}

-- a number minus itself
pub difference_same : (m x : ℕ) → 0 < m → difference m x x ≡ 0
difference_same m x h =
    let up : x + (m - x % m) ≡ m * (x / m + 1) = omega (arith, div-add-mod x m, mod-lt x h) in
    ap (λ z. z % m) up ∙ mul-mod_right m (x / m + 1)

-- two numbers below m whose difference is 0 are equal
pub same_from_difference : (m x y : ℕ) → x < m → y < m → difference m x y ≡ 0 → x ≡ y
same_from_difference m x y xm ym h =
    ⊎_elim
    (λ lt.
    let low : x + (m - y) < m = omega arith in
    let e : (x + (m - y)) ≡ 0 = sym (mod-eq_of_lt low) ∙ ap (λ z. (x + (m - z)) % m) (sym (mod-eq_of_lt ym)) ∙ h in
    omega arith)
    (λ ge.
    let low : x - y < m = omega arith in
    let up : m + (x - y) ≡ x + (m - y) = omega arith in
    let e : (x - y) ≡ 0 = sym (mod-eq_of_lt low) ∙ sym (add-mod_left m (x - y)) ∙ ap (λ z. z % m) up ∙ ap (λ z. (x + (m - z)) % m) (sym (mod-eq_of_lt ym)) ∙ h in
    omega arith)
    (cases_lt x y)

-- a number below m that differs by 0 from another one is that one modulo m
pub claim_from_difference : (m x y : ℕ) → x < m → difference m x y ≡ 0 → x ≡ y % m
claim_from_difference m x y xm h =
    let some : 0 < m = omega arith in
    same_from_difference m x (y % m) xm (mod-lt y some) (ap (λ z. (x + (m - z)) % m) (mod-mod y m) ∙ h)

-- the difference and what was taken away
pub difference_plus : (m x y : ℕ) → 0 < m → (difference m x y + y) % m ≡ x % m
difference_plus m x y h =
    let up : (x + (m - y % m)) + y ≡ x + m * (y / m + 1) = omega (arith, div-add-mod y m, mod-lt y h) in
    mod-add-mod (x + (m - y % m)) m y ∙ ap (λ z. z % m) up ∙ add-mul-mod_self_left x m (y / m + 1)

-- a number that gives x with y is the difference
pub difference_is : (m x y z : ℕ) → 0 < m → (z + y) % m ≡ x % m → difference m x y ≡ z % m
difference_is m x y z h e =
    let up : (z + y) + (m - y % m) ≡ z + m * (y / m + 1) = omega (arith, div-add-mod y m, mod-lt y h) in
    sym (sum_same m (z + y) x (m - y % m) (m - y % m) e (λ i. (m - y % m) % m)) ∙ ap (λ w. w % m) up ∙ add-mul-mod_self_left z m (y / m + 1)

pub difference_below : (m x y : ℕ) → 0 < m → difference m x y < m
difference_below m x y h = mod-lt (x + (m - y % m)) h
