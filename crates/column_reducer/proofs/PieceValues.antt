-- The values of what a step makes.
use Rattle.std.specs.Prelude.{◌≡◌, ℕ, ◌+◌, ◌*◌, ◌%◌, ◌^◌, ◌<◌, ◌≤◌, Bool, true, false}
use Rattle.std.proofs.Common.{refl, ap, ◌∙◌, arith}
use Rattle.std.proofs.Math.Nat.{mod-eq_of_lt, zero-mod}
use Rattle.std.proofs.Math.Pow.{pow-lt}
use Rattle.std.proofs.lemmas.Nat.{one_shl, pow_pos}
use Rattle.graph_core.specs.Graph.Assignments.{Assignment, bit}
use Rattle.algebra_core.specs.Polynomials.{difference}
use Rattle.gate_axioms.proofs.Opposites.{opposite_difference, one_reduced}
use Rattle.poly_terms.specs.Tables.{Table, Sum, modulus_in, value_in}

pub bit_reduced : (b : Bool) (w : ℕ) → 1 ≤ w → bit b % 2 ^ w ≡ bit b
bit_reduced true w h = one_reduced w h
bit_reduced false w h = zero-mod (2 ^ w)

-- a polynomial times an opposite of 1
pub opposite_has : (t : Table) (p r : Sum) (o : ℕ) (σ : Assignment) → (o + 1) % modulus_in t ≡ 0 → value_in t r σ ≡ (o * value_in t p σ) % modulus_in t → value_in t r σ ≡ difference (modulus_in t) 0 (value_in t p σ)
opposite_has t p r o σ opposite r_is =
    let m = modulus_in t in
    let y = value_in t p σ in
    r_is ∙ ap (λ z. z % m) (let e : o * y ≡ 0 + o * y = omega arith in e) ∙ opposite_difference m 0 y (0 + o * y) o (pow_pos t.exponent) opposite refl

-- 2^k, below the modulus
pub power_small : (k w : ℕ) → k < w → w ≤ 128 → (1 * 2 ^ k) % 2 ^ 128 % 2 ^ w ≡ 2 ^ k
power_small k w low wide = ap (λ n. n % 2 ^ w) (one_shl k 128 (omega arith)) ∙ mod-eq_of_lt (pow-lt low)
