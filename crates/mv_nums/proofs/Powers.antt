-- Remainders modulo powers of two, of which the greatest is 2^128.
use Rattle.std.proofs.Common.{◌≡◌, bit_and, ℕ, ◌*◌, ◌<◌, ◌+◌, ◌-◌, ◌%◌, ◌^◌, ◌≤◌, sym, ap, ◌∙◌, subst, arith, mul_assoc, add_assoc}
use Rattle.std.proofs.Math.Nat.{mod-add-mod, add-mod-mod, mul-mod_left, mod-eq_of_lt, zero-mod}
use Rattle.std.proofs.Math.Pow.{mod-mod-pow}
use Rattle.std.proofs.lemmas.Nat.{and_mask, one_shl, pow-add}

-- the low bits of the low 128 bits
pub low_of : (n w : ℕ) → w ≤ 128 → n % 2 ^ 128 % 2 ^ w ≡ n % 2 ^ w
low_of n w h =
    let e : 128 - w + w ≡ 128 = omega arith in
    subst (λ (k : ℕ). n % 2 ^ k % 2 ^ w ≡ n % 2 ^ w) e (mod-mod-pow n (128 - w) w)

-- what the mask of the low bits leaves
pub masked : (n w : ℕ) → w < 128 → bit_and n ((1 * 2 ^ w) % 2 ^ 128 - 1) ≡ n % 2 ^ w
masked n w h = rw (one_shl w 128 h) (and_mask n w)

-- an opposite modulo 2^128 is one modulo each lower power
pub opposite : (a b w : ℕ) → w ≤ 128 → (b + a) % 2 ^ 128 ≡ 0 → (b % 2 ^ w + a) % 2 ^ w ≡ 0
opposite a b w h e = mod-add-mod b (2 ^ w) a ∙ sym (low_of (b + a) w h) ∙ ap (λ r. r % 2 ^ w) e ∙ zero-mod (2 ^ w)

-- adding an opposite takes the number away
pub difference : (a b c m : ℕ) → a < m → (c + b) % m ≡ 0 → ((a + c) % m + b) % m ≡ a
difference a b c m h e =
    let add_zero : a + 0 ≡ a = omega arith in
    mod-add-mod (a + c) m b ∙ ap (λ n. n % m) (add_assoc a c b) ∙ sym (add-mod-mod a (c + b) m) ∙ ap (λ r. (a + r) % m) e ∙
    ap (λ n. n % m) add_zero ∙ mod-eq_of_lt h

-- nothing is left of a shift by the width or more
pub shifted_out : (a k w : ℕ) → w ≤ k → (a * 2 ^ k) % 2 ^ w ≡ 0
shifted_out a k w h =
    let split : k - w + w ≡ k = omega arith in
    subst (λ (j : ℕ). (a * 2 ^ j) % 2 ^ w ≡ 0) split
    (ap (λ p. (a * p) % 2 ^ w) (pow-add 2 (k - w) w) ∙ ap (λ n. n % 2 ^ w) (sym (mul_assoc a (2 ^ (k - w)) (2 ^ w))) ∙ mul-mod_left (a * 2 ^ (k - w)) (2 ^ w))
