-- Numbers below a power of two, divided by another one of which they are multiples.
use Rattle.std.proofs.Common.{◌≡◌, ℕ, ◌+◌, ◌-◌, ◌*◌, ◌/◌, ◌%◌, ◌^◌, ◌<◌, ◌≤◌, sym, ap, ◌∙◌, ⊎_elim, arith}
use Rattle.std.proofs.Math.Nat.{add-mod-mod, div-add-mod, mod-eq-sub-mod, mod-eq_of_lt, mul-mod_left, pow-le-pow_right, zero-mod}
use Rattle.std.proofs.lemmas.Bool.{cases_lt}
use Rattle.std.proofs.lemmas.Nat.{mul-mod_second, pow-add}
use Rattle.poly_terms.proofs.Residues.{left_out}

-- a multiple is so many times its quotient
whole : (by n : ℕ) → n % by ≡ 0 → by * (n / by) ≡ n
whole by n multiple = omega (arith, div-add-mod n by)

-- a number that isn't 0 makes the modulus with its opposite
with_opposite : (m c o : ℕ) → c < m → o < m → 0 < c → (o + c) % m ≡ 0 → o + c ≡ m
with_opposite m c o low o_low some zero =
    ⊎_elim (λ below. let none : o + c ≡ 0 = sym (mod-eq_of_lt below) ∙ zero in absurd (omega arith)) (λ above.
    let rest : o + c - m < m = omega arith in
    let none : o + c - m ≡ 0 = sym (mod-eq_of_lt rest) ∙ sym (mod-eq-sub-mod above) ∙ zero in omega arith) (cases_lt (o + c) m)

-- a power of two divides the greater one if it divides a number below that
divides_modulus : (k w c : ℕ) → c < 2 ^ w → 0 < c → c % 2 ^ k ≡ 0 → 2 ^ w % 2 ^ k ≡ 0
divides_modulus k w c low some multiple =
    ⊎_elim (λ less.
    let parts : w - k + k ≡ w = omega arith in
    ap (λ n. 2 ^ n % 2 ^ k) (sym parts) ∙ ap (λ n. n % 2 ^ k) (pow-add 2 (w - k) k) ∙ mul-mod_left (2 ^ (w - k)) (2 ^ k)) (λ more.
    let grows : 2 ^ w ≤ 2 ^ k = pow-le-pow_right {n = 2} (omega arith) more in
    let below : c < 2 ^ k = omega arith in
    let none : c ≡ 0 = sym (mod-eq_of_lt below) ∙ multiple in absurd (omega arith)) (cases_lt k w)

-- an opposite of a multiple is one too
opposite_multiple : (k w c o : ℕ) → c < 2 ^ w → o < 2 ^ w → 0 < c → c % 2 ^ k ≡ 0 → (o + c) % 2 ^ w ≡ 0 → o % 2 ^ k ≡ 0
opposite_multiple k w c o low o_low some multiple zero =
    let by = 2 ^ k in
    ap (λ n. n % by) (let e : o ≡ o + 0 = omega arith in e) ∙ ap (λ n. (o + n) % by) (sym multiple) ∙ add-mod-mod o c by ∙
    ap (λ n. n % by) (with_opposite (2 ^ w) c o low o_low some zero) ∙ divides_modulus k w c low some multiple

-- a multiple that is shifted
pub shifted_low : (k w c : ℕ) → c < 2 ^ w → c % 2 ^ k ≡ 0 → (2 ^ k * (c / 2 ^ k)) % 2 ^ w ≡ c
shifted_low k w c low multiple = ap (λ n. n % 2 ^ w) (whole (2 ^ k) c multiple) ∙ mod-eq_of_lt low

-- and one of which the opposite is
pub shifted_high : (k w c o q : ℕ) → c < 2 ^ w → o < c → c % 2 ^ k ≡ 0 → (o + c) % 2 ^ w ≡ 0 → (q + o / 2 ^ k) % 2 ^ w ≡ 0 → (2 ^ k * q) % 2 ^ w ≡ c
shifted_high k w c o q low less multiple zero none =
    let m = 2 ^ w in
    let by = 2 ^ k in
    let back : by * (o / by) ≡ o = whole by o (opposite_multiple k w c o low (omega arith) (omega arith) multiple zero) in
    let both : (by * q + o) % m ≡ 0 =
    ap (λ n. n % m) (let e : by * q + o ≡ by * (q + o / by) = omega arith in e) ∙ sym (mul-mod_second by (q + o / by) m) ∙ ap (λ n. (by * n) % m) none ∙
    ap (λ n. n % m) (let e : by * 0 ≡ 0 = omega arith in e) ∙ zero-mod m in
    left_out m (by * q) c o (omega arith) (both ∙ sym zero ∙ ap (λ n. n % m) (let e : o + c ≡ c + o = omega arith in e)) ∙ mod-eq_of_lt low
