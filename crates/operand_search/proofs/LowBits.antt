-- The numbers that operands stand for, as they are computed modulo 2 ^ 128.
use Rattle.std.specs.Prelude.{◌≡◌, ℕ, zero, suc, ◌+◌, ◌*◌, ◌-◌, ◌/◌, ◌%◌, ◌^◌, ◌<◌, ◌≤◌, cond}
use Rattle.std.proofs.Common.{refl, sym, ap, subst, ◌∙◌, arith, pow_mono, pow-suc}
use Rattle.std.proofs.Math.Nat.{add-mul-mod_self_left, div-add-mod}
use Rattle.std.proofs.lemmas.Bool.{lt-ltb, le-ltb}
use Rattle.std.proofs.lemmas.Nat.{pow-add, pow_pos}
use Rattle.graph_core.specs.declared.sign.Sign.{Sign}
use Rattle.graph_core.specs.declared.sign.Sign.TheVariants.{Signed}
use Rattle.graph_core.specs.Graph.Operands.{number_as}
use Rattle.graph_core.proofs.OfGraphs.CallerLemmas.{product_same, sum_same}
use Rattle.operand_search.specs.Numbers.{IsNumber}

-- a remainder by a multiple of m has the number's remainder by m
low_of : (m q x : ℕ) → x % (m * q) % m ≡ x % m
low_of m q x =
    let split : x ≡ x % (m * q) + m * (q * (x / (m * q))) = sym (div-add-mod x (m * q)) ∙ omega arith in
    sym (add-mul-mod_self_left (x % (m * q)) m (q * (x / (m * q)))) ∙ ap (λ z. z % m) (sym split)

powers : (k : ℕ) → k ≤ 128 → 2 ^ 128 ≡ 2 ^ k * 2 ^ (128 - k)
powers k h =
    let e : 128 ≡ k + (128 - k) = omega arith in
    ap (λ n. 2 ^ n) e ∙ pow-add 2 k (128 - k)

low_power : (k x : ℕ) → k ≤ 128 → x % 2 ^ 128 % 2 ^ k ≡ x % 2 ^ k
low_power k x h = ap (λ z. x % z % 2 ^ k) (powers k h) ∙ low_of (2 ^ k) (2 ^ (128 - k)) x

-- what a number is where it is low, and where its highest bit is 1
number_low : (n a : ℕ) → a < 2 ^ (n - 1) → IsNumber Signed n a a
number_low n a h k small = ap (λ z. z % 2 ^ k) (ap (λ b. cond b a (a + (2 ^ k - 1) * 2 ^ n)) (sym (lt-ltb a (2 ^ (n - 1)) h)))

-- taking p away modulo a multiple of m is adding -1 times p modulo m
minus_same : (m q d e a p : ℕ) → d + p ≡ m * q → e + 1 ≡ m → (a + d) % m ≡ (a + e * p) % m
minus_same m q d e a p whole minus =
    let both : (a + d) + m * p ≡ (a + e * p) + m * q = omega (arith, ap (λ k. k * p) minus) in
    sym (add-mul-mod_self_left (a + d) m p) ∙ ap (λ z. z % m) both ∙ add-mul-mod_self_left (a + e * p) m q

number_high : (n a x : ℕ) → 2 ^ (n - 1) ≤ a → 2 ^ n ≤ 2 ^ 128 → x ≡ (a + (2 ^ 128 - 2 ^ n)) % 2 ^ 128 → IsNumber Signed n a x
number_high n a x h below is k small =
    let whole : (2 ^ 128 - 2 ^ n) + 2 ^ n ≡ 2 ^ k * 2 ^ (128 - k) = rejoin (2 ^ 128) (2 ^ n) below ∙ powers k small in
    let minus : (2 ^ k - 1) + 1 ≡ 2 ^ k = rejoin (2 ^ k) 1 (pow_pos k) in
    ap (λ z. z % 2 ^ k) is ∙ low_power k (a + (2 ^ 128 - 2 ^ n)) small ∙ minus_same (2 ^ k) (2 ^ (128 - k)) (2 ^ 128 - 2 ^ n) (2 ^ k - 1) a (2 ^ n) whole minus ∙
    ap (λ z. z % 2 ^ k) (ap (λ b. cond b a (a + (2 ^ k - 1) * 2 ^ n)) (sym (le-ltb a (2 ^ (n - 1)) h)))
  where
    rejoin : (x y : ℕ) → y ≤ x → (x - y) + y ≡ x
    rejoin x y l = omega arith

-- half of a power of 2
half_low : (n a : ℕ) → 2 * a < 2 ^ n → a < 2 ^ (n - 1)
half_low zero a h = omega arith
half_low (suc k) a h = let e : k ≡ suc k - 1 = omega arith in subst (λ j. a < 2 ^ j) e (omega (arith, pow-suc 2 k))

half_high : (n a : ℕ) → 2 ^ n ≤ 2 * a → 2 ^ (n - 1) ≤ a
half_high zero a h = omega arith
half_high (suc k) a h = let e : k ≡ suc k - 1 = omega arith in subst (λ j. 2 ^ j ≤ a) e (omega (arith, pow-suc 2 k))

-- a power of 2 that fits is computed as it is
shifted : (n : ℕ) → n ≤ 64 → 1 * 2 ^ n % 2 ^ 128 ≡ 2 ^ n
shifted n small = let upper : 2 ^ n ≤ 2 ^ 64 = pow_mono small in omega (arith, upper)

-- the number that is computed of a signed operand, where it is low and where its highest bit is 1
pub number_kept : (sign : Sign) (n a : ℕ) → sign ≡ Signed → n ≤ 64 → 2 * a < 1 * 2 ^ n % 2 ^ 128 → IsNumber sign n a a
number_kept sign n a signed small low = subst (λ s. IsNumber s n a a) (sym signed) (number_low n a (half_low n a (subst (λ z. 2 * a < z) (shifted n small) low)))

pub number_wrapped : (sign : Sign) (n a x : ℕ) → sign ≡ Signed → n ≤ 64 → 1 * 2 ^ n % 2 ^ 128 ≤ 2 * a → x ≡ (a + (2 ^ 128 - 1 * 2 ^ n % 2 ^ 128)) % 2 ^ 128 → IsNumber sign n a x
number_wrapped sign n a x signed small high is =
    let upper : 2 ^ n ≤ 2 ^ 64 = pow_mono small in
    subst (λ s. IsNumber s n a x) (sym signed)
    (number_high n a x (half_high n a (subst (λ z. z ≤ 2 * a) (shifted n small) high)) (omega (arith, upper)) (is ∙ ap (λ z. (a + (2 ^ 128 - z)) % 2 ^ 128) (shifted n small)))

-- the product of two such numbers, and an addend
pub sum_is : (sign : Sign) (n j k a b c x y p q : ℕ) → k ≤ 128 → IsNumber sign n a x → IsNumber sign j b y → p ≡ (x * y) % 2 ^ 128 → q ≡ (p + c) % 2 ^ 128 →
    q % 2 ^ k ≡ (number_as sign (2 ^ k) n a * number_as sign (2 ^ k) j b + c) % 2 ^ k
sum_is sign n j k a b c x y p q small first second product sum =
    let product_is : p % 2 ^ k ≡ number_as sign (2 ^ k) n a * number_as sign (2 ^ k) j b % 2 ^ k =
    ap (λ z. z % 2 ^ k) product ∙ low_power k (x * y) small ∙ product_same (2 ^ k) x (number_as sign (2 ^ k) n a) y (number_as sign (2 ^ k) j b) (first k small) (second k small) in
    ap (λ z. z % 2 ^ k) sum ∙ low_power k (p + c) small ∙ sum_same (2 ^ k) p (number_as sign (2 ^ k) n a * number_as sign (2 ^ k) j b) c c product_is refl
