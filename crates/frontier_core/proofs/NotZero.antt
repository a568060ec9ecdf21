-- The specification isn't 0 everywhere: the lowest bit of a product is no literal.
use Rattle.std.specs.Prelude.{◌≡◌, ℕ, zero, suc, ◌+◌, ◌*◌, ◌-◌, ◌/◌, ◌%◌, ◌^◌, ◌<◌, ◌≢◌, ◌⊎◌, Bool, true, false, not, cond, List, [], ◌∷◌, length, slice_get, ◌==◌}
use Rattle.std.specs.declared.option.Option.TheVariants.{Some}
use Rattle.std.proofs.Common.{refl, sym, ap, ap₂, ◌∙◌, arith, inl, inr, ⊎_elim, eq-eqb, ne_eqb, pow-suc}
use Rattle.std.proofs.Math.Nat.{div-add-mod}
use Rattle.std.specs.List.{AllByRecursion}
use Rattle.std.proofs.lemmas.Nat.{pow_pos}
use Rattle.std.proofs.lemmas.List.Elements.{recursion_from_All}
use Rattle.graph_core.specs.declared.literal.Lit.{Lit}
use Rattle.graph_core.specs.Graph.Literals.{variable_of}
use Rattle.graph_core.specs.Graph.Assignments.{Assignment, variable, literal, bit, word}
use Rattle.graph_core.specs.declared.sign.Sign.{Sign}
use Rattle.graph_core.specs.declared.sign.Sign.TheVariants.{Unsigned, Signed}
use Rattle.graph_core.specs.Graph.Operands.{Sides, signed_word, operand_word, claimed}
use Rattle.graph_core.specs.Graph.Extended.{modulus}
use Rattle.algebra_core.proofs.CallerLemmas.{vanishing_means_claim}
use Rattle.graph_core.proofs.OfGraphs.CallerLemmas.{literal-input, plus_word_is, product_same}
use Rattle.frontier_core.specs.RestLine.{SpecificationIsNotZero}

-- the assignment of two variables
abbrev two : ℕ → ℕ → Bool → Bool → Assignment
two a b x y v = cond (v == a) x (cond (v == b) y false)

-- a literal depends on but one of them
abbrev IsOfOne : Bool → Bool → Bool → Bool → Type 0
IsOfOne x y z w = ((x ≡ y) × (z ≡ w)) ⊎ ((x ≡ z) × (y ≡ w))

one_of_cond : (t x y z w p q r s : Bool) → IsOfOne x y z w → IsOfOne p q r s → IsOfOne (cond t x p) (cond t y q) (cond t z r) (cond t w s)
one_of_cond true x y z w p q r s h k = h
one_of_cond false x y z w p q r s h k = k

two_of_one : (a b v : ℕ) → IsOfOne (two a b true true v) (two a b true false v) (two a b false true v) (two a b false false v)
two_of_one a b v =
    one_of_cond (v == a) true true false false (cond (v == b) true false) (cond (v == b) false false) (cond (v == b) true false) (cond (v == b) false false) (inl (refl, refl))
    (one_of_cond (v == b) true false true false false false false false (inr (refl, refl)) (inl (refl, refl)))

variable_of_one : (x y z w : Assignment) (v : ℕ) → IsOfOne (x v) (y v) (z v) (w v) → IsOfOne (variable x v) (variable y v) (variable z v) (variable w v)
variable_of_one x y z w zero h = inl (refl, refl)
variable_of_one x y z w (suc v) h = h

one_of_map : (f : Bool → Bool) (x y z w : Bool) → IsOfOne x y z w → IsOfOne (f x) (f y) (f z) (f w)
one_of_map f x y z w h = ⊎_elim (λ e. inl (ap f e.0, ap f e.1)) (λ e. inr (ap f e.0, ap f e.1)) h

bits_of_one : (x y z w : Bool) → IsOfOne x y z w → bit x + bit w ≡ bit y + bit z
bits_of_one x y z w h = ⊎_elim (λ e. ap₂ (λ p q. bit p + bit q) e.0 (sym e.1)) (λ e. ap₂ (λ p q. bit p + bit q) e.0 (sym e.1) ∙ omega arith) h

-- the lowest bit of what is claimed
signed_low : (n : ℕ) (σ : Assignment) (l : Lit) (ls : List Lit) → 0 < n → signed_word (2 ^ n) σ (l ∷ ls) % 2 ≡ bit (literal σ l) % 2
signed_low zero σ l ls some = absurd (omega arith)
signed_low (suc n) σ l [] some =
    let b = bit (literal σ l) in
    let odd : 2 ^ suc n - 1 ≡ 1 + 2 * (2 ^ n - 1) = omega (arith, pow-suc 2 n, pow_pos n) in
    ap (λ d. d * b % 2) odd ∙ low (2 ^ n - 1) b
  where
    low : (d x : ℕ) → (1 + 2 * d) * x % 2 ≡ x % 2
    low d x = let split : (1 + 2 * d) * x ≡ x + 2 * (d * x) = omega arith in omega arith
signed_low (suc n) σ l (k ∷ ls) some = low (bit (literal σ l)) (signed_word (2 ^ suc n) σ (k ∷ ls))
  where
    low : (x y : ℕ) → (x + 2 * y) % 2 ≡ x % 2
    low x y = omega arith

operand_low : (n : ℕ) (sign : Sign) (σ : Assignment) (l : Lit) (ls : List Lit) → 0 < n → operand_word (2 ^ n) sign σ (l ∷ ls) % 2 ≡ bit (literal σ l) % 2
operand_low n Unsigned σ l ls some = low (bit (literal σ l)) (word σ ls)
  where
    low : (x y : ℕ) → (x + 2 * y) % 2 ≡ x % 2
    low x y = omega arith
operand_low n Signed σ l ls some = signed_low n σ l ls some

claim_low : (n : ℕ) (s : Sides) (a b : Lit) (σ : Assignment) → 0 < n → slice_get s.a 0 ≡ Some a → slice_get s.b 0 ≡ Some b → word σ s.c ≡ 0 →
    claimed (2 ^ n) s σ % 2 ≡ bit (literal σ a) * bit (literal σ b) % 2
claim_low n s a b σ some a_is b_is none =
    ap (λ z. z % 2) (plus_word_is (operand_word (2 ^ n) s.claim.sign σ s.a * operand_word (2 ^ n) s.claim.sign σ s.b) σ s.c ∙
    ap (λ z. operand_word (2 ^ n) s.claim.sign σ s.a * operand_word (2 ^ n) s.claim.sign σ s.b + z) none ∙ omega arith) ∙ go s.a s.b a_is b_is
  where
    go : (as' bs : List Lit) → slice_get as' 0 ≡ Some a → slice_get bs 0 ≡ Some b → operand_word (2 ^ n) s.claim.sign σ as' * operand_word (2 ^ n) s.claim.sign σ bs % 2 ≡ bit (literal σ a) * bit (literal σ b) % 2
    go [] bs h k = absurd (cc)
    go (x ∷ xs) [] h k = absurd (cc)
    go (x ∷ xs) (y ∷ ys) h k =
        let first : x ≡ a = cc in
        let second : y ≡ b = cc in
        product_same 2 (operand_word (2 ^ n) s.claim.sign σ (x ∷ xs)) (bit (literal σ x)) (operand_word (2 ^ n) s.claim.sign σ (y ∷ ys)) (bit (literal σ y))
        (operand_low n s.claim.sign σ x xs some) (operand_low n s.claim.sign σ y ys some) ∙ ap₂ (λ u v. bit (literal σ u) * bit (literal σ v) % 2) first second

-- a remainder by 2 ^ n has the number's lowest bit
low_stays : (n x : ℕ) → 0 < n → x % 2 ^ n % 2 ≡ x % 2
low_stays zero x h = absurd (omega arith)
low_stays (suc n) x h =
    let m = 2 ^ n in
    let up : 2 ^ suc n ≡ 2 * m = omega (arith, pow-suc 2 n) in
    let split : x ≡ 2 ^ suc n * (x / 2 ^ suc n) + x % 2 ^ suc n = sym (div-add-mod x (2 ^ suc n)) in
    let even : 2 ^ suc n * (x / 2 ^ suc n) ≡ 2 * (m * (x / 2 ^ suc n)) = ap (λ z. z * (x / 2 ^ suc n)) up ∙ omega arith in
    omega arith

word_low : (σ : Assignment) (l : Lit) (ls : List Lit) → word σ (l ∷ ls) % 2 ≡ bit (literal σ l) % 2
word_low σ l ls = omega arith

bit_small : (b : Bool) → bit b % 2 ≡ bit b
bit_small true = refl
bit_small false = refl

product_small : (x y : Bool) → bit x * bit y % 2 ≡ bit x * bit y
product_small true true = refl
product_small true false = refl
product_small false true = refl
product_small false false = refl

-- literals of other variables are 0 there
others_zero : (a b : ℕ) (x y : Bool) (ls : List Lit) → AllByRecursion (λ l. (l.0 % 2 ≡ 0) × (variable_of l ≢ a) × (variable_of l ≢ b)) ls → word (two a b x y) ls ≡ 0
others_zero a b x y [] h = refl
others_zero a b x y (l ∷ ls) h =
    let off : two a b x y (variable_of l) ≡ false = ap (λ t. cond t x (cond (variable_of l == b) y false)) (ne_eqb (variable_of l) a h.0.1) ∙ ap (λ t. cond t y false) (ne_eqb (variable_of l) b h.0.2) in
    let at : literal (two a b x y) l ≡ false = ap (λ t. cond t (variable (two a b x y) (variable_of l)) (not (variable (two a b x y) (variable_of l)))) (eq-eqb (l.0 % 2) 0 h.0.0) ∙ none (variable_of l) off in
    ap (λ t. bit t + 2 * word (two a b x y) ls) at ∙ ap (λ w. 0 + 2 * w) (others_zero a b x y ls h.1)
  where
    none : (v : ℕ) → two a b x y v ≡ false → variable (two a b x y) v ≡ false
    none zero e = refl
    none (suc v) e = e

pub specification_is_not_zero : SpecificationIsNotZero
specification_is_not_zero e s a b low some none = go e.graph.outputs refl
  where
    u : ℕ
    u = variable_of a

    w : ℕ
    w = variable_of b

    a_there : (x y : Bool) → literal (two u w x y) a ≡ x
    a_there x y = literal-input (two u w x y) a (low.a_even, low.a_variable) ∙ ap (λ c. cond c x (cond (u == w) y false)) (eq-eqb u u refl)

    b_there : (x y : Bool) → literal (two u w x y) b ≡ y
    b_there x y =
        literal-input (two u w x y) b (low.b_even, low.b_variable) ∙ ap (λ c. cond c x (cond (w == w) y false)) (ne_eqb w u (λ h. low.apart (sym h))) ∙ ap (λ c. cond c y false) (eq-eqb w w refl)

    go : (os : List Lit) → e.graph.outputs ≡ os → ⊥
    go [] h = let size = ap length h in omega arith
    go (o ∷ os) h =
        let at : (x y : Bool) → bit (literal (two u w x y) o) ≡ bit x * bit y = λ x y. there o os h x y in
        let all = bits_of_one (literal (two u w true true) o) (literal (two u w true false) o) (literal (two u w false true) o) (literal (two u w false false) o)
        (one_of_map (λ c. cond (o.0 % 2 == 0) c (not c)) (variable (two u w true true) (variable_of o)) (variable (two u w true false) (variable_of o)) (variable (two u w false true) (variable_of o)) (variable (two u w false false) (variable_of o))
        (variable_of_one (two u w true true) (two u w true false) (two u w false true) (two u w false false) (variable_of o) (two_of_one u w (variable_of o)))) in
        let p : bit (literal (two u w true true) o) ≡ 1 = at true true in
        let q : bit (literal (two u w true false) o) ≡ 0 = at true false in
        let r : bit (literal (two u w false true) o) ≡ 0 = at false true in
        omega arith
      where
        there : (l : Lit) (ls : List Lit) → e.graph.outputs ≡ l ∷ ls → (x y : Bool) → bit (literal (two u w x y) l) ≡ bit x * bit y
        there l ls is x y =
            let σ = two u w x y in
            let n = length e.graph.outputs in
            let same : word σ e.graph.outputs ≡ claimed (modulus e) s σ % modulus e = vanishing_means_claim e s σ (none σ) in
            let left : word σ e.graph.outputs % 2 ≡ bit (literal σ l) = ap (λ ks. word σ ks % 2) is ∙ word_low σ l ls ∙ bit_small (literal σ l) in
            let right : claimed (modulus e) s σ % modulus e % 2 ≡ bit x * bit y =
            low_stays n (claimed (modulus e) s σ) some ∙ claim_low n s a b σ some low.a_is low.b_is (others_zero u w x y s.c (recursion_from_All _ s.c low.addend)) ∙ ap₂ (λ c d. bit c * bit d % 2) (a_there x y) (b_there x y) ∙ product_small x y in
            sym left ∙ ap (λ z. z % 2) same ∙ right
