-- What is claimed of the columns: it is about the operands alone, and together it is what is claimed of the outputs. What
-- hangs on the kind of claim is proved here, and its lowest bit in NotZero.
use Rattle.std.specs.Prelude.{◌≡◌, ℕ, zero, suc, ◌+◌, ◌*◌, ◌-◌, ◌%◌, ◌^◌, ◌<◌, ◌≤◌, true, cond, List, [], ◌∷◌, ◌++◌, length, drop}
use Rattle.std.specs.List.{AllByRecursion}
use Rattle.std.proofs.Common.{refl, sym, ap, ap₂, ◌∙◌, arith, pow-suc}
use Rattle.std.proofs.Math.Nat.{add-mul-mod_self_left}
use Rattle.std.proofs.lemmas.Nat.{pow_pos}
use Rattle.std.proofs.lemmas.List.Elements.{recursion_from_All}
use Rattle.graph_core.specs.declared.literal.Lit.{Lit}
use Rattle.graph_core.specs.Graph.Assignments.{Assignment, literal, bit, word}
use Rattle.graph_core.specs.declared.sign.Sign.{Sign}
use Rattle.graph_core.specs.declared.sign.Sign.TheVariants.{Unsigned, Signed}
use Rattle.graph_core.specs.Graph.Operands.{Sides, signed_word, operand_word, claimed}
use Rattle.algebra_core.specs.Polynomials.{difference}
use Rattle.graph_core.proofs.OfGraphs.CallerLemmas.{sum_same, product_same, all_split, claim_same, plus_word_is}
use Rattle.algebra_core.proofs.CallerLemmas.{difference_plus, difference_is}
use Rattle.frontier_core.specs.Sets.{has}
use Rattle.frontier_core.specs.Columns.{bit_at, partial_products, signed_digits, digit_at, digit_products, product_column, plus_bit, column_claim, column_of, columns_sum, ClaimsAreOfOperands, ColumnsMakeClaim}

-- ---- the claims are about the operands alone

bit_at_same : (σ τ : Assignment) (ls : List Lit) (k : ℕ) → AllByRecursion (λ l. literal τ l ≡ literal σ l) ls → bit_at τ ls k ≡ bit_at σ ls k
bit_at_same σ τ [] k h = refl
bit_at_same σ τ (l ∷ ls) zero h = ap bit h.0
bit_at_same σ τ (l ∷ ls) (suc k) h = bit_at_same σ τ ls k h.1

partial_products_same : (σ τ : Assignment) (as' bs : List Lit) (k : ℕ) → AllByRecursion (λ l. literal τ l ≡ literal σ l) as' → AllByRecursion (λ l. literal τ l ≡ literal σ l) bs →
    partial_products τ as' bs k ≡ partial_products σ as' bs k
partial_products_same σ τ [] bs k h g = refl
partial_products_same σ τ (a ∷ as') bs zero h g = ap₂ ◌*◌ (ap bit h.0) (bit_at_same σ τ bs 0 g)
partial_products_same σ τ (a ∷ as') bs (suc k) h g = ap₂ ◌+◌ (ap₂ ◌*◌ (ap bit h.0) (bit_at_same σ τ bs (suc k) g)) (partial_products_same σ τ as' bs k h.1 g)

digits_same : (m : ℕ) (σ τ : Assignment) (ls : List Lit) → AllByRecursion (λ l. literal τ l ≡ literal σ l) ls → signed_digits m τ ls ≡ signed_digits m σ ls
digits_same m σ τ [] h = refl
digits_same m σ τ (l ∷ []) h = ap (λ b. (m - 1) * bit b ∷ []) h.0
digits_same m σ τ (l ∷ k ∷ ls) h = ap₂ (λ b ds. bit b ∷ ds) h.0 (digits_same m σ τ (k ∷ ls) h.1)

product_column_same : (m : ℕ) (sign : Sign) (σ τ : Assignment) (as' bs : List Lit) (k : ℕ) → AllByRecursion (λ l. literal τ l ≡ literal σ l) as' →
    AllByRecursion (λ l. literal τ l ≡ literal σ l) bs → product_column m sign τ as' bs k ≡ product_column m sign σ as' bs k
product_column_same m Unsigned σ τ as' bs k h g = partial_products_same σ τ as' bs k h g
product_column_same m Signed σ τ as' bs k h g = ap₂ (λ ds es. digit_products ds es k) (digits_same m σ τ as' h) (digits_same m σ τ bs g)

plus_bit_same : (x y : ℕ) (σ τ : Assignment) (ls : List Lit) (k : ℕ) → y ≡ x → AllByRecursion (λ l. literal τ l ≡ literal σ l) ls → plus_bit y τ ls k ≡ plus_bit x σ ls k
plus_bit_same x y σ τ [] k e h = e
plus_bit_same x y σ τ (l ∷ ls) k e h = ap₂ ◌+◌ e (bit_at_same σ τ (l ∷ ls) k h)

pub claims_are_of_operands : ClaimsAreOfOperands
claims_are_of_operands m s σ τ agree =
    let first = all_split (λ l. literal τ l ≡ literal σ l) s.a (s.b ++ s.c) (recursion_from_All (λ l. literal τ l ≡ literal σ l) (s.a ++ (s.b ++ s.c)) agree) in
    let rest = all_split (λ l. literal τ l ≡ literal σ l) s.b s.c first.1 in (
      claim_same m s σ τ first.0 rest.0 rest.1,
      λ k. plus_bit_same (product_column m s.claim.sign σ s.a s.b k) (product_column m s.claim.sign τ s.a s.b k) σ τ s.c k (product_column_same m s.claim.sign σ τ s.a s.b k first.0 rest.0) rest.1,
    )

-- ---- together they are the claim

twice : (k z : ℕ) → 2 ^ suc k * z ≡ 2 * (2 ^ k * z)
twice k z = ap (λ w. w * z) (pow-suc 2 k) ∙ omega arith

-- the sum of n bits from place k on, each times its power of 2, and of n partial products from column k on
abbrev bits_from : Assignment → List Lit → ℕ → ℕ → ℕ
bits_from σ bs k zero = 0
bits_from σ bs k (suc n) = 2 ^ k * bit_at σ bs k + bits_from σ bs (suc k) n

abbrev products_from : Assignment → List Lit → List Lit → ℕ → ℕ → ℕ
products_from σ as' bs k zero = 0
products_from σ as' bs k (suc n) = 2 ^ k * partial_products σ as' bs k + products_from σ as' bs (suc k) n

bits_from-none : (σ : Assignment) (k n : ℕ) → bits_from σ [] k n ≡ 0
bits_from-none σ k zero = refl
bits_from-none σ k (suc n) = omega (arith, bits_from-none σ (suc k) n)

bits_from-rest : (σ : Assignment) (b : Lit) (bs : List Lit) (k n : ℕ) → bits_from σ (b ∷ bs) (suc k) n ≡ 2 * bits_from σ bs k n
bits_from-rest σ b bs k zero = refl
bits_from-rest σ b bs k (suc n) = omega (arith, bits_from-rest σ b bs (suc k) n, twice k (bit_at σ bs k))

-- a word is its n lowest bits, and 2 ^ n times the others
bits_from-word : (σ : Assignment) (bs : List Lit) (n : ℕ) → word σ bs ≡ bits_from σ bs 0 n + 2 ^ n * word σ (drop n bs)
bits_from-word σ bs zero = omega arith
bits_from-word σ [] (suc n) = omega (arith, bits_from-none σ 0 (suc n))
bits_from-word σ (b ∷ bs) (suc n) = omega (arith, bits_from-rest σ b bs 0 n, bits_from-word σ bs n, twice n (word σ (drop n bs)))

products_from-none : (σ : Assignment) (bs : List Lit) (k n : ℕ) → products_from σ [] bs k n ≡ 0
products_from-none σ bs k zero = refl
products_from-none σ bs k (suc n) = omega (arith, products_from-none σ bs (suc k) n)

products_from-rest : (σ : Assignment) (a : Lit) (as' bs : List Lit) (k n : ℕ) → products_from σ (a ∷ as') bs (suc k) n ≡ bit (literal σ a) * bits_from σ bs (suc k) n + 2 * products_from σ as' bs k n
products_from-rest σ a as' bs k zero = omega arith
products_from-rest σ a as' bs k (suc n) =
    let product : 2 ^ suc k * partial_products σ (a ∷ as') bs (suc k) ≡ bit (literal σ a) * (2 ^ suc k * bit_at σ bs (suc k)) + 2 * (2 ^ k * partial_products σ as' bs k) =
    omega (arith, twice k (partial_products σ as' bs k)) in
    omega (arith, products_from-rest σ a as' bs (suc k) n, product)

-- the product is the sum of its n lowest columns, and a multiple of 2 ^ n
products_from-words : (σ : Assignment) (as' bs : List Lit) (n : ℕ) → (r : ℕ) × (word σ as' * word σ bs ≡ products_from σ as' bs 0 n + 2 ^ n * r)
products_from-words σ as' bs zero = (word σ as' * word σ bs, omega arith)
products_from-words σ [] bs (suc n) = (0, omega (arith, products_from-none σ bs 0 (suc n)))
products_from-words σ (a ∷ as') bs (suc n) =
    let x = bit (literal σ a) in
    let high = word σ (drop (suc n) bs) in
    let rest = products_from-words σ as' bs n in
    let r = rest.0 in
    let is : word σ as' * word σ bs ≡ products_from σ as' bs 0 n + 2 ^ n * r = rest.1 in
    let columns : products_from σ (a ∷ as') bs 0 (suc n) ≡ x * bits_from σ bs 0 (suc n) + 2 * products_from σ as' bs 0 n = omega (arith, products_from-rest σ a as' bs 0 n) in
    let bits : x * word σ bs ≡ x * (bits_from σ bs 0 (suc n) + 2 ^ suc n * high) = ap (λ z. x * z) (bits_from-word σ bs (suc n)) in
    let split : (x + 2 * word σ as') * word σ bs ≡ x * word σ bs + 2 * (word σ as' * word σ bs) = omega arith in
    let spread : x * (bits_from σ bs 0 (suc n) + 2 ^ suc n * high) ≡ x * bits_from σ bs 0 (suc n) + 2 ^ suc n * (x * high) = omega arith in
    let up : 2 ^ suc n * r ≡ 2 * (2 ^ n * r) = twice n r in
    let both : 2 ^ suc n * (x * high + r) ≡ 2 ^ suc n * (x * high) + 2 ^ suc n * r = omega arith in
    (x * high + r, omega arith)

-- ---- the same of numbers in place of bits, as of signed literals

-- the sum of numbers, each times its power of 2
abbrev number : List ℕ → ℕ
number [] = 0
number (d ∷ ds) = d + 2 * number ds

abbrev digits_from : List ℕ → ℕ → ℕ → ℕ
digits_from es k zero = 0
digits_from es k (suc n) = 2 ^ k * digit_at es k + digits_from es (suc k) n

abbrev digit_products_from : List ℕ → List ℕ → ℕ → ℕ → ℕ
digit_products_from ds es k zero = 0
digit_products_from ds es k (suc n) = 2 ^ k * digit_products ds es k + digit_products_from ds es (suc k) n

digits_from-none : (k n : ℕ) → digits_from [] k n ≡ 0
digits_from-none k zero = refl
digits_from-none k (suc n) = omega (arith, digits_from-none (suc k) n)

digits_from-rest : (e : ℕ) (es : List ℕ) (k n : ℕ) → digits_from (e ∷ es) (suc k) n ≡ 2 * digits_from es k n
digits_from-rest e es k zero = refl
digits_from-rest e es k (suc n) = omega (arith, digits_from-rest e es (suc k) n, twice k (digit_at es k))

digits_from-number : (es : List ℕ) (n : ℕ) → number es ≡ digits_from es 0 n + 2 ^ n * number (drop n es)
digits_from-number es zero = omega arith
digits_from-number [] (suc n) = omega (arith, digits_from-none 0 (suc n))
digits_from-number (e ∷ es) (suc n) = omega (arith, digits_from-rest e es 0 n, digits_from-number es n, twice n (number (drop n es)))

digit_products-none : (es : List ℕ) (k n : ℕ) → digit_products_from [] es k n ≡ 0
digit_products-none es k zero = refl
digit_products-none es k (suc n) = omega (arith, digit_products-none es (suc k) n)

digit_products-rest : (d : ℕ) (ds es : List ℕ) (k n : ℕ) → digit_products_from (d ∷ ds) es (suc k) n ≡ d * digits_from es (suc k) n + 2 * digit_products_from ds es k n
digit_products-rest d ds es k zero = omega arith
digit_products-rest d ds es k (suc n) =
    let product : 2 ^ suc k * digit_products (d ∷ ds) es (suc k) ≡ d * (2 ^ suc k * digit_at es (suc k)) + 2 * (2 ^ k * digit_products ds es k) =
    omega (arith, twice k (digit_products ds es k)) in
    omega (arith, digit_products-rest d ds es (suc k) n, product)

digit_products-numbers : (ds es : List ℕ) (n : ℕ) → (r : ℕ) × (number ds * number es ≡ digit_products_from ds es 0 n + 2 ^ n * r)
digit_products-numbers ds es zero = (number ds * number es, omega arith)
digit_products-numbers [] es (suc n) = (0, omega (arith, digit_products-none es 0 (suc n)))
digit_products-numbers (d ∷ ds) es (suc n) =
    let high = number (drop (suc n) es) in
    let rest = digit_products-numbers ds es n in
    let r = rest.0 in
    let is : number ds * number es ≡ digit_products_from ds es 0 n + 2 ^ n * r = rest.1 in
    let columns : digit_products_from (d ∷ ds) es 0 (suc n) ≡ d * digits_from es 0 (suc n) + 2 * digit_products_from ds es 0 n = omega (arith, digit_products-rest d ds es 0 n) in
    let bits : d * number es ≡ d * (digits_from es 0 (suc n) + 2 ^ suc n * high) = ap (λ z. d * z) (digits_from-number es (suc n)) in
    let split : (d + 2 * number ds) * number es ≡ d * number es + 2 * (number ds * number es) = omega arith in
    let spread : d * (digits_from es 0 (suc n) + 2 ^ suc n * high) ≡ d * digits_from es 0 (suc n) + 2 ^ suc n * (d * high) = omega arith in
    let up : 2 ^ suc n * r ≡ 2 * (2 ^ n * r) = twice n r in
    let both : 2 ^ suc n * (d * high + r) ≡ 2 ^ suc n * (d * high) + 2 ^ suc n * r = omega arith in
    (d * high + r, omega arith)

signed_number : (m : ℕ) (σ : Assignment) (ls : List Lit) → signed_word m σ ls ≡ number (signed_digits m σ ls)
signed_number m σ [] = refl
signed_number m σ (l ∷ []) = omega arith
signed_number m σ (l ∷ k ∷ ls) = ap (λ n. bit (literal σ l) + 2 * n) (signed_number m σ (k ∷ ls))

-- ---- of either kind

abbrev columns_from : ℕ → Sign → Assignment → List Lit → List Lit → ℕ → ℕ → ℕ
columns_from m sign σ as' bs k zero = 0
columns_from m sign σ as' bs k (suc n) = 2 ^ k * product_column m sign σ as' bs k + columns_from m sign σ as' bs (suc k) n

columns_unsigned : (m : ℕ) (σ : Assignment) (as' bs : List Lit) (k n : ℕ) → columns_from m Unsigned σ as' bs k n ≡ products_from σ as' bs k n
columns_unsigned m σ as' bs k zero = refl
columns_unsigned m σ as' bs k (suc n) = ap (λ z. 2 ^ k * partial_products σ as' bs k + z) (columns_unsigned m σ as' bs (suc k) n)

columns_signed : (m : ℕ) (σ : Assignment) (as' bs : List Lit) (k n : ℕ) → columns_from m Signed σ as' bs k n ≡ digit_products_from (signed_digits m σ as') (signed_digits m σ bs) k n
columns_signed m σ as' bs k zero = refl
columns_signed m σ as' bs k (suc n) = ap (λ z. 2 ^ k * digit_products (signed_digits m σ as') (signed_digits m σ bs) k + z) (columns_signed m σ as' bs (suc k) n)

columns_make_product : (m : ℕ) (sign : Sign) (σ : Assignment) (as' bs : List Lit) (n : ℕ) → (r : ℕ) ×
    (operand_word m sign σ as' * operand_word m sign σ bs ≡ columns_from m sign σ as' bs 0 n + 2 ^ n * r)
columns_make_product m Unsigned σ as' bs n =
    let is = products_from-words σ as' bs n in (is.0, is.1 ∙ ap (λ z. z + 2 ^ n * is.0) (sym (columns_unsigned m σ as' bs 0 n)))
columns_make_product m Signed σ as' bs n =
    let is = digit_products-numbers (signed_digits m σ as') (signed_digits m σ bs) n in
    (is.0, ap₂ ◌*◌ (signed_number m σ as') (signed_number m σ bs) ∙ is.1 ∙ ap (λ z. z + 2 ^ n * is.0) (sym (columns_signed m σ as' bs 0 n)))

plus_bit_is : (x : ℕ) (σ : Assignment) (ls : List Lit) (k : ℕ) → plus_bit x σ ls k ≡ x + bit_at σ ls k
plus_bit_is x σ [] k = omega arith
plus_bit_is x σ (l ∷ ls) k = refl

-- the claims of n columns from k on, each times its power of 2
abbrev claims_from : ℕ → Sides → Assignment → ℕ → ℕ → ℕ
claims_from m s σ k zero = 0
claims_from m s σ k (suc n) = 2 ^ k * column_claim m s k σ + claims_from m s σ (suc k) n

claims_are_sums : (m : ℕ) (s : Sides) (σ : Assignment) (k n : ℕ) → claims_from m s σ k n ≡ columns_from m s.claim.sign σ s.a s.b k n + bits_from σ s.c k n
claims_are_sums m s σ k zero = refl
claims_are_sums m s σ k (suc n) =
    let p = product_column m s.claim.sign σ s.a s.b k in
    let here : 2 ^ k * plus_bit p σ s.c k ≡ 2 ^ k * p + 2 ^ k * bit_at σ s.c k = ap (λ z. 2 ^ k * z) (plus_bit_is p σ s.c k) ∙ omega arith in
    omega (arith, claims_are_sums m s σ (suc k) n)

-- the claims of the n lowest columns are the claim modulo 2 ^ n
claims_make_claim : (s : Sides) (σ : Assignment) (n : ℕ) → claims_from (2 ^ n) s σ 0 n % 2 ^ n ≡ claimed (2 ^ n) s σ % 2 ^ n
claims_make_claim s σ n =
    let m = 2 ^ n in
    let product = columns_make_product m s.claim.sign σ s.a s.b n in
    let high = word σ (drop n s.c) in
    let ab = operand_word m s.claim.sign σ s.a * operand_word m s.claim.sign σ s.b in
    let whole : claimed m s σ ≡ (columns_from m s.claim.sign σ s.a s.b 0 n + bits_from σ s.c 0 n) + m * (product.0 + high) =
    plus_word_is ab σ s.c ∙ ap₂ ◌+◌ product.1 (bits_from-word σ s.c n) ∙ gathered (columns_from m s.claim.sign σ s.a s.b 0 n) (bits_from σ s.c 0 n) m product.0 high in
    ap (λ z. z % m) (claims_are_sums m s σ 0 n) ∙ sym (add-mul-mod_self_left (columns_from m s.claim.sign σ s.a s.b 0 n + bits_from σ s.c 0 n) m (product.0 + high)) ∙ ap (λ z. z % m) (sym whole)
  where
    gathered : (x y p r q : ℕ) → (x + p * r) + (y + p * q) ≡ (x + y) + p * (r + q)
    gathered x y p r q = omega arith

-- ---- all columns from k on: with the claims they are the outputs' word, whatever is claimed

all_from : (m : ℕ) (s : Sides) (added : List ℕ) (k : ℕ) (os : List Lit) (σ : Assignment) → 0 < m → ((j : ℕ) → k ≤ j → j < k + length os → has added j ≡ true) →
    (columns_sum m s added k os σ + claims_from m s σ k (length os)) % m ≡ (2 ^ k * word σ os) % m
all_from m s added k [] σ h all = ap (λ z. z % m) (omega arith)
all_from m s added k (o ∷ os) σ h all =
    let rest = all_from m s added (suc k) os σ h (λ j low up. all j (omega arith) (omega arith)) in
    let here : cond (has added k) (column_of m s k o σ) 0 ≡ column_of m s k o σ = ap (λ b. cond b (column_of m s k o σ) 0) (all k (omega arith) (omega arith)) in
    let p = column_claim m s k σ in
    let d = difference m (bit (literal σ o)) p in
    let one : (2 ^ k * (d + p)) % m ≡ (2 ^ k * bit (literal σ o)) % m = product_same m (2 ^ k) (2 ^ k) (d + p) (bit (literal σ o)) refl (difference_plus m (bit (literal σ o)) p h) in
    let both = sum_same m (2 ^ k * (d + p)) (2 ^ k * bit (literal σ o)) (columns_sum m s added (suc k) os σ + claims_from m s σ (suc k) (length os)) (2 ^ suc k * word σ os) one rest in
    let front : ((cond (has added k) (column_of m s k o σ) 0 + columns_sum m s added (suc k) os σ) + (2 ^ k * p + claims_from m s σ (suc k) (length os))) ≡
    2 ^ k * (d + p) + (columns_sum m s added (suc k) os σ + claims_from m s σ (suc k) (length os)) = omega arith in
    let back : (2 ^ k * bit (literal σ o) + 2 ^ suc k * word σ os) ≡ 2 ^ k * (bit (literal σ o) + 2 * word σ os) = omega (arith, twice k (word σ os)) in
    ap (λ z. z % m) front ∙ both ∙ ap (λ z. z % m) back

pub columns_make_claim : ColumnsMakeClaim
columns_make_claim s os added σ all =
    let n = length os in
    let m = 2 ^ n in
    let h : 0 < m = pow_pos n in
    let sum = all_from m s added 0 os σ h (λ j low up. all j (omega arith)) in
    let one : (2 ^ 0 * word σ os) ≡ word σ os = omega arith in
    sym (difference_is m (word σ os) (claimed m s σ) (columns_sum m s added 0 os σ) h
    (sum_same m (columns_sum m s added 0 os σ) (columns_sum m s added 0 os σ) (claimed m s σ) (claims_from m s σ 0 n) refl (sym (claims_make_claim s σ n)) ∙ sum ∙ ap (λ z. z % m) one))
