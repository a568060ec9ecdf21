-- What the partial products of a column add to a form, and the value of a column's polynomial.
use Rattle.std.proofs.Common.{◌≡◌, ◌≢◌, ℕ, zero, suc, ◌+◌, ◌-◌, ◌*◌, ◌%◌, ◌^◌, ◌<◌, ◌≤◌, List, [], ◌∷◌, map, length, get_or, drop, slice_get, refl, sym, ap, ap₂, ◌∙◌, arith}
use Rattle.std.specs.declared.option.Option.{Option}
use Rattle.std.proofs.Math.ListN.{drop_of_length-le}
use Rattle.std.proofs.Math.Nat.{add-mul-mod_self_left, mod-mod, zero-mod}
use Rattle.std.proofs.lemmas.List.{length-map}
use Rattle.std.proofs.lemmas.Nat.{pow_pos}
use Rattle.graph_core.specs.declared.literal.Lit.{Lit}
use Rattle.graph_core.specs.declared.sign.Sign.{Sign}
use Rattle.graph_core.specs.declared.sign.Sign.TheVariants.{Unsigned, Signed}
use Rattle.graph_core.specs.Graph.Assignments.{Assignment, bit, literal}
use Rattle.graph_core.specs.Graph.Extended.{Extended, modulus as modulus_of}
use Rattle.graph_core.specs.Graph.Operands.{Sides}
use Rattle.algebra_core.specs.Polynomials.{Polynomial, value, sum_of, difference}
use Rattle.graph_core.proofs.OfGraphs.CallerLemmas.{sum_same, product_same}
use Rattle.algebra_core.proofs.CallerLemmas.{difference_is, difference_plus}
use Rattle.frontier_core.specs.Columns.{bit_at, partial_products, digit_at, digit_products, product_column, plus_bit, column_claim, column_value}
use Rattle.poly_terms.specs.Tables.{Table, Sum, Extends, modulus_in, value_in}
use Rattle.poly_terms.specs.Laws.{modulus_stays}
use Rattle.gate_axioms.specs.Form.{AddsNumber, CountsAs, HasPolyValue, counts_as, digits, optional_bit, partner_digit}

-- ---- what literals count

last_counts : (m n i : ℕ) → i + 1 ≡ n → counts_as m Signed n i ≡ m - 1
last_counts m zero i e = absurd (omega arith)
last_counts m (suc zero) zero e = refl
last_counts m (suc zero) (suc i) e = absurd (omega arith)
last_counts m (suc (suc n)) zero e = absurd (omega arith)
last_counts m (suc (suc n)) (suc i) e = last_counts m (suc n) i (omega arith)

inner_counts : (m n i : ℕ) → i < n → i + 1 ≢ n → counts_as m Signed n i ≡ 1
inner_counts m zero i l e = refl
inner_counts m (suc zero) zero l e = absurd (e refl)
inner_counts m (suc zero) (suc i) l e = refl
inner_counts m (suc (suc n)) zero l e = refl
inner_counts m (suc (suc n)) (suc i) l e = inner_counts m (suc n) i (omega arith) (λ h. e (omega arith))

pub counts_inner : (w n i c : ℕ) → i < n → i + 1 ≢ n → CountsAs w Signed n i c c
counts_inner w n i c l e = record { times = λ x. ap (λ z. (c * z) % 2 ^ w) (omega arith ∙ ap (λ k. k * x) (sym (inner_counts (2 ^ w) n i l e))) }

cancel_mod : (m x y z : ℕ) → 0 < m → (x + z) % m ≡ (y + z) % m → x % m ≡ y % m
cancel_mod m x y z pos h = sym (difference_is m (x + z) z x pos refl) ∙ difference_is m (x + z) z y pos (sym h)

-- an opposite times x is -1 times x, times the coefficient
opposite_times : (m c o d x : ℕ) → 0 < m → (o + c) % m ≡ 0 → d + 1 ≡ m → (o * x) % m ≡ (c * (d * x)) % m
opposite_times m c o d x pos opposite minus =
    let none : ((o + c) * x) % m ≡ (0 * x) % m = product_same m (o + c) 0 x x (opposite ∙ sym (zero-mod m)) refl in
    let whole : c * (d * x) + c * x ≡ 0 + m * (c * x) = omega (arith, ap (λ k. k * (c * x)) minus) in
    let left : (o * x + c * x) % m ≡ 0 % m = ap (λ z. z % m) (omega arith) ∙ none ∙ ap (λ z. z % m) (omega arith) in
    cancel_mod m (o * x) (c * (d * x)) (c * x) pos (left ∙ sym (ap (λ z. z % m) whole ∙ add-mul-mod_self_left 0 m (c * x)))

pub counts_last : (w n i c o : ℕ) → i + 1 ≡ n → (o + c) % 2 ^ w ≡ 0 → CountsAs w Signed n i c o
counts_last w n i c o e opposite = record {
  times = λ x.
      let pos : 0 < 2 ^ w = pow_pos w in
      opposite_times (2 ^ w) c o (2 ^ w - 1) x pos opposite (omega arith) ∙ ap (λ k. (c * (k * x)) % 2 ^ w) (sym (last_counts (2 ^ w) n i e));
}

pub length-digits : (m : ℕ) (sign : Sign) (σ : Assignment) (ls : List Lit) → length (digits m sign σ ls) ≡ length ls
length-digits m Unsigned σ ls = length-map ls (λ l. bit (literal σ l))
length-digits m Signed σ [] = refl
length-digits m Signed σ (l ∷ []) = refl
length-digits m Signed σ (l ∷ k ∷ ls) = ap suc (length-digits m Signed σ (k ∷ ls))

digit_is : (m : ℕ) (sign : Sign) (σ : Assignment) (ls : List Lit) (j : ℕ) (d : Lit) → j < length ls →
    digit_at (digits m sign σ ls) j ≡ counts_as m sign (length ls) j * bit (literal σ (get_or ls j d))
digit_is m sign σ [] j d h = absurd (omega arith)
digit_is m Unsigned σ (l ∷ ls) zero d h = omega arith
digit_is m Unsigned σ (l ∷ ls) (suc j) d h = digit_is m Unsigned σ ls j d (omega arith)
digit_is m Signed σ (l ∷ []) zero d h = refl
digit_is m Signed σ (l ∷ []) (suc j) d h = absurd (omega arith)
digit_is m Signed σ (l ∷ k ∷ ls) zero d h = omega arith
digit_is m Signed σ (l ∷ k ∷ ls) (suc j) d h = digit_is m Signed σ (k ∷ ls) j d (omega arith)

digit_past : (es : List ℕ) (j : ℕ) → length es ≤ j → digit_at es j ≡ 0
digit_past [] j h = refl
digit_past (e ∷ es) zero h = absurd (omega arith)
digit_past (e ∷ es) (suc j) h = digit_past es j (omega arith)

-- ---- the partner of a literal

partner-at : (es : List ℕ) (k i : ℕ) → i ≤ k → partner_digit es k i ≡ digit_at es (k - i)
partner-at es k zero h = ap (digit_at es) (omega arith)
partner-at es zero (suc i) h = absurd (omega arith)
partner-at es (suc k) (suc i) h = partner-at es k i (omega arith) ∙ ap (digit_at es) (omega arith)

partner-before : (es : List ℕ) (k i : ℕ) → k < i → partner_digit es k i ≡ 0
partner-before es k zero h = absurd (omega arith)
partner-before es zero (suc i) h = refl
partner-before es (suc k) (suc i) h = partner-before es k i (omega arith)

pub partner_past : (m : ℕ) (sign : Sign) (σ : Assignment) (bs : List Lit) (k i : ℕ) → i ≤ k → length bs ≤ k - i → partner_digit (digits m sign σ bs) k i ≡ 0
partner_past m sign σ bs k i h g = partner-at (digits m sign σ bs) k i h ∙ digit_past (digits m sign σ bs) (k - i) (omega (arith, length-digits m sign σ bs))

pub partner_none : (m : ℕ) (sign : Sign) (σ : Assignment) (bs : List Lit) (k i : ℕ) → k < i → partner_digit (digits m sign σ bs) k i ≡ 0
partner_none m sign σ bs k i h = partner-before (digits m sign σ bs) k i h

-- what isn't there adds nothing
pub nothing_adds : (w n : ℕ) (l : Lit) (form : Polynomial) (f : Assignment → ℕ) → ((σ : Assignment) → f σ ≡ 0) → AddsNumber w form form (λ σ. n * (bit (literal σ l) * f σ))
nothing_adds w n l form f none = record {
  sum = λ σ.
      let m = 2 ^ w in
      let here : value m form σ + n * (bit (literal σ l) * f σ) ≡ value m form σ = ap (λ z. value m form σ + n * (bit (literal σ l) * z)) (none σ) ∙ omega arith in
      sym (ap (λ z. z % m) here ∙ mod-mod (sum_of m form σ) m);
}

-- what is the same up to multiples adds the same
adds_mod : (w : ℕ) (old new : Polynomial) (f g : Assignment → ℕ) → AddsNumber w old new f → ((σ : Assignment) → f σ % 2 ^ w ≡ g σ % 2 ^ w) → AddsNumber w old new g
adds_mod w old new f g adds same = record { sum = λ σ. adds.sum σ ∙ sum_same (2 ^ w) (value (2 ^ w) old σ) (value (2 ^ w) old σ) (f σ) (g σ) refl (same σ) }

-- a partner that is there
pub partner_adds : (w n c : ℕ) (sign : Sign) (l d : Lit) (bs : List Lit) (k i : ℕ) (old new : Polynomial) → i ≤ k → k - i < length bs → CountsAs w sign (length bs) (k - i) n c →
    AddsNumber w old new (λ σ. c * (bit (literal σ l) * bit (literal σ (get_or bs (k - i) d)))) → AddsNumber w old new (λ σ. n * (bit (literal σ l) * partner_digit (digits (2 ^ w) sign σ bs) k i))
partner_adds w n c sign l d bs k i old new low within counts adds =
    adds_mod w old new _ _ adds (λ σ.
    let m = 2 ^ w in
    let x = bit (literal σ l) in
    let y = bit (literal σ (get_or bs (k - i) d)) in
    let j = counts_as m sign (length bs) (k - i) in
    let turned : n * (j * (x * y)) ≡ n * (x * (j * y)) = omega arith in
    counts.times (x * y) ∙ ap (λ z. z % m) turned ∙
    ap (λ z. (n * (x * z)) % m) (sym (partner-at (digits m sign σ bs) k i low ∙ digit_is m sign σ bs (k - i) d within)))

-- ---- the partial products

-- the sum of the products of numbers from place i on and their partners
abbrev pub left_products : List ℕ → List ℕ → ℕ → ℕ → ℕ
left_products [] es k i = 0
left_products (d ∷ ds) es k i = d * partner_digit es k i + left_products ds es k (suc i)

left-none : (ds es : List ℕ) (i : ℕ) → left_products ds es zero (suc i) ≡ 0
left-none [] es i = refl
left-none (d ∷ ds) es i = omega (arith, left-none ds es (suc i))

left-shifted : (ds es : List ℕ) (k i : ℕ) → left_products ds es (suc k) (suc i) ≡ left_products ds es k i
left-shifted [] es k i = refl
left-shifted (d ∷ ds) es k i = ap (λ n. d * partner_digit es k i + n) (left-shifted ds es k (suc i))

left-all : (ds es : List ℕ) (k : ℕ) → left_products ds es k 0 ≡ digit_products ds es k
left-all [] es k = refl
left-all (d ∷ ds) es zero = omega (arith, left-none ds es 0)
left-all (d ∷ ds) es (suc k) = ap (λ n. d * digit_at es (suc k) + n) (left-shifted ds es k 0 ∙ left-all ds es k)

-- the column by what the literals count
digit_bit : (σ : Assignment) (bs : List Lit) (k : ℕ) → digit_at (map (λ l. bit (literal σ l)) bs) k ≡ bit_at σ bs k
digit_bit σ [] k = refl
digit_bit σ (b ∷ bs) zero = refl
digit_bit σ (b ∷ bs) (suc k) = digit_bit σ bs k

digits_partial : (σ : Assignment) (as' bs : List Lit) (k : ℕ) → digit_products (map (λ l. bit (literal σ l)) as') (map (λ l. bit (literal σ l)) bs) k ≡ partial_products σ as' bs k
digits_partial σ [] bs k = refl
digits_partial σ (a ∷ as') bs zero = ap (λ z. bit (literal σ a) * z) (digit_bit σ bs 0)
digits_partial σ (a ∷ as') bs (suc k) = ap₂ (λ y z. bit (literal σ a) * y + z) (digit_bit σ bs (suc k)) (digits_partial σ as' bs k)

column_by_digits : (m : ℕ) (sign : Sign) (σ : Assignment) (as' bs : List Lit) (k : ℕ) → digit_products (digits m sign σ as') (digits m sign σ bs) k ≡ product_column m sign σ as' bs k
column_by_digits m Unsigned σ as' bs k = digits_partial σ as' bs k
column_by_digits m Signed σ as' bs k = refl

drop_digit : (ds : List ℕ) (i : ℕ) → i < length ds → drop i ds ≡ digit_at ds i ∷ drop (i + 1) ds
drop_digit [] i h = absurd (omega arith)
drop_digit (d ∷ ds) zero h = refl
drop_digit (d ∷ ds) (suc i) h =
    let e : suc (i + 1) ≡ suc i + 1 = omega arith in
    drop_digit ds i (omega arith) ∙ ap (λ k. digit_at ds i ∷ drop k (d ∷ ds)) e

-- What the loop over the first operand keeps: what it has added and the products that are left are the whole.
pub record IsColumnLeft (w n : ℕ) (sign : Sign) (as' bs : List Lit) (k i : ℕ) (old new : Polynomial) : Type 0 where
  pub sum : (σ : Assignment) → (value (2 ^ w) new σ + n * left_products (drop i (digits (2 ^ w) sign σ as')) (digits (2 ^ w) sign σ bs) k i) % 2 ^ w ≡
      (value (2 ^ w) old σ + n * product_column (2 ^ w) sign σ as' bs k) % 2 ^ w

pub column_starts : (w n : ℕ) (sign : Sign) (as' bs : List Lit) (k : ℕ) (old : Polynomial) → IsColumnLeft w n sign as' bs k 0 old old
column_starts w n sign as' bs k old = record {
  sum = λ σ. ap (λ z. (value (2 ^ w) old σ + n * z) % 2 ^ w) (left-all (digits (2 ^ w) sign σ as') (digits (2 ^ w) sign σ bs) k ∙ column_by_digits (2 ^ w) sign σ as' bs k);
}

pub column_goes_on : (w n c : ℕ) (sign : Sign) (as' bs : List Lit) (k i : ℕ) (d : Lit) (old mid new : Polynomial) → i < length as' → CountsAs w sign (length as') i n c →
    IsColumnLeft w n sign as' bs k i old mid → AddsNumber w mid new (λ σ. c * (bit (literal σ (get_or as' i d)) * partner_digit (digits (2 ^ w) sign σ bs) k i)) →
    IsColumnLeft w n sign as' bs k (i + 1) old new
column_goes_on w n c sign as' bs k i d old mid new within counts left adds = record {
  sum = λ σ.
      let m = 2 ^ w in
      let ds = digits m sign σ as' in
      let es = digits m sign σ bs in
      let x = bit (literal σ (get_or as' i d)) in
      let y = partner_digit es k i in
      let j = counts_as m sign (length as') i in
      let e : i + 1 ≡ suc i = omega arith in
      let rest = left_products (drop (i + 1) ds) es k (suc i) in
      let more : left_products (drop (i + 1) ds) es k (i + 1) ≡ rest = ap (left_products (drop (i + 1) ds) es k) e in
      let here : (c * (x * y)) % m ≡ (n * (j * (x * y))) % m = counts.times (x * y) in
      let now : digit_at ds i * y + rest ≡ left_products (drop i ds) es k i = ap (λ zs. left_products zs es k i) (sym (drop_digit ds i (omega (arith, length-digits m sign σ as')))) in
      let digit : n * (j * (x * y)) ≡ n * (digit_at ds i * y) = omega arith ∙ ap (λ z. n * (z * y)) (sym (digit_is m sign σ as' i d within)) in
      let added : (value m mid σ + c * (x * y)) % m ≡ (value m mid σ + n * (digit_at ds i * y)) % m =
      sum_same m (value m mid σ) (value m mid σ) (c * (x * y)) (n * (digit_at ds i * y)) refl (here ∙ ap (λ z. z % m) digit) in
      ap (λ z. (value m new σ + n * z) % m) more ∙
      sum_same m (value m new σ) (value m mid σ + n * (digit_at ds i * y)) (n * rest) (n * rest) (ap (λ z. z % m) (adds.sum σ) ∙ mod-mod (value m mid σ + c * (x * y)) m ∙ added) refl ∙
      ap (λ z. z % m) (gathered (value m mid σ) n (digit_at ds i * y) rest) ∙ ap (λ z. (value m mid σ + n * z) % m) now ∙ left.sum σ;
}
  where
    gathered : (v n y z : ℕ) → (v + n * y) + n * z ≡ v + n * (y + z)
    gathered v n y z = omega arith

pub column_ends : (w n : ℕ) (sign : Sign) (as' bs : List Lit) (k i : ℕ) (old new : Polynomial) → length as' ≤ i → IsColumnLeft w n sign as' bs k i old new →
    AddsNumber w old new (λ σ. n * product_column (2 ^ w) sign σ as' bs k)
column_ends w n sign as' bs k i old new past left = record {
  sum = λ σ.
      let m = 2 ^ w in
      let ds = digits m sign σ as' in
      let es = digits m sign σ bs in
      let none : drop i ds ≡ [] = drop_of_length-le ds (omega (arith, length-digits m sign σ as')) in
      sym (mod-mod (sum_of m new σ) m) ∙ ap (λ z. z % m) (omega arith) ∙ ap (λ zs. (value m new σ + n * left_products zs es k i) % m) (sym none) ∙ left.sum σ;
}

-- bit k of an addend
pub optional_is : (σ : Assignment) (ls : List Lit) (k : ℕ) → optional_bit σ (slice_get ls k) ≡ bit_at σ ls k
optional_is σ [] k = refl
optional_is σ (l ∷ ls) zero = refl
optional_is σ (l ∷ ls) (suc k) = optional_is σ ls k

pub claim_is : (m : ℕ) (s : Sides) (k : ℕ) (σ : Assignment) (o : ℕ) (c : Option Lit) → c ≡ slice_get s.c k →
    o * product_column m s.claim.sign σ s.a s.b k + o * optional_bit σ c ≡ o * column_claim m s k σ
claim_is m s k σ o c is = ap (λ z. o * product_column m s.claim.sign σ s.a s.b k + o * z) (ap (optional_bit σ) is ∙ optional_is σ s.c k) ∙ go s.c (product_column m s.claim.sign σ s.a s.b k)
  where
    go : (cs : List Lit) (x : ℕ) → o * x + o * bit_at σ cs k ≡ o * plus_bit x σ cs k
    go [] x = omega arith
    go (l ∷ ls) x = omega arith

-- ---- the polynomial

-- n times x and an opposite of n times y have the value of 2 ^ k times the difference
weighted_difference : (m k n o x y : ℕ) → 0 < m → n % m ≡ 2 ^ k % m → (o + n) % m ≡ 0 → (n * x + o * y) % m ≡ (2 ^ k * difference m x y) % m
weighted_difference m k n o x y pos weight opposite =
    let d = difference m x y in
    let split : (n * x) % m ≡ (n * (d + y)) % m = product_same m n n x (d + y) refl (sym (difference_plus m x y pos)) in
    let none : ((o + n) * y) % m ≡ (0 * y) % m = product_same m (o + n) 0 y y (opposite ∙ sym (zero-mod m)) refl in
    let spread : n * (d + y) + o * y ≡ n * d + (o + n) * y = omega arith in
    sum_same m (n * x) (n * (d + y)) (o * y) (o * y) split refl ∙ ap (λ z. z % m) spread ∙
    sum_same m (n * d) (n * d) ((o + n) * y) (0 * y) refl none ∙ ap (λ z. z % m) (omega arith) ∙
    product_same m n (2 ^ k) d d weight refl

pub column_has : (old new : Table) (p : Sum) (e : Extended) (s : Sides) (k : ℕ) (l : Lit) (one n o : ℕ) → Extends old new → modulus_in old ≡ modulus_of e → one ≡ 1 →
    n ≡ (one * 2 ^ k) % modulus_in old → (o + n) % modulus_in old ≡ 0 →
    HasPolyValue new p (λ σ. n * bit (literal σ l) + o * column_claim (modulus_in old) s k σ) → (σ : Assignment) → value_in new p σ ≡ column_value e s k l σ % modulus_in old
column_has old new p e s k l one n o grown same is_one weight opposite has σ =
    let m = modulus_in old in
    let x = bit (literal σ l) in
    let y = column_claim m s k σ in
    let power : n % m ≡ 2 ^ k % m = ap (λ z. z % m) weight ∙ mod-mod (one * 2 ^ k) m ∙ ap (λ z. (z * 2 ^ k) % m) is_one ∙ ap (λ z. z % m) (omega arith) in
    has.value σ ∙ ap (λ z. (n * x + o * y) % z) (modulus_stays old new grown) ∙ weighted_difference m k n o x y (pow_pos old.exponent) power opposite ∙
    ap (λ z. (2 ^ k * difference z x (column_claim z s k σ)) % m) same
