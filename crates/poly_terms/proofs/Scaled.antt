-- Entries times a number, one after the other.
use Rattle.std.proofs.Common.{◌≡◌, ◌↔◌, ℕ, Bool, false, List, ◌+◌, ◌*◌, ◌%◌, ◌^◌, ◌<◌, ◌≢◌, Some, None, map, [], ◌∷◌, ◌++◌, get_or, length, take, refl, sym, ap, ap₂, subst, ◌∙◌, arith}
use Rattle.std.proofs.Math.Nat.{zero-mod}
use Rattle.std.proofs.lemmas.List.{get_or-map, get_or_default, length-map, take_more}
use Rattle.std.proofs.lemmas.List.Elements.{All-from_recursion}
use Rattle.std.specs.List.{All, AllByRecursion, Any}
use Rattle.std.specs.Ordering.{nat_cmp}
use Rattle.graph_core.specs.Graph.Assignments.{Assignment}
use Rattle.algebra_core.specs.Polynomials.{product}
use Rattle.poly_terms.specs.Entries.{Entry, IsMultiple, IsQuotient, Sum, entry_order, total}
use Rattle.poly_terms.specs.Merges.{AreAfter}
use Rattle.poly_terms.specs.Monomials.{AreIn, total_in}
use Rattle.poly_terms.specs.Tables.{Table, IsOf, modulus_in, monomial_in, monomials_in, table_of, value_in}
use Rattle.poly_terms.proofs.Gathering.{all_joined, total-append}
use Rattle.poly_terms.proofs.Residues.{factor_reduced, plus_same}
use Rattle.poly_terms.proofs.Values.{value-total}

-- one term more on both sides
sums_more : (m by s t a b g : ℕ) → t % m ≡ (by * s) % m → b ≡ (by * a) % m → (t + (b * g + 0)) % m ≡ (by * (s + (a * g + 0))) % m
sums_more m by s t a b g sums is =
    ap (λ n. n % m) (let e : t + (b * g + 0) ≡ b * g + t = omega arith in e) ∙ plus_same m (b * g) t (by * s) sums ∙
    ap (λ n. (n * g + by * s) % m) is ∙ factor_reduced m (by * a) g (by * s) ∙
    ap (λ n. n % m) (let e : by * a * g + by * s ≡ by * (s + (a * g + 0)) = omega arith in e)

total_more : (f : ℕ → ℕ) (es : Sum) (e : Entry) → total f (es ++ e ∷ []) ≡ total f es + (e.1 * f e.0 + 0)
total_more f es e = total-append f es (e ∷ [])

all_parted : {X : Type 0} (P : X → Type 0) (xs ys : List X) → AllByRecursion P (xs ++ ys) → AllByRecursion P xs × AllByRecursion P ys
all_parted P [] ys h = (tt, h)
all_parted P (x ∷ xs) ys h = let r = all_parted P xs ys h.1 in ((h.0, r.0), r.1)

numbers_more : (from to : Sum) (e : Entry) (c n : ℕ) → ((n : ℕ) → AllByRecursion (λ x. x.0 < n) from → AllByRecursion (λ x. x.0 < n) to) →
    AllByRecursion (λ x. x.0 < n) (from ++ e ∷ []) → AllByRecursion (λ x. x.0 < n) (to ++ (e.0, c) ∷ [])
numbers_more from to e c n before h =
    let parts = all_parted (λ x. x.0 < n) from (e ∷ []) h in
    all_joined (λ x. x.0 < n) to ((e.0, c) ∷ []) (before n parts.0) parts.1

multiple_more : (m by : ℕ) (from to : Sum) (e : Entry) (c : ℕ) → c ≡ (by * e.1) % m → IsMultiple m by from to → IsMultiple m by (from ++ e ∷ []) (to ++ (e.0, c) ∷ [])
multiple_more m by from to e c is before = record {
  sums = λ f.
      ap (λ n. n % m) (total_more f to (e.0, c)) ∙ sums_more m by (total f from) (total f to) e.1 c (f e.0) (before.sums f) is ∙
      ap (λ n. (by * n) % m) (sym (total_more f from e));
  numbers = λ n. numbers_more from to e c n before.numbers;
}

pub quotient_none : (m by : ℕ) → IsQuotient m by [] []
quotient_none m by = record { sums = λ f. ap (λ n. n % m) (let e : by * 0 ≡ 0 = omega arith in e); numbers = refl; below = tt; some = λ h. h }

firsts_more : (xs : Sum) (x : Entry) → map (λ e. e.0) (xs ++ x ∷ []) ≡ map (λ e. e.0) xs ++ x.0 ∷ []
firsts_more [] x = refl
firsts_more (y ∷ xs) x = ap (λ ns. y.0 ∷ ns) (firsts_more xs x)

-- what gives more than 0 isn't 0
factor_some : (m by a c : ℕ) → a ≡ (by * c) % m → 0 < a → 0 < c
factor_some m by a c is some =
    let other : c ≢ 0 = λ none.
    let zero : a ≡ 0 = is ∙ ap (λ n. (by * n) % m) none ∙ ap (λ n. n % m) (let e : by * 0 ≡ 0 = omega arith in e) ∙ zero-mod m in absurd (omega arith) in
    omega arith

quotient_more : (m by : ℕ) (from to : Sum) (e : Entry) (c : ℕ) → c < m → e.1 ≡ (by * c) % m → IsQuotient m by from to → IsQuotient m by (from ++ e ∷ []) (to ++ (e.0, c) ∷ [])
quotient_more m by from to e c low is before = record {
  sums = λ f.
      ap (λ n. (by * n) % m) (total_more f to (e.0, c)) ∙
      sym (sums_more m by (total f to) (total f from) c e.1 (f e.0) (sym (before.sums f)) is) ∙
      ap (λ n. n % m) (sym (total_more f from e));
  numbers = firsts_more to (e.0, c) ∙ ap (λ ns. ns ++ e.0 ∷ []) before.numbers ∙ sym (firsts_more from e);
  below = all_joined (λ x. x.1 < m) to ((e.0, c) ∷ []) before.below (low, tt);
  some = λ h. let parts = all_parted (λ x. 0 < x.1) from (e ∷ []) h in
      all_joined (λ x. 0 < x.1) to ((e.0, c) ∷ []) (before.some parts.0) (factor_some m by e.1 c is parts.1.0, tt);
}

taken_on : (es : Sum) (i : ℕ) (e : Entry) → i < length es → e ≡ get_or es i e → take (i + 1) es ≡ take i es ++ e ∷ []
taken_on es i e low at = take_more es i e low ∙ ap (λ x. take i es ++ x ∷ []) (sym at)

-- the step of a loop that multiplies each entry
pub multiple_on : (m by : ℕ) (es to : Sum) (i : ℕ) (e : Entry) (c : ℕ) → i < length es → e ≡ get_or es i e → c ≡ (by * e.1) % m → IsMultiple m by (take i es) to →
    IsMultiple m by (take (i + 1) es) (to ++ (e.0, c) ∷ [])
multiple_on m by es to i e c low at is before =
    subst (λ from. IsMultiple m by from (to ++ (e.0, c) ∷ [])) (sym (taken_on es i e low at)) (multiple_more m by (take i es) to e c is before)

-- and of one that divides each
pub quotient_on : (m by : ℕ) (es to : Sum) (i : ℕ) (e : Entry) (c : ℕ) → i < length es → e ≡ get_or es i e → c < m → e.1 ≡ (by * c) % m → IsQuotient m by (take i es) to →
    IsQuotient m by (take (i + 1) es) (to ++ (e.0, c) ∷ [])
quotient_on m by es to i e c low at below is before =
    subst (λ from. IsQuotient m by from (to ++ (e.0, c) ∷ [])) (sym (taken_on es i e low at)) (quotient_more m by (take i es) to e c below is before)

-- where each is a multiple, there is none that isn't
pub none_between : (by : ℕ) (es : Sum) → All (λ x. x.1 % by ≡ 0) es → Any (λ x. x.1 % by ≢ 0) es → ⊥
none_between by es all other = other.4 (subst (λ (x : Entry). x.1 % by ≡ 0) other.3 (all other.0 other.1 other.2))

reduced : (m by x : ℕ) → (by * (x % m)) % m ≡ (by * x) % m
reduced m by x =
    ap (λ n. n % m) (let e : by * (x % m) ≡ x % m * by + 0 = omega arith in e) ∙ factor_reduced m x by 0 ∙
    ap (λ n. n % m) (let e : x * by + 0 ≡ by * x = omega arith in e)

-- a multiple is over the table's numbers
pub scaled-numbers : (m by : ℕ) (t : Table) (p p' raw : Sum) → p' ≡ p → IsOf t p → IsMultiple m by p' raw → AreIn t.monomials raw
unfolding IsOf
scaled-numbers m by t p p' raw f h times = times.numbers (length t.monomials) (subst (AreIn t.monomials) (sym f) h.numbers)

-- with so many times the value
pub scaled-total : (w by : ℕ) (ms : List (List ℕ)) (t : Table) (p p' raw : Sum) (σ : Assignment) → table_of w ms ≡ t → p' ≡ p → IsMultiple (2 ^ w) by p' raw →
    total_in t.monomials σ raw % modulus_in t ≡ (by * value_in t p σ) % modulus_in t
scaled-total w by ms t p p' raw σ e f times =
    let m = modulus_in t in
    let F : ℕ → ℕ = λ k. product σ (get_or t.monomials k []) in
    let of_p : IsMultiple m by p raw = subst (λ (u : Table). IsMultiple (modulus_in u) by p raw) e (subst (λ a. IsMultiple (2 ^ w) by a raw) f times) in
    of_p.sums F ∙ sym (reduced m by (total F p)) ∙ ap (λ n. (by * n) % m) (sym (value-total t p σ))

-- entries of the same numbers are alike in all that hangs on numbers
over_firsts : (P : ℕ → Type 0) (xs : Sum) → AllByRecursion (λ e. P e.0) xs → AllByRecursion P (map (λ e. e.0) xs)
over_firsts P [] h = tt
over_firsts P (x ∷ xs) h = (h.0, over_firsts P xs h.1)

from_firsts : (P : ℕ → Type 0) (xs : Sum) → AllByRecursion P (map (λ e. e.0) xs) → AllByRecursion (λ e. P e.0) xs
from_firsts P [] h = tt
from_firsts P (x ∷ xs) h = (h.0, from_firsts P xs h.1)

after_firsts : (b : Entry) (xs : Sum) → AreAfter entry_order (Some b) xs → AreAfter nat_cmp (Some b.0) (map (λ e. e.0) xs)
after_firsts b [] h = tt
after_firsts b (x ∷ xs) h = (h.0, after_firsts x xs h.1)

firsts_after : (b : Entry) (xs : Sum) → AreAfter nat_cmp (Some b.0) (map (λ e. e.0) xs) → AreAfter entry_order (Some b) xs
firsts_after b [] h = tt
firsts_after b (x ∷ xs) h = (h.0, firsts_after x xs h.1)

order_firsts : (xs : Sum) → AreAfter entry_order None xs → AreAfter nat_cmp None (map (λ e. e.0) xs)
order_firsts [] h = tt
order_firsts (x ∷ xs) h = (tt, after_firsts x xs h.1)

firsts_order : (xs : Sum) → AreAfter nat_cmp None (map (λ e. e.0) xs) → AreAfter entry_order None xs
firsts_order [] h = tt
firsts_order (x ∷ xs) h = (tt, firsts_after x xs h.1)

somes : (m : ℕ) (xs : Sum) → AllByRecursion (λ e. (0 < e.1) × (e.1 < m)) xs → AllByRecursion (λ e. 0 < e.1) xs
somes m [] h = tt
somes m (x ∷ xs) h = (h.0.0, somes m xs h.1)

both : (m : ℕ) (xs : Sum) → AllByRecursion (λ e. 0 < e.1) xs → AllByRecursion (λ e. e.1 < m) xs → AllByRecursion (λ e. (0 < e.1) × (e.1 < m)) xs
both m [] h k = tt
both m (x ∷ xs) h k = ((h.0, k.0), both m xs h.1 k.1)

-- a quotient is a polynomial
pub quotient-IsOf : (t : Table) (by : ℕ) (p r : Sum) → IsOf t p → IsQuotient (modulus_in t) by p r → IsOf t r
unfolding IsOf
quotient-IsOf t by p r h part = record {
  coefficients = both (modulus_in t) r (part.some (somes (modulus_in t) p h.coefficients)) part.below;
  numbers = from_firsts (λ n. n < length t.monomials) r (subst (AllByRecursion (λ n. n < length t.monomials)) (sym part.numbers) (over_firsts (λ n. n < length t.monomials) p h.numbers));
  order = firsts_order r (subst (AreAfter nat_cmp None) (sym part.numbers) (order_firsts p h.order));
  table = h.table;
}

-- what is divided by a number, in the words of the table
pub quotient_in : (w by : ℕ) (ms : List (List ℕ)) (t : Table) (p p' raw r : Sum) → table_of w ms ≡ t → p' ≡ p → r ≡ raw → IsQuotient (2 ^ w) by p' raw → IsQuotient (modulus_in t) by p r
quotient_in w by ms t p p' raw r e f is part =
    subst (λ (u : Table). IsQuotient (modulus_in u) by p r) e (subst (λ a. IsQuotient (2 ^ w) by a r) f (subst (IsQuotient (2 ^ w) by p') (sym is) part))

-- so many times a quotient's value is that of the whole
pub quotient-value : (t : Table) (by : ℕ) (p r : Sum) (σ : Assignment) → IsQuotient (modulus_in t) by p r → (by * value_in t r σ) % modulus_in t ≡ value_in t p σ
quotient-value t by p r σ part =
    let F : ℕ → ℕ = λ k. product σ (get_or t.monomials k []) in
    ap (λ n. (by * n) % modulus_in t) (value-total t r σ) ∙ reduced (modulus_in t) by (total F r) ∙ part.sums F ∙ sym (value-total t p σ)

variables_along : (t : Table) (p : Sum) → map (λ x. x.variables) (monomials_in t p) ≡ map (λ n. get_or t.monomials n []) (map (λ e. e.0) p)
unfolding monomials_in
variables_along t [] = refl
variables_along t (e ∷ es) = ap (λ vs. get_or t.monomials e.0 [] ∷ vs) (variables_along t es)

-- and its monomials are the same
pub quotient-variables : (t : Table) (by : ℕ) (p r : Sum) → IsQuotient (modulus_in t) by p r → map (λ x. x.variables) (monomials_in t r) ≡ map (λ x. x.variables) (monomials_in t p)
quotient-variables t by p r part =
    variables_along t r ∙ ap (map (λ n. get_or t.monomials n [])) part.numbers ∙ sym (variables_along t p)

-- the coefficients of a polynomial are below the modulus
pub coefficients_below : (w : ℕ) (ms : List (List ℕ)) (t : Table) (p p' : Sum) → table_of w ms ≡ t → p' ≡ p → IsOf t p → All (λ e. e.1 < 2 ^ w) p'
unfolding IsOf
coefficients_below w ms t p p' e f h =
    let low : All (λ e. e.1 < modulus_in t) p = λ i x in_list. (All-from_recursion (λ e. (0 < e.1) × (e.1 < modulus_in t)) p h.coefficients i x in_list).1 in
    subst (λ (u : Table). All (λ e. e.1 < modulus_in u) p') (sym e) (subst (All (λ e. e.1 < modulus_in t)) (sym f) low)

-- a fact of some entry's coefficient is one of some monomial's
coefficient_of_some : (P : ℕ → Type 0) (t : Table) (p : Sum) → Any (λ e. P e.1) p ↔ Any (λ x. P x.coefficient) (monomials_in t p)
unfolding monomials_in
coefficient_of_some P t p =
    let f = monomial_in t in (
      λ some. (some.0, f some.1, (let len = length-map p f in let low = some.2 in omega arith), get_or-map f p some.0 some.1 (f some.1) some.2 ∙ ap f some.3, some.4),
      λ some.
          let low : some.0 < length p = let len = length-map p f in let low = some.2 in omega arith in
          let e = get_or p some.0 (0, 0) in
          (some.0, e, low, get_or_default p some.0 e (0, 0) low, subst (λ x. P x.coefficient) (sym some.3 ∙ get_or-map f p some.0 (0, 0) some.1 low) some.4),
    )

-- that nothing is answered where some entry's coefficient is so, in the words of the table
pub none_in : (b : Bool) (P : ℕ → Type 0) (t : Table) (p p' : Sum) → p' ≡ p → ((b ≡ false) ↔ Any (λ e. P e.1) p') → (b ≡ false) ↔ Any (λ x. P x.coefficient) (monomials_in t p)
none_in b P t p p' f is =
    let of = coefficient_of_some P t p in
    (λ no. of.0 (subst (Any (λ e. P e.1)) f (is.0 no)), λ some. is.1 (subst (Any (λ e. P e.1)) (sym f) (of.1 some)))

-- what is carried to another table has its value there
pub brought-value : (w : ℕ) (ms : List (List ℕ)) (t : Table) (p p' : Sum) (σ : Assignment) → t.exponent ≡ w → ms ≡ t.monomials → p' ≡ p → total_in ms σ p' % 2 ^ w ≡ value_in t p σ
brought-value w ms t p p' σ e f g =
    ap₂ (λ ns es. total_in ns σ es % 2 ^ w) f g ∙ ap (λ k. total_in t.monomials σ p % 2 ^ k) (sym e) ∙ sym (value-total t p σ)
