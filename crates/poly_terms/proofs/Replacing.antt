-- The value of a polynomial in which a variable is replaced.
use Rattle.std.proofs.Common.{◌≡◌, ℕ, ◌+◌, ◌*◌, ◌%◌, ◌^◌, ◌<◌, Bool, true, false, not, cond, None, List, [], ◌∷◌, get_or, length, refl, sym, ap, ap₂, subst, ◌∙◌, arith}
use Rattle.std.proofs.Math.Nat.{add-mod-mod, mod-add-mod, mod-mod}
use Rattle.std.proofs.lemmas.Nat.{pow_pos}
use Rattle.graph_core.specs.Graph.Assignments.{Assignment, bit}
use Rattle.algebra_core.specs.Polynomials.{product, difference}
use Rattle.poly_terms.specs.Monomials.{Adds, AreMonomials, Grows, free_of, has_in, places_of, replaced, replaced_one, total_in, without_variable}
use Rattle.poly_terms.specs.Entries.{IsSortedSum, Sum, entry_order, plus}
use Rattle.poly_terms.specs.Merges.{AreAfter}
use Rattle.poly_terms.specs.Tables.{ArePlacesOf, Table, IsOf, modulus_in, value_in, assigned, replaced_value, table_of}
use Rattle.poly_terms.specs.Laws.{values_stay}
use Rattle.poly_terms.proofs.Assigned.{product-other, product-false, product-true}
use Rattle.poly_terms.proofs.Leaving.{after-filter, all-filter}
use Rattle.poly_terms.proofs.Made.{extends_grown, made-IsOf, made-value, value_below}
use Rattle.poly_terms.proofs.Residues.{plus_same, factor_reduced, left_out, difference_plus, sum_of_reduced}
use Rattle.poly_terms.proofs.Values.{value-total, value-plus, plus-IsOf}

replaced_front : (c k free r n p0 : ℕ) → (free + (k * n + r)) + n * (c * 0 + p0) ≡ k * n + (free + r + n * p0)
replaced_front c k free r n p0 = omega arith

replaced_back : (c k n p0 p1 : ℕ) → k * n + (p0 + n * p1) ≡ c * 0 + p0 + n * (k + p1)
replaced_back c k n p0 p1 = omega arith

kept_front : (k free r n p0 : ℕ) → (k + free + (0 + r)) + n * (k + p0) ≡ k + n * k + (free + r + n * p0)
kept_front k free r n p0 = omega arith

kept_back : (k n p0 p1 : ℕ) → k + n * k + (p0 + n * p1) ≡ k + p0 + n * (k + p1)
kept_back k n p0 p1 = omega arith

-- What entries without the variable and what the others become add up to, with no subtraction: the entries with the variable false, and n times what it adds.
pub total-replaced : (ms : List (List ℕ)) (v : ℕ) (σ : Assignment) (n : ℕ) (es : Sum) → 0 < v →
    total_in ms σ (free_of ms v es) + replaced ms v σ n es + n * total_in ms (assigned σ v false) es ≡ total_in ms (assigned σ v false) es + n * total_in ms (assigned σ v true) es
total-replaced ms v σ n [] some = omega arith
total-replaced ms v σ n (e ∷ es) some = go (total-replaced ms v σ n es some) (has_in ms v e) refl
  where
    go : total_in ms σ (free_of ms v es) + replaced ms v σ n es + n * total_in ms (assigned σ v false) es ≡ total_in ms (assigned σ v false) es + n * total_in ms (assigned σ v true) es →
        (t : Bool) → has_in ms v e ≡ t →
        total_in ms σ (cond (not t) (e ∷ free_of ms v es) (free_of ms v es)) + (cond t (replaced_one ms v σ n e) 0 + replaced ms v σ n es) + n * total_in ms (assigned σ v false) (e ∷ es) ≡
        total_in ms (assigned σ v false) (e ∷ es) + n * total_in ms (assigned σ v true) (e ∷ es)
    go rest true h =
        let vs = get_or ms e.0 [] in
        let free = total_in ms σ (free_of ms v es) in
        let r = replaced ms v σ n es in
        let p0 = total_in ms (assigned σ v false) es in
        let p1 = total_in ms (assigned σ v true) es in
        let k = e.1 * product σ (without_variable v vs) in
        let none : product (assigned σ v false) vs ≡ 0 = product-false σ v vs some h in
        let one : product (assigned σ v true) vs ≡ product σ (without_variable v vs) = product-true σ v vs some in
        ap (λ b. free + (k * n + r) + n * (e.1 * b + p0)) none ∙ replaced_front e.1 k free r n p0 ∙ ap (λ z. k * n + z) rest ∙ replaced_back e.1 k n p0 p1 ∙
        sym (ap₂ (λ a b. e.1 * a + p0 + n * (e.1 * b + p1)) none one)
    go rest false h =
        let vs = get_or ms e.0 [] in
        let free = total_in ms σ (free_of ms v es) in
        let r = replaced ms v σ n es in
        let p0 = total_in ms (assigned σ v false) es in
        let p1 = total_in ms (assigned σ v true) es in
        let k = e.1 * product σ vs in
        let low : product (assigned σ v false) vs ≡ product σ vs = product-other σ v false vs h in
        let high : product (assigned σ v true) vs ≡ product σ vs = product-other σ v true vs h in
        ap (λ b. k + free + (0 + r) + n * (e.1 * b + p0)) low ∙ kept_front k free r n p0 ∙ ap (λ z. k + n * k + z) rest ∙ kept_back k n p0 p1 ∙
        sym (ap₂ (λ a b. e.1 * a + p0 + n * (e.1 * b + p1)) low high)

times_same : (m c a b : ℕ) → a % m ≡ b % m → (c * a) % m ≡ (c * b) % m
times_same m c a b h =
    let left : (c * a) % m ≡ (a % m * c) % m = ap (λ n. n % m) (let e : c * a ≡ a * c + 0 = omega arith in e) ∙ sym (factor_reduced m a c 0) ∙ ap (λ n. n % m) (omega arith) in
    let right : (c * b) % m ≡ (b % m * c) % m = ap (λ n. n % m) (let e : c * b ≡ b * c + 0 = omega arith in e) ∙ sym (factor_reduced m b c 0) ∙ ap (λ n. n % m) (omega arith) in
    left ∙ ap (λ k. (k * c) % m) h ∙ sym right

-- the same with a subtraction
replaced_number : (m r q p0 p1 : ℕ) → 0 < m → (r + q * p0) % m ≡ (p0 + q * p1) % m → r % m ≡ (p0 % m + q % m * difference m (p1 % m) (p0 % m)) % m
replaced_number m r q p0 p1 some h =
    let d = difference m (p1 % m) (p0 % m) in
    let whole : (d + p0) % m ≡ p1 % m = sym (add-mod-mod d p0 m) ∙ difference_plus m (p1 % m) (p0 % m) some ∙ mod-mod p1 m in
    left_out m r (p0 % m + q % m * d) (q * p0) some
    (h ∙ plus_same m p0 (q * p1) (q * (d + p0)) (sym (times_same m q (d + p0) p1 whole)) ∙ ap (λ n. n % m) (spread q d p0) ∙
    sym (plus_same m p0 (q % m * d + q * p0) (q * d + q * p0) (factor_reduced m q d (q * p0))) ∙ sym (mod-add-mod p0 m (q % m * d + q * p0)) ∙ ap (λ n. n % m) (regrouped (p0 % m) (q % m * d) (q * p0)))
  where
    spread : (a b c : ℕ) → c + a * (b + c) ≡ c + (a * b + a * c)
    spread a b c = omega arith

    regrouped : (a b c : ℕ) → a + (b + c) ≡ a + b + c
    regrouped a b c = omega arith

pub free_of-IsOf : (t : Table) (v : ℕ) (p : Sum) → IsOf t p → IsOf t (free_of t.monomials v p)
unfolding IsOf
free_of-IsOf t v p h = record {
  coefficients = all-filter (λ e. not (has_in t.monomials v e)) (λ e. (0 < e.1) × (e.1 < modulus_in t)) p h.coefficients;
  numbers = all-filter (λ e. not (has_in t.monomials v e)) (λ e. e.0 < length t.monomials) p h.numbers;
  order = after-filter (λ e. not (has_in t.monomials v e)) None p h.order;
  table = h.table;
}

-- what a substitution makes, from its parts
pub record IsSubstituted (w v : ℕ) (old new : List (List ℕ)) (p q r : Sum) : Type 0 where
  pub raw : Sum
  pub gathered : Sum
  pub grows : Grows old new
  pub once : AreMonomials new
  pub adds : Adds (2 ^ w) old new [] raw (λ σ. replaced old v σ (total_in old σ q) p)
  pub others : IsSortedSum (2 ^ w) raw gathered
  pub sum : r ≡ plus (2 ^ w) (free_of old v p) gathered

module _ (w v : ℕ) (old new : List (List ℕ)) (p q r : Sum) (of : IsOf (table_of w old) p) (s : IsSubstituted w v old new p q r) where
  gathered-IsOf : IsOf (table_of w new) s.gathered
  gathered-IsOf = made-IsOf w new s.raw s.gathered s.gathered refl s.once (s.adds.numbers tt) s.others

  kept : IsOf (table_of w new) (free_of old v p) × ((σ : Assignment) → value_in (table_of w new) (free_of old v p) σ ≡ value_in (table_of w old) (free_of old v p) σ)
  kept = values_stay (table_of w old) (table_of w new) (free_of old v p) (extends_grown w old new (table_of w old) refl s.grows) (free_of-IsOf (table_of w old) v p of)

  pub substituted-IsOf : IsOf (table_of w new) r
  substituted-IsOf = subst (IsOf (table_of w new)) (sym s.sum) (plus-IsOf (table_of w new) (free_of old v p) s.gathered kept.0 gathered-IsOf)

  pub substituted-value : (σ : Assignment) → 0 < v → value_in (table_of w new) r σ ≡ replaced_value (table_of w old) p v (value_in (table_of w old) q σ) σ
  substituted-value σ some =
      let t = table_of w old in
      let m = 2 ^ w in
      let free = total_in old σ (free_of old v p) in
      let made = replaced old v σ (total_in old σ q) p in
      let p0 = total_in old (assigned σ v false) p in
      let p1 = total_in old (assigned σ v true) p in
      let n = total_in old σ q in
      ap (λ x. value_in (table_of w new) x σ) s.sum ∙ value-plus (table_of w new) (free_of old v p) s.gathered σ ∙
      ap₂ (λ a b. (a + b) % m) (kept.1 σ ∙ value-total t (free_of old v p) σ) (made-value w old new (λ σ. replaced old v σ (total_in old σ q) p) s.raw s.gathered s.gathered σ refl s.adds s.others) ∙
      sum_of_reduced m free made ∙ replaced_number m (free + made) n p0 p1 (pow_pos w) (ap (λ z. z % m) (total-replaced old v σ n p some)) ∙
      sym (ap₂ (λ a b. (a + b * difference m (value_in t p (assigned σ v true)) a) % m) (value-total t p (assigned σ v false)) (value-total t q σ) ∙
      ap (λ c. (p0 % m + n % m * difference m c (p0 % m)) % m) (value-total t p (assigned σ v true)))

-- where it is replaced by what is 0 or 1
pub replaced-bit : (t : Table) (p : Sum) (v n : ℕ) (σ : Assignment) (b : Bool) → n ≡ bit b → replaced_value t p v n σ ≡ value_in t p (assigned σ v b)
replaced-bit t p v n σ true h =
    let m = modulus_in t in
    let low = value_in t p (assigned σ v false) in
    let high = value_in t p (assigned σ v true) in
    ap (λ n. (low + n * difference m high low) % m) h ∙ ap (λ n. n % m) (once low (difference m high low)) ∙ difference_plus m high low (pow_pos t.exponent) ∙
    value_below t p (assigned σ v true)
  where
    once : (a d : ℕ) → a + 1 * d ≡ d + a
    once a d = omega arith
replaced-bit t p v n σ false h =
    let m = modulus_in t in
    let low = value_in t p (assigned σ v false) in
    let high = value_in t p (assigned σ v true) in
    ap (λ n. (low + n * difference m high low) % m) h ∙ ap (λ n. n % m) (none low (difference m high low)) ∙ value_below t p (assigned σ v false)
  where
    none : (a d : ℕ) → a + 0 * d ≡ a
    none a d = omega arith

-- what was substituted, from the steps
pub substituted_along : (w v : ℕ) (old new : List (List ℕ)) (p q p1 p2 q1 raw kept gathered r : Sum) → p1 ≡ p → p2 ≡ p → q1 ≡ q → Grows old new → AreMonomials new →
    Adds (2 ^ w) old new [] raw (λ σ. replaced old v σ (total_in old σ q1) p2) → IsSortedSum (2 ^ w) raw gathered → kept ≡ free_of old v p1 → r ≡ plus (2 ^ w) kept gathered →
    IsSubstituted w v old new p q r
substituted_along w v old new p q p1 p2 q1 raw stayed gathered r e f h g once adds others is sum = record {
  raw = raw;
  gathered = gathered;
  grows = g;
  once = once;
  adds = subst (λ x. Adds (2 ^ w) old new [] raw (λ σ. replaced old v σ (total_in old σ x) p)) h (subst (λ x. Adds (2 ^ w) old new [] raw (λ σ. replaced old v σ (total_in old σ q1) x)) f adds);
  others = others;
  sum = sum ∙ ap (λ k. plus (2 ^ w) k gathered) (is ∙ ap (free_of old v) e);
}

-- the order of a polynomial's numbers
pub order_of : (t : Table) (p p' : Sum) → p' ≡ p → IsOf t p → AreAfter entry_order None p'
unfolding IsOf
order_of t p p' e h = subst (AreAfter entry_order None) (sym e) h.order

-- the places, seen from the table inside
pub places_along : (w v : ℕ) (ms : List (List ℕ)) (t : Table) (p p' : Sum) (places : List ℕ) → table_of w ms ≡ t → p' ≡ p → ArePlacesOf t p v places → places ≡ places_of ms v p'
unfolding ArePlacesOf
places_along w v ms t p p' places e f h = h ∙ sym (ap (λ (u : Table). places_of u.monomials v p) e) ∙ sym (ap (places_of ms v) f)
