-- Polynomials of a table with the same values are the same.
use Rattle.std.proofs.Common.{◌≡◌, ℕ, ◌+◌, ◌*◌, ◌-◌, ◌%◌, ◌<◌, Bool, true, false, cond, ◌==◌, Option, Some, None, List, [], ◌∷◌, refl, ap, ap₂, ◌∙◌, arith, eqb-true, mod-eq_of_lt}
use Rattle.std.proofs.Math.Nat.{mul-mod_right}
use Rattle.std.proofs.lemmas.Map.Lookups.{exact_unsigned}
use Rattle.std.specs.List.{AllByRecursion}
use Rattle.std.specs.declared.cmp.Ordering.{Ordering}
use Rattle.std.specs.declared.cmp.Ordering.TheVariants.{Less, Equal, Greater}
use Rattle.graph_core.specs.Graph.Assignments.{Assignment}
use Rattle.algebra_core.specs.Polynomials.{product}
use Rattle.algebra_core.proofs.CallerLemmas.{normal_forms_differ, same_from_difference}
use Rattle.poly_terms.specs.Merges.{chosen_of_two, AreAfter}
use Rattle.poly_terms.specs.Entries.{entry_order, add_entries, plus, total, Sum, Entry}
use Rattle.poly_terms.specs.Monomials.{AreIn}
use Rattle.poly_terms.specs.Tables.{Table, IsOf, modulus_in, variables_in, monomials_in, value_in}
use Rattle.poly_terms.proofs.Orders.{after_list, same_bound}
use Rattle.poly_terms.proofs.Residues.{sum_of_reduced}
use Rattle.poly_terms.proofs.Values.{value-total, value-plus, plus-IsOf, normal}

-- the entries with the opposite coefficients
negated : ℕ → Sum → Sum
negated m [] = []
negated m (e ∷ es) = (e.0, m - e.1) ∷ negated m es

negated_below : (m : ℕ) (es : Sum) → AllByRecursion (λ e. (0 < e.1) × (e.1 < m)) es → AllByRecursion (λ e. (0 < e.1) × (e.1 < m)) (negated m es)
unfolding negated
negated_below m [] h = tt
negated_below m (e ∷ es) h =
    let low = h.0.0 in
    let high = h.0.1 in
    ((omega arith, omega arith), negated_below m es h.1)

negated_in : (ms : List (List ℕ)) (m : ℕ) (es : Sum) → AreIn ms es → AreIn ms (negated m es)
unfolding negated
negated_in ms m [] h = tt
negated_in ms m (e ∷ es) h = (h.0, negated_in ms m es h.1)

negated_after : (m : ℕ) (bound : Option (Entry)) (es : Sum) → AreAfter entry_order bound es → AreAfter entry_order bound (negated m es)
unfolding negated
negated_after m bound [] h = tt
negated_after m bound (e ∷ es) h = (after_list bound e (e.0, m - e.1) refl h.0, same_bound e (e.0, m - e.1) (negated m es) refl (negated_after m (Some e) es h.1))

negated-IsOf : (t : Table) (p : Sum) → IsOf t p → IsOf t (negated (modulus_in t) p)
unfolding IsOf
negated-IsOf t p h = record {
  coefficients = negated_below (modulus_in t) p h.coefficients;
  numbers = negated_in t.monomials (modulus_in t) p h.numbers;
  table = h.table;
  order = negated_after (modulus_in t) None p h.order;
}

multiple : (d c m f r s n : ℕ) → d + c ≡ m → r + s ≡ m * n → (d * f + r) + (c * f + s) ≡ m * (f + n)
multiple d c m f r s n h g = omega (arith, ap (λ k. k * f) h, g)

total-negated : (m : ℕ) (f : ℕ → ℕ) (es : Sum) → AllByRecursion (λ e. (0 < e.1) × (e.1 < m)) es → (n : ℕ) × (total f (negated m es) + total f es ≡ m * n)
unfolding negated
total-negated m f [] h = (0, omega arith)
total-negated m f (e ∷ es) h =
    let rest = total-negated m f es h.1 in
    let high = h.0.1 in
    let whole : m - e.1 + e.1 ≡ m = omega arith in
    (f e.0 + rest.0, multiple (m - e.1) e.1 m (f e.0) (total f (negated m es)) (total f es) rest.0 whole rest.1)

-- a polynomial and its opposite have the value 0
opposite : (t : Table) (p q : Sum) (σ : Assignment) → IsOf t q → value_in t p σ ≡ value_in t q σ → value_in t (plus (modulus_in t) p (negated (modulus_in t) q)) σ ≡ 0
unfolding IsOf
opposite t p q σ h same =
    let m = modulus_in t in
    let f = λ (k : ℕ). product σ (variables_in t k) in
    let none = total-negated m f q h.coefficients in
    value-plus t p (negated m q) σ ∙ ap₂ (λ a b. (a + b) % m) (same ∙ value-total t q σ) (value-total t (negated m q) σ) ∙ sum_of_reduced m (total f q) (total f (negated m q)) ∙
    ap (λ n. n % m) (omega (arith, none.1)) ∙ mul-mod_right m none.0

same_heads : (m : ℕ) (x y : Entry) → x.0 ≡ y.0 → x.1 < m → y.1 < m → (x.1 + (m - y.1)) % m ≡ 0 → x ≡ y
same_heads m x y e xm ym h =
    let c : x.1 ≡ y.1 = same_from_difference m x.1 y.1 xm ym (ap (λ k. (x.1 + (m - k)) % m) (mod-eq_of_lt ym) ∙ h) in
    let pair : (x.0, x.1) ≡ (y.0, y.1) = ap₂ (λ (a b : ℕ). (a, b)) e c in
    pair

no_items : {A : Type 0} {X : Type 0} (x : X) (xs : List X) → x ∷ xs ≡ [] → A
no_items x xs h = absurd (cc)

-- where nothing is left of the difference, both are the same
none_left : (m : ℕ) (xs ys : Sum) → AllByRecursion (λ e. (0 < e.1) × (e.1 < m)) xs → AllByRecursion (λ e. (0 < e.1) × (e.1 < m)) ys →
    plus m xs (negated m ys) ≡ [] → xs ≡ ys
unfolding negated
none_left m [] [] a b h = refl
none_left m [] (y ∷ ys) a b h = no_items _ _ h
none_left m (x ∷ xs) [] a b h = no_items _ _ h
none_left m (x ∷ xs) (y ∷ ys) a b h = go (λ g. none_left m xs ys a.1 b.1 g) (entry_order x y) refl h
  where
    kept : (plus m xs (negated m ys) ≡ [] → xs ≡ ys) → x.0 ≡ y.0 → (t : Bool) → ((x.1 + (m - y.1)) % m == 0) ≡ t →
        cond t (plus m xs (negated m ys)) ((x.0, (x.1 + (m - y.1)) % m) ∷ plus m xs (negated m ys)) ≡ [] → x ∷ xs ≡ y ∷ ys
    kept later e true t g = ap₂ ◌∷◌ (same_heads m x y e a.0.1 b.0.1 (eqb-true ((x.1 + (m - y.1)) % m) 0 t)) (later g)
    kept later e false t g = no_items _ _ g

    go : (plus m xs (negated m ys) ≡ [] → xs ≡ ys) → (o : Ordering) → entry_order x y ≡ o →
        chosen_of_two (add_entries m) o x (y.0, m - y.1) (plus m xs ((y.0, m - y.1) ∷ negated m ys)) (plus m xs (negated m ys)) (plus m (x ∷ xs) (negated m ys)) ≡ [] → x ∷ xs ≡ y ∷ ys
    go later Less e g = no_items _ _ g
    go later Equal e g = kept later (exact_unsigned x.0 y.0 e) ((x.1 + (m - y.1)) % m == 0) refl g
    go later Greater e g = no_items _ _ g

-- polynomials with the same value at every assignment are the same
pub same_values : (t : Table) (p q : Sum) → IsOf t p → IsOf t q → ((σ : Assignment) → value_in t p σ ≡ value_in t q σ) → p ≡ q
unfolding IsOf monomials_in
same_values t p q a b same = none_left (modulus_in t) p q a.coefficients b.coefficients (empty (plus (modulus_in t) p (negated (modulus_in t) q)) (plus-IsOf t p (negated (modulus_in t) q) a (negated-IsOf t q b)) (λ σ. opposite t p q σ b (same σ)))
  where
    empty : (d : Sum) → IsOf t d → ((σ : Assignment) → value_in t d σ ≡ 0) → d ≡ []
    empty [] h none = refl
    empty (x ∷ xs) h none =
        let far = normal_forms_differ (modulus_in t) (monomials_in t (x ∷ xs)) (normal t (x ∷ xs) h) (omega arith) in
        absurd (far.1 (none far.0))
