-- Values and normal forms of polynomials in a table.
use Rattle.std.proofs.Common.{◌≡◌, ◌≢◌, ℕ, ◌+◌, ◌*◌, ◌%◌, ◌<◌, false, ◌==◌, Option, Some, None, List, [], ◌∷◌, length, get_or, refl, sym, ap, ap₂, ◌∙◌, arith, mod-lt, eq-eqb, true≢false}
use Rattle.std.specs.List.{AllPairs, AllByRecursion}
use Rattle.std.proofs.lemmas.List.Elements.{All-from_recursion}
use Rattle.std.proofs.lemmas.List.Kept.{AllPairs-cons}
use Rattle.graph_core.specs.Graph.Assignments.{Assignment}
use Rattle.algebra_core.specs.Polynomials.{product, sum_of}
use Rattle.algebra_core.specs.NormalForm.{AreRising, IsNormalTerm, IsNormalForm}
use Rattle.poly_terms.specs.Merges.{AreAfter}
use Rattle.poly_terms.specs.Entries.{entry_order, plus, total, Sum, Entry}
use Rattle.poly_terms.specs.Monomials.{AreIn, AreMonomials}
use Rattle.poly_terms.specs.Tables.{Table, IsOf, modulus_in, variables_in, monomial_in, monomials_in, value_in}
use Rattle.poly_terms.proofs.Orders.{after-plus, all-plus, all_after}
use Rattle.poly_terms.proofs.Totals.{total-plus}
use Rattle.poly_terms.proofs.Residues.{sum_of_reduced}

pub sum_of-monomials : (t : Table) (m : ℕ) (p : Sum) (σ : Assignment) → sum_of m (monomials_in t p) σ ≡ total (λ k. product σ (variables_in t k)) p
unfolding monomials_in
sum_of-monomials t m [] σ = refl
sum_of-monomials t m (e ∷ es) σ = ap (λ n. e.1 * product σ (variables_in t e.0) + n) (sum_of-monomials t m es σ)

-- a value is the total of the coefficients whose variables are all true
pub value-total : (t : Table) (p : Sum) (σ : Assignment) → value_in t p σ ≡ total (λ k. product σ (variables_in t k)) p % modulus_in t
unfolding monomials_in
value-total t p σ = ap (λ n. n % modulus_in t) (sum_of-monomials t (modulus_in t) p σ)

pub value-plus : (t : Table) (p q : Sum) (σ : Assignment) → value_in t (plus (modulus_in t) p q) σ ≡ (value_in t p σ + value_in t q σ) % modulus_in t
value-plus t p q σ =
    let f = λ (k : ℕ). product σ (variables_in t k) in
    value-total t (plus (modulus_in t) p q) σ ∙ total-plus (modulus_in t) f p q ∙ sym (sum_of_reduced (modulus_in t) (total f p) (total f q)) ∙
    sym (ap₂ (λ a b. (a + b) % modulus_in t) (value-total t p σ) (value-total t q σ))

pub not_zero : (n : ℕ) → (n == 0) ≡ false → 0 < n
not_zero n h = let ne : n ≢ 0 = λ e. true≢false (sym (eq-eqb n 0 e) ∙ h) in omega arith

pub sums_below : (m : ℕ) (x y : Entry) → ((x.1 + y.1) % m == 0) ≡ false → (0 < x.1) × (x.1 < m) → (0 < y.1) × (y.1 < m) → (0 < (x.1 + y.1) % m) × ((x.1 + y.1) % m < m)
sums_below m x y e p q =
    let low = p.0 in
    let high = p.1 in
    let some : 0 < m = omega arith in
    (not_zero ((x.1 + y.1) % m) e, mod-lt (x.1 + y.1) some)

pub plus-IsOf : (t : Table) (p q : Sum) → IsOf t p → IsOf t q → IsOf t (plus (modulus_in t) p q)
unfolding IsOf
plus-IsOf t p q a b = record {
  table = a.table;
  coefficients = all-plus (modulus_in t) (λ e. (0 < e.1) × (e.1 < modulus_in t)) (λ x y e g h. sums_below (modulus_in t) x y e g h) p q a.coefficients b.coefficients;
  numbers = all-plus (modulus_in t) (λ e. e.0 < length t.monomials) (λ x y e g h. g) p q a.numbers b.numbers;
  order = after-plus (modulus_in t) None p q a.order b.order;
}

-- a monomial of the table rises
pub rises : (ms : List (List ℕ)) (n : ℕ) → AreMonomials ms → n < length ms → AreRising 0 (get_or ms n [])
rises ms n o h = All-from_recursion (AreRising 0) ms o.rising n [] h

normal_terms : (t : Table) (p : Sum) → AllByRecursion (λ e. (0 < e.1) × (e.1 < modulus_in t)) p → AreIn t.monomials p → AreMonomials t.monomials →
    AllByRecursion (IsNormalTerm (modulus_in t)) (monomials_in t p)
unfolding monomials_in
normal_terms t [] a b o = tt
normal_terms t (e ∷ es) a b o = ((refl, a.0.0, a.0.1, rises t.monomials e.0 o b.0), normal_terms t es a.1 b.1 o)

others : (t : Table) (x : Entry) (es : Sum) → AreMonomials t.monomials → x.0 < length t.monomials → AreIn t.monomials es → AllByRecursion (λ e. x.0 ≢ e.0) es → AllByRecursion (λ s. variables_in t x.0 ≢ s.variables) (monomials_in t es)
unfolding monomials_in
others t x [] o h b a = tt
others t x (e ∷ es) o h b a = (λ same. a.0 (o.once x.0 e.0 h b.0 same), others t x es o h b.1 a.1)

once : (t : Table) (bound : Option (Entry)) (p : Sum) → AreMonomials t.monomials → AreIn t.monomials p → AreAfter entry_order bound p → AllPairs (λ s u. s.variables ≢ u.variables) (monomials_in t p)
unfolding monomials_in
once t bound [] o b a = λ i j d g h. absurd (omega arith)
once t bound (e ∷ es) o b a =
    AllPairs-cons (λ s u. s.variables ≢ u.variables) (monomial_in t e) (monomials_in t es)
    (All-from_recursion (λ s. variables_in t e.0 ≢ s.variables) (monomials_in t es) (others t e es o b.0 b.1 (all_after e es a.1))) (once t (Some e) es o b.1 a.1)

-- a polynomial of a table has distinct monomials with coefficients other than 0
pub normal : (t : Table) (p : Sum) → IsOf t p → IsNormalForm (modulus_in t) (monomials_in t p)
unfolding IsOf monomials_in
normal t p h = record {
  terms = All-from_recursion (IsNormalTerm (modulus_in t)) (monomials_in t p) (normal_terms t p h.coefficients h.numbers h.table);
  once = once t None p h.table h.numbers h.order;
}
