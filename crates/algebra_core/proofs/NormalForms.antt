-- A normal form with a monomial isn't 0 everywhere: it isn't at the assignment that sets just the variables of a shortest monomial.
use Rattle.std.specs.Prelude.{◌⊎◌, ◌≡◌, ◌≢◌, ℕ, suc, ◌+◌, ◌*◌, ◌%◌, ◌<◌, ◌≤◌, Bool, true, false, cond, ◌&&◌, ◌||◌, List, [], ◌∷◌, ◌++◌, length, ◌==◌}
use Rattle.std.specs.List.{AllByRecursion, AllPairs, list_any, list_all}
use Rattle.std.proofs.Common.{inl, inr, refl, sym, ap, ap₂, subst, ◌∙◌, arith, ⊎_elim, eqb-true, eq-eqb, ne_eqb, true≢false, mod-eq_of_lt, mul-zero}
use Rattle.std.proofs.Math.Nat.{zero-mul, mul-one as mul_one}
use Rattle.graph_core.proofs.OfGraphs.CallerLemmas.{variable-pos, all_split}
use Rattle.std.proofs.lemmas.Bool.{cases_Bool, and_parts, cases_lt}
use Rattle.std.proofs.lemmas.List.Elements.{recursion_from_All}
use Rattle.graph_core.specs.Graph.Assignments.{Assignment, variable, bit}
use Rattle.algebra_core.specs.Polynomials.{Term, Polynomial, product, term_value, sum_of, value, difference}
use Rattle.algebra_core.specs.NormalForm.{AreRising, IsNormalTerm, IsNormalForm, NormalFormsDiffer}

-- whether a variable is in a list
abbrev pub mem : List ℕ → ℕ → Bool
mem us v = list_any (λ u. u == v) us

pub rising_mem : (b : ℕ) (us : List ℕ) (v : ℕ) → AreRising b us → mem us v ≡ true → b < v
rising_mem b [] v r h = absurd (true≢false (sym h))
rising_mem b (u ∷ us) v r h =
    ⊎_elim (λ e. let same = eqb-true u v e in let low = r.0 in omega arith)
    (λ f. let later : mem us v ≡ true = ap (λ c. c || mem us v) (sym f) ∙ h in let high = rising_mem u us v r.1 later in let low = r.0 in omega arith) (cases_Bool (u == v))

pub rising_from : (b c : ℕ) (us : List ℕ) → c ≤ b → AreRising b us → AreRising c us
rising_from b c [] h r = tt
rising_from b c (u ∷ us) h r = let low = r.0 in (omega arith, r.1)

-- what lies above u and in u ∷ us lies in us
drop_head : (u : ℕ) (us ws : List ℕ) → AreRising u ws → list_all (mem (u ∷ us)) ws ≡ true → list_all (mem us) ws ≡ true
drop_head u us [] r h = refl
drop_head u us (w ∷ ws) r h =
    let parts = and_parts (mem (u ∷ us) w) (list_all (mem (u ∷ us)) ws) h in
    let low = r.0 in
    let other : (u == w) ≡ false = ne_eqb u w (λ e. omega arith) in
    let here : mem us w ≡ true = ap (λ c. c || mem us w) (sym other) ∙ parts.0 in
    ap₂ ◌&&◌ here (drop_head u us ws (rising_from w u ws (omega arith) r.1) parts.1)

-- a part of a rising list is no longer
pub part_length : (us ws : List ℕ) (b : ℕ) → AreRising b us → AreRising b ws → list_all (mem us) ws ≡ true → length ws ≤ length us
part_length us [] b r s h = omega arith
part_length [] (w ∷ ws) b r s h = absurd (true≢false (sym h))
part_length (u ∷ us) (w ∷ ws) b r s h =
    let parts = and_parts (mem (u ∷ us) w) (list_all (mem (u ∷ us)) ws) h in
    ⊎_elim
    (λ e.
    let same = eqb-true u w e in
    let rest = part_length us ws u r.1 (subst (λ k. AreRising k ws) (sym same) s.1) (drop_head u us ws (subst (λ k. AreRising k ws) (sym same) s.1) parts.1) in
    omega arith)
    (λ f.
    let here : mem us w ≡ true = ap (λ c. c || mem us w) (sym f) ∙ parts.0 in
    let above = rising_mem u us w r.1 here in
    let rest = part_length us (w ∷ ws) u r.1 (above, s.1) (drop_head u us (w ∷ ws) (above, s.1) h) in
    let longer : suc (length ws) ≤ length us = rest in
    omega arith)
    (cases_Bool (u == w))

-- a part that is as long is the whole
pub part_whole : (us ws : List ℕ) (b : ℕ) → AreRising b us → AreRising b ws → list_all (mem us) ws ≡ true → length us ≤ length ws → us ≡ ws
part_whole [] [] b r s h l = refl
part_whole [] (w ∷ ws) b r s h l = absurd (true≢false (sym h))
part_whole (u ∷ us) [] b r s h l = absurd (omega arith)
part_whole (u ∷ us) (w ∷ ws) b r s h l =
    let parts = and_parts (mem (u ∷ us) w) (list_all (mem (u ∷ us)) ws) h in
    ⊎_elim
    (λ e.
    let same = eqb-true u w e in
    let rising = subst (λ k. AreRising k ws) (sym same) s.1 in
    ap₂ ◌∷◌ same (part_whole us ws u r.1 rising (drop_head u us ws rising parts.1) (omega arith)))
    (λ f.
    let here : mem us w ≡ true = ap (λ c. c || mem us w) (sym f) ∙ parts.0 in
    let above = rising_mem u us w r.1 here in
    let rest : suc (length ws) ≤ length us = part_length us (w ∷ ws) u r.1 (above, s.1) (drop_head u us (w ∷ ws) (above, s.1) h) in
    absurd (omega arith))
    (cases_Bool (u == w))

-- the product is 1 where all variables are true, and 0 where one is false
pub product-all : (σ : Assignment) (b : ℕ) (vs : List ℕ) → AreRising b vs → list_all σ vs ≡ true → product σ vs ≡ 1
product-all σ b [] r h = refl
product-all σ b (v ∷ vs) r h =
    let parts = and_parts (σ v) (list_all σ vs) h in
    let low = r.0 in
    ap₂ (λ c n. bit c * n) (variable-pos σ v (omega arith) ∙ parts.0) (product-all σ v vs r.1 parts.1)

pub product-some : (σ : Assignment) (b : ℕ) (vs : List ℕ) → AreRising b vs → list_all σ vs ≡ false → product σ vs ≡ 0
product-some σ b [] r h = absurd (true≢false h)
product-some σ b (v ∷ vs) r h =
    let low = r.0 in
    let is = variable-pos σ v (omega arith) in
    ⊎_elim
    (λ t. ap (λ n. bit (variable σ v) * n) (product-some σ v vs r.1 (ap (λ c. c && list_all σ vs) (sym t) ∙ h)) ∙ mul-zero (bit (variable σ v)))
    (λ f. ap (λ c. bit c * product σ vs) (is ∙ f) ∙ zero-mul (product σ vs)) (cases_Bool (σ v))

-- each variable of a list is in it
pub all_mem : (us vs : List ℕ) → ((v : ℕ) → mem vs v ≡ true → mem us v ≡ true) → list_all (mem us) vs ≡ true
all_mem us [] h = refl
all_mem us (v ∷ vs) h =
    ap₂ ◌&&◌ (h v (ap (λ c. c || mem vs v) (eq-eqb v v refl))) (all_mem us vs (λ w e. h w (later v w vs e)))
  where
    later : (x w : ℕ) (xs : List ℕ) → mem xs w ≡ true → ((x == w) || mem xs w) ≡ true
    later x w xs e = ⊎_elim (λ t. ap (λ c. c || mem xs w) t) (λ f. ap (λ c. c || mem xs w) f ∙ e) (cases_Bool (x == w))

-- A term of the list, the terms before and after it, and that none is shorter.
pub record IsShortest (p : List Term) : Type 0 where
  pub before : List Term
  pub term : Term
  pub after : List Term
  pub whole : p ≡ before ++ term ∷ after
  pub none_before : AllByRecursion (λ t. length term.variables ≤ length t.variables) before
  pub none_after : AllByRecursion (λ t. length term.variables ≤ length t.variables) after

pub all_longer : (k n : ℕ) (ts : List Term) → k ≤ n → AllByRecursion (λ t. n ≤ length t.variables) ts → AllByRecursion (λ t. k ≤ length t.variables) ts
all_longer k n [] h a = tt
all_longer k n (t ∷ ts) h a = let here = a.0 in (omega arith, all_longer k n ts h a.1)

pub both_longer : (k : ℕ) (xs : List Term) (t : Term) (ys : List Term) → k ≤ length t.variables → AllByRecursion (λ t. k ≤ length t.variables) xs → AllByRecursion (λ t. k ≤ length t.variables) ys →
    AllByRecursion (λ t. k ≤ length t.variables) (xs ++ t ∷ ys)
both_longer k [] t ys h a b = (h, b)
both_longer k (x ∷ xs) t ys h a b = (a.0, both_longer k xs t ys h a.1 b)

pub find_shortest : (t : Term) (ts : List Term) → IsShortest (t ∷ ts)
find_shortest t [] = record { before = []; term = t; after = []; whole = refl; none_before = tt; none_after = tt }
find_shortest t (u ∷ us) =
    let rest = find_shortest u us in
    ⊎_elim
    (λ less. record {
      before = [];
      term = t;
      after = u ∷ us;
      whole = refl;
      none_before = tt;
      none_after = subst (AllByRecursion (λ x. length t.variables ≤ length x.variables)) (sym rest.whole)
          (both_longer (length t.variables) rest.before rest.term rest.after (omega arith) (all_longer (length t.variables) (length rest.term.variables) rest.before (omega arith) rest.none_before) (all_longer (length t.variables) (length rest.term.variables) rest.after (omega arith) rest.none_after));
    })
    (λ more. record { before = t ∷ rest.before; term = rest.term; after = rest.after; whole = ap (λ xs. t ∷ xs) rest.whole; none_before = (more, rest.none_before); none_after = rest.none_after })
    (cases_lt (length t.variables) (length rest.term.variables))

-- a term over other variables, of which there are as many or more, is 0 at the assignment of just the first ones
pub other_zero : (m : ℕ) (us : List ℕ) (t : Term) → AreRising 0 us → IsNormalTerm m t → us ≢ t.variables → length us ≤ length t.variables → term_value m t (mem us) ≡ 0
other_zero m us t rising normal other longer =
    let none : product (mem us) t.variables ≡ 0 = product-some (mem us) 0 t.variables normal.3
    (⊎_elim (λ e. absurd (other (part_whole us t.variables 0 rising normal.3 e longer))) (λ f. f) (cases_Bool (list_all (mem us) t.variables))) in
    ap (λ b. cond b (difference m 0 (t.coefficient * product (mem us) t.variables)) (t.coefficient * product (mem us) t.variables)) normal.0 ∙
    ap (λ n. t.coefficient * n) none ∙ mul-zero t.coefficient

pub others_zero : (m : ℕ) (us : List ℕ) (ts : List Term) → AreRising 0 us → AllByRecursion (IsNormalTerm m) ts → AllByRecursion (λ t. us ≢ t.variables) ts →
    AllByRecursion (λ t. length us ≤ length t.variables) ts → sum_of m ts (mem us) ≡ 0
others_zero m us [] rising normal other longer = refl
others_zero m us (t ∷ ts) rising normal other longer =
    let here = other_zero m us t rising normal.0 other.0 longer.0 in
    let rest = others_zero m us ts rising normal.1 other.1 longer.1 in
    omega arith

pub sum_of-append : (m : ℕ) (xs ys : List Term) (σ : Assignment) → sum_of m (xs ++ ys) σ ≡ sum_of m xs σ + sum_of m ys σ
sum_of-append m [] ys σ = omega arith
sum_of-append m (x ∷ xs) ys σ = let rest = sum_of-append m xs ys σ in omega arith

-- no two terms of a list are over the same variables
abbrev pub Once : List Term → Type 0
Once [] = Unit {0}
Once (t ∷ ts) = AllByRecursion (λ s. t.variables ≢ s.variables) ts × Once ts

pub once_from_pairs : (ts : List Term) → AllPairs (λ s t. s.variables ≢ t.variables) ts → Once ts
once_from_pairs [] h = tt
once_from_pairs (t ∷ ts) h = (
  recursion_from_All (λ s. t.variables ≢ s.variables) ts (λ k d l. h 0 (suc k) d (omega arith) (omega arith)),
  once_from_pairs ts (λ i j d a b. h (suc i) (suc j) d (omega arith) (omega arith)),
)

pub once_around : (xs : List Term) (t : Term) (ys : List Term) → Once (xs ++ t ∷ ys) → AllByRecursion (λ s. t.variables ≢ s.variables) xs × AllByRecursion (λ s. t.variables ≢ s.variables) ys
once_around [] t ys h = (tt, h.0)
once_around (x ∷ xs) t ys h =
    let rest = once_around xs t ys h.1 in
    let apart = (all_split (λ s. x.variables ≢ s.variables) xs (t ∷ ys) h.0).1.0 in
    (((λ e. apart (sym e)), rest.0), rest.1)

pub differ_at : (m : ℕ) (p : Polynomial) → IsNormalForm m p → (s : IsShortest p) → value m p (mem s.term.variables) ≡ s.term.coefficient
differ_at m p normal s =
    let us = s.term.variables in
    let σ = mem us in
    let terms = all_split (IsNormalTerm m) s.before (s.term ∷ s.after) (subst (AllByRecursion (IsNormalTerm m)) s.whole (recursion_from_All (IsNormalTerm m) p normal.terms)) in
    let around = once_around s.before s.term s.after (subst Once s.whole (once_from_pairs p normal.once)) in
    let t = terms.1.0 in
    let front : sum_of m s.before σ ≡ 0 = others_zero m us s.before t.3 terms.0 around.0 s.none_before in
    let back : sum_of m s.after σ ≡ 0 = others_zero m us s.after t.3 terms.1.1 around.1 s.none_after in
    let one : product σ us ≡ 1 = product-all σ 0 us t.3 (all_mem us us (λ v e. e)) in
    let here : term_value m s.term σ ≡ s.term.coefficient =
    ap (λ b. cond b (difference m 0 (s.term.coefficient * product σ us)) (s.term.coefficient * product σ us)) t.0 ∙ ap (λ n. s.term.coefficient * n) one ∙ mul_one s.term.coefficient in
    let total : sum_of m p σ ≡ s.term.coefficient = ap (λ q. sum_of m q σ) s.whole ∙ sum_of-append m s.before (s.term ∷ s.after) σ ∙ omega arith in
    ap (λ n. n % m) total ∙ mod-eq_of_lt t.2

pub normal_forms_differ : NormalFormsDiffer
normal_forms_differ m [] normal some = absurd (omega arith)
normal_forms_differ m (t ∷ ts) normal some =
    let s = find_shortest t ts in
    let terms = all_split (IsNormalTerm m) s.before (s.term ∷ s.after) (subst (AllByRecursion (IsNormalTerm m)) s.whole (recursion_from_All (IsNormalTerm m) (t ∷ ts) normal.terms)) in
    let above = terms.1.0.1 in
    (mem s.term.variables, λ e. let is = differ_at m (t ∷ ts) normal s in omega arith)

-- a normal term's value
pub term_none : (m : ℕ) (σ : Assignment) (t : Term) → IsNormalTerm m t → list_all σ t.variables ≡ false → term_value m t σ ≡ 0
term_none m σ t normal h =
    ap (λ b. cond b (difference m 0 (t.coefficient * product σ t.variables)) (t.coefficient * product σ t.variables)) normal.0 ∙
    ap (λ n. t.coefficient * n) (product-some σ 0 t.variables normal.3 h) ∙ mul-zero t.coefficient

pub term_full : (m : ℕ) (σ : Assignment) (t : Term) → IsNormalTerm m t → list_all σ t.variables ≡ true → term_value m t σ ≡ t.coefficient
term_full m σ t normal h =
    ap (λ b. cond b (difference m 0 (t.coefficient * product σ t.variables)) (t.coefficient * product σ t.variables)) normal.0 ∙
    ap (λ n. t.coefficient * n) (product-all σ 0 t.variables normal.3 h) ∙ mul_one t.coefficient

-- where the sum isn't 0, some term's variables are all true
pub true_term : (m : ℕ) (σ : Assignment) (Q : Term → Type 0) (ts : List Term) → AllByRecursion (IsNormalTerm m) ts → AllByRecursion Q ts →
    (sum_of m ts σ ≡ 0) ⊎ ((s : Term) × Q s × (list_all σ s.variables ≡ true))
true_term m σ Q [] n q = inl refl
true_term m σ Q (t ∷ ts) n q =
    ⊎_elim (λ e. inr (t, q.0, e))
    (λ f. ⊎_elim (λ z. let here = term_none m σ t n.0 f in inl (omega arith)) (λ s. inr s) (true_term m σ Q ts n.1 q.1))
    (cases_Bool (list_all σ t.variables))
