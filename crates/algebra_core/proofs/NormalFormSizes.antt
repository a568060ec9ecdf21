-- Each polynomial has a normal form, and but one.
use Rattle.std.specs.Prelude.{◌≡◌, ◌≢◌, ℕ, zero, suc, ◌+◌, ◌*◌, ◌%◌, ◌<◌, ◌≤◌, ◌⊎◌, Bool, true, false, cond, List, [], ◌==◌, ◌∷◌, ◌++◌, length}
use Rattle.std.specs.List.{AllByRecursion, AllPairs, Contains, list_all, list_any}
use Rattle.std.proofs.Common.{refl, sym, ap, ap₂, subst, ◌∙◌, arith, inl, inr, ⊎_elim, mod-eq_of_lt, mod-lt, length-append, append_assoc, mul-zero}
use Rattle.std.proofs.Math.Nat.{zero-mod, mod-mod, zero-mul}
use Rattle.std.proofs.lemmas.Bool.{cases_lt, cases_eq, cases_order}
use Rattle.std.proofs.lemmas.List.Elements.{All-from_recursion, recursion_from_All, Contains-append_left, Contains-append_right, Contains-append_cases}
use Rattle.graph_core.specs.Graph.Assignments.{Assignment, variable, bit}
use Rattle.algebra_core.specs.Polynomials.{Term, product, term_value, sum_of, value, difference}
use Rattle.algebra_core.specs.NormalForm.{AreRising, IsNormalTerm, IsNormalForm, NormalFormIsOne, SizeIsOne, NormalFormExists}
use Rattle.graph_core.proofs.OfGraphs.CallerLemmas.{all_join, all_split, all_weaker, sum_same, product_same}
use Rattle.algebra_core.proofs.Differences.{difference_plus, difference_is, difference_below}
use Rattle.algebra_core.proofs.NormalForms.{true_term, term_full, IsShortest, find_shortest, all_longer, both_longer, part_whole, all_mem, others_zero, sum_of-append, Once, once_from_pairs, once_around, normal_forms_differ}

-- whether a number is in a list
abbrev has : List ℕ → ℕ → Bool
has us v = list_any (λ u. u == v) us

-- back from pairs by recursion
pub pairs_from_once : (ts : List Term) → Once ts → AllPairs (λ s t. s.variables ≢ t.variables) ts
pairs_from_once [] h i j d lt within e = absurd (omega arith)
pairs_from_once (t ∷ ts) h zero zero d lt within e = absurd (omega arith)
pairs_from_once (t ∷ ts) h zero (suc j) d lt within e = All-from_recursion (λ s. t.variables ≢ s.variables) ts h.0 j d (omega arith) e
pairs_from_once (t ∷ ts) h (suc i) zero d lt within e = absurd (omega arith)
pairs_from_once (t ∷ ts) h (suc i) (suc j) d lt within e = pairs_from_once ts h.1 i j d (omega arith) (omega arith) e

-- a normal form, by recursion
abbrev Normal : ℕ → List Term → Type 0
Normal m ts = AllByRecursion (IsNormalTerm m) ts × Once ts

normal_from : (m : ℕ) (ts : List Term) → IsNormalForm m ts → Normal m ts
normal_from m ts h = (recursion_from_All (IsNormalTerm m) ts h.terms, once_from_pairs ts h.once)

pub normal_form : (m : ℕ) (ts : List Term) → Normal m ts → IsNormalForm m ts
normal_form m ts h = record { terms = All-from_recursion (IsNormalTerm m) ts h.0; once = pairs_from_once ts h.1 }

without_normal : (m : ℕ) (xs : List Term) (t : Term) (ys : List Term) → Normal m (xs ++ t ∷ ys) → Normal m (xs ++ ys)
without_normal m [] t ys h = (h.0.1, h.1.1)
without_normal m (x ∷ xs) t ys h =
    let rest = without_normal m xs t ys (h.0.1, h.1.1) in
    let parts = all_split (λ s. x.variables ≢ s.variables) xs (t ∷ ys) h.1.0 in
    ((h.0.0, rest.0), (all_join (λ s. x.variables ≢ s.variables) xs ys parts.0 parts.1.1, rest.1))

term_same : (s t : Term) → s.negative ≡ t.negative → s.coefficient ≡ t.coefficient → s.variables ≡ t.variables → s ≡ t
term_same s t a b c = λ i. record { negative = a i; coefficient = b i; variables = c i }

-- a normal form's value where just the variables of a shortest term are true
value_at_shortest : (m : ℕ) (us : List ℕ) (xs : List Term) (t : Term) (ys : List Term) → Normal m (xs ++ t ∷ ys) → us ≡ t.variables → AllByRecursion (λ s. length us ≤ length s.variables) (xs ++ t ∷ ys) →
    value m (xs ++ t ∷ ys) (has us) ≡ t.coefficient
value_at_shortest m us xs t ys h is long =
    let terms = all_split (IsNormalTerm m) xs (t ∷ ys) h.0 in
    let longs = all_split (λ s. length us ≤ length s.variables) xs (t ∷ ys) long in
    let apart = once_around xs t ys h.1 in
    let normal = terms.1.0 in
    let rising : AreRising 0 us = subst (AreRising 0) (sym is) normal.3 in
    let front : sum_of m xs (has us) ≡ 0 = others_zero m us xs rising terms.0 (all_weaker (λ s. t.variables ≢ s.variables) (λ s. us ≢ s.variables) xs (λ s k e. k (sym is ∙ e)) apart.0) longs.0 in
    let back : sum_of m ys (has us) ≡ 0 = others_zero m us ys rising terms.1.1 (all_weaker (λ s. t.variables ≢ s.variables) (λ s. us ≢ s.variables) ys (λ s k e. k (sym is ∙ e)) apart.1) longs.1.1 in
    let here : term_value m t (has us) ≡ t.coefficient = term_full m (has us) t normal (subst (λ vs. list_all (has us) vs ≡ true) is (all_mem us us (λ v e. e))) in
    let total : sum_of m (xs ++ t ∷ ys) (has us) ≡ t.coefficient = sum_of-append m xs (t ∷ ys) (has us) ∙ omega arith in
    ap (λ n. n % m) total ∙ mod-eq_of_lt normal.2

-- a term of a list, with what is before and after it
abbrev HasTerm : List Term → Term → Type 0
HasTerm q t = (before after : List Term) × (q ≡ before ++ t ∷ after)

-- A term no longer than any of the other form is in it.
in_other : (m : ℕ) (xs : List Term) (t : Term) (ys q : List Term) → Normal m (xs ++ t ∷ ys) → Normal m q → AllByRecursion (λ s. length t.variables ≤ length s.variables) (xs ++ t ∷ ys) →
    AllByRecursion (λ s. length t.variables ≤ length s.variables) q → ((σ : Assignment) → value m (xs ++ t ∷ ys) σ ≡ value m q σ) → HasTerm q t
in_other m xs t ys q h k long longer same =
    let us = t.variables in
    let normal = (all_split (IsNormalTerm m) xs (t ∷ ys) h.0).1.0 in
    let here = value_at_shortest m us xs t ys h refl long in
    let there : value m q (has us) ≡ t.coefficient = sym (same (has us)) ∙ here in
    let above = normal.1 in
    ⊎_elim
    (λ z. let none : value m q (has us) ≡ 0 = ap (λ n. n % m) z ∙ zero-mod m in absurd (omega arith))
    (λ found.
    let u = found.0 in
    let place = found.1.0 in
    let whole : us ≡ u.variables = part_whole us u.variables 0 normal.3 found.1.1.3 found.2 found.1.2 in
    let value_there : value m q (has us) ≡ u.coefficient = ap (λ r. value m r (has us)) place.2 ∙
    value_at_shortest m us place.0 u place.1 (subst (Normal m) place.2 k) whole (subst (AllByRecursion (λ s. length us ≤ length s.variables)) place.2 longer) in
    let equal : u ≡ t = term_same u t (found.1.1.0 ∙ sym normal.0) (sym value_there ∙ there) (sym whole) in
    (place.0, place.1, place.2 ∙ ap (λ s. place.0 ++ s ∷ place.1) equal))
    (true_term m (has us) (λ s. HasTerm q s × IsNormalTerm m s × (length us ≤ length s.variables)) q k.0 (each q q [] refl k.0 longer))
  where
    each : (q rest before : List Term) → q ≡ before ++ rest → AllByRecursion (IsNormalTerm m) rest → AllByRecursion (λ s. length t.variables ≤ length s.variables) rest →
        AllByRecursion (λ s. HasTerm q s × IsNormalTerm m s × (length t.variables ≤ length s.variables)) rest
    each q [] before is n l = tt
    each q (s ∷ rest) before is n l = (((before, rest, is), n.0, l.0), each q rest (before ++ s ∷ []) (is ∙ sym (append_assoc before (s ∷ []) rest)) n.1 l.1)

-- two normal forms with a term in common are one where they are without it
sum_around : (m : ℕ) (xs : List Term) (t : Term) (ys : List Term) (σ : Assignment) → sum_of m (xs ++ t ∷ ys) σ ≡ term_value m t σ + sum_of m (xs ++ ys) σ
sum_around m [] t ys σ = refl
sum_around m (x ∷ xs) t ys σ = let rest = sum_around m xs t ys σ in omega arith

cancel : (m a b c : ℕ) → 0 < m → (c + a) % m ≡ (c + b) % m → a % m ≡ b % m
cancel m a b c h e =
    let d = difference m 0 c in
    let none : (d + c) % m ≡ 0 % m = difference_plus m 0 c h in
    let left : (d + (c + a)) % m ≡ a % m = ap (λ z. z % m) (omega arith) ∙ sum_same m (d + c) 0 a a none refl ∙ ap (λ z. z % m) (omega arith) in
    let right : (d + (c + b)) % m ≡ b % m = ap (λ z. z % m) (omega arith) ∙ sum_same m (d + c) 0 b b none refl ∙ ap (λ z. z % m) (omega arith) in
    sym left ∙ sum_same m d d (c + a) (c + b) refl e ∙ right

record AreOne (p q : List Term) : Type 0 where
  long : length p ≡ length q
  left : AllByRecursion (Contains q) p
  right : AllByRecursion (Contains p) q

contains_more : (xs : List Term) (t : Term) (ys : List Term) (s : Term) → Contains (xs ++ ys) s → Contains (xs ++ t ∷ ys) s
contains_more xs t ys s c =
    ⊎_elim (λ l. Contains-append_left xs (t ∷ ys) s l) (λ r. Contains-append_right xs (t ∷ ys) s (Contains-append_right (t ∷ []) ys s r)) (Contains-append_cases xs ys s c)

contains_it : (xs : List Term) (t : Term) (ys : List Term) → Contains (xs ++ t ∷ ys) t
contains_it xs t ys = Contains-append_right xs (t ∷ ys) t (0, omega arith, refl)

one_more : (xs : List Term) (t : Term) (ys zs ws : List Term) → AllByRecursion (Contains (zs ++ ws)) (xs ++ ys) → AllByRecursion (Contains (zs ++ t ∷ ws)) (xs ++ t ∷ ys)
one_more xs t ys zs ws h =
    let more = all_weaker (Contains (zs ++ ws)) (Contains (zs ++ t ∷ ws)) (xs ++ ys) (contains_more zs t ws) h in
    let parts = all_split (Contains (zs ++ t ∷ ws)) xs ys more in
    all_join (Contains (zs ++ t ∷ ws)) xs (t ∷ ys) parts.0 (contains_it zs t ws, parts.1)

shortest_long : (p : List Term) (s : IsShortest p) → AllByRecursion (λ t. length s.term.variables ≤ length t.variables) p
shortest_long p s = subst (AllByRecursion (λ t. length s.term.variables ≤ length t.variables)) (sym s.whole)
    (both_longer (length s.term.variables) s.before s.term s.after (omega arith) s.none_before s.none_after)

nonempty_differs : (m : ℕ) (t : Term) (ts : List Term) → Normal m (t ∷ ts) → ((σ : Assignment) → value m (t ∷ ts) σ ≡ 0) → ⊥
nonempty_differs m t ts h z = let some = normal_forms_differ m (t ∷ ts) (normal_form m (t ∷ ts) h) (omega arith) in some.1 (z some.0)

are_one : (m n : ℕ) (p q : List Term) → 0 < m → length p ≤ n → Normal m p → Normal m q → ((σ : Assignment) → value m p σ ≡ value m q σ) → AreOne p q
are_one m n [] [] pos l a b same = record { long = refl; left = tt; right = tt }
are_one m n [] (u ∷ us) pos l a b same = absurd (nonempty_differs m u us b (λ σ. sym (same σ) ∙ zero-mod m))
are_one m n (t ∷ ts) [] pos l a b same = absurd (nonempty_differs m t ts a (λ σ. same σ ∙ zero-mod m))
are_one m zero (t ∷ ts) (u ∷ us) pos l a b same = absurd (omega arith)
are_one m (suc n) (t ∷ ts) (u ∷ us) pos l a b same =
    let common = shared m (t ∷ ts) (u ∷ us) (find_shortest t ts) (find_shortest u us) a b same in
    let x = common.0 in
    let p = common.1 in
    let q = common.2 in
    let size : (length p.0 + suc (length p.1)) ≡ suc (length ts) = sym (length-append p.0 (x ∷ p.1)) ∙ ap length (sym p.2) in
    let less : length (p.0 ++ p.1) ≤ n = omega (arith, length-append p.0 p.1) in
    let rest = are_one m n (p.0 ++ p.1) (q.0 ++ q.1) pos less (without_normal m p.0 x p.1 (subst (Normal m) p.2 a)) (without_normal m q.0 x q.1 (subst (Normal m) q.2 b))
    (λ σ. cancel m (sum_of m (p.0 ++ p.1) σ) (sum_of m (q.0 ++ q.1) σ) (term_value m x σ) pos
    (ap (λ z. z % m) (sym (sum_around m p.0 x p.1 σ)) ∙ ap (λ r. value m r σ) (sym p.2) ∙ same σ ∙ ap (λ r. value m r σ) q.2 ∙ ap (λ z. z % m) (sum_around m q.0 x q.1 σ))) in
    let long : length (p.0 ++ x ∷ p.1) ≡ length (q.0 ++ x ∷ q.1) = let is = rest.long in omega (arith, length-append p.0 (x ∷ p.1), length-append q.0 (x ∷ q.1), length-append p.0 p.1, length-append q.0 q.1) in
    subst (λ r. AreOne r (u ∷ us)) (sym p.2) (subst (AreOne (p.0 ++ x ∷ p.1)) (sym q.2) (record { long = long; left = one_more p.0 x p.1 q.0 q.1 rest.left; right = one_more q.0 x q.1 p.0 p.1 rest.right }))
  where
    shared : (m : ℕ) (p q : List Term) → IsShortest p → IsShortest q → Normal m p → Normal m q → ((σ : Assignment) → value m p σ ≡ value m q σ) → (x : Term) × HasTerm p x × HasTerm q x
    shared m p q s r a b same =
        ⊎_elim
        (λ less. (
          s.term,
          (s.before, s.after, s.whole),
          in_other m s.before s.term s.after q (subst (Normal m) s.whole a) b (subst (AllByRecursion (λ t. length s.term.variables ≤ length t.variables)) s.whole (shortest_long p s))
              (all_longer (length s.term.variables) (length r.term.variables) q (omega arith) (shortest_long q r)) (λ σ. ap (λ z. value m z σ) (sym s.whole) ∙ same σ),
        ))
        (λ more. (
          r.term,
          in_other m r.before r.term r.after p (subst (Normal m) r.whole b) a (subst (AllByRecursion (λ t. length r.term.variables ≤ length t.variables)) r.whole (shortest_long q r))
              (all_longer (length r.term.variables) (length s.term.variables) p (omega arith) (shortest_long p s)) (λ σ. ap (λ z. value m z σ) (sym r.whole) ∙ sym (same σ)),
          (r.before, r.after, r.whole),
        ))
        (cases_lt (length s.term.variables) (length r.term.variables))

above_zero : (m : ℕ) (t : Term) (ts : List Term) → IsNormalForm m (t ∷ ts) → 0 < m
above_zero m t ts h = let n = (normal_from m (t ∷ ts) h).0.0 in let a = n.1 in let b = n.2 in omega arith

pub normal_form_is_one : NormalFormIsOne
normal_form_is_one m [] [] a b same = (refl, (λ k d h. absurd (omega arith)), (λ k d h. absurd (omega arith)))
normal_form_is_one m [] (u ∷ us) a b same = absurd (nonempty_differs m u us (normal_from m (u ∷ us) b) (λ σ. sym (same σ) ∙ zero-mod m))
normal_form_is_one m (t ∷ ts) q a b same =
    let is = are_one m (length (t ∷ ts)) (t ∷ ts) q (above_zero m t ts a) (omega arith) (normal_from m (t ∷ ts) a) (normal_from m q b) same in
    (is.long, All-from_recursion (Contains q) (t ∷ ts) is.left, All-from_recursion (Contains (t ∷ ts)) q is.right)

pub size_is_one : SizeIsOne
size_is_one m f j k a b = sym a.3 ∙ (normal_form_is_one m a.0 b.0 a.1 b.1 (λ σ. a.2 σ ∙ sym (b.2 σ))).0 ∙ b.3

-- a variable put into a rising list
square : (b : Bool) (x : ℕ) → bit b * x ≡ bit b * (bit b * x)
square true x = omega arith
square false x = omega arith

inserted : (b v : ℕ) (us : List ℕ) → b < v → AreRising b us → (ws : List ℕ) × AreRising b ws × ((σ : Assignment) → product σ ws ≡ bit (variable σ v) * product σ us)
inserted b v [] h r = (v ∷ [], (h, tt), λ σ. refl)
inserted b v (u ∷ us) h r =
    ⊎_elim
    (λ e. (u ∷ us, r, λ σ. square (variable σ u) (product σ us) ∙ ap (λ w. bit (variable σ w) * (bit (variable σ u) * product σ us)) (sym e)))
    (λ o. ⊎_elim
    (λ lt. (v ∷ u ∷ us, (h, (lt, r.1)), λ σ. refl))
    (λ gt.
    let rest = inserted u v us gt r.1 in
    (u ∷ rest.0, (r.0, rest.1), λ σ. ap (λ z. bit (variable σ u) * z) (rest.2 σ) ∙ omega arith))
    o)
    (cases_order v u)

-- the variables once each, or a product that is always 0
sorted : (vs : List ℕ) → ((ws : List ℕ) × AreRising 0 ws × ((σ : Assignment) → product σ ws ≡ product σ vs)) ⊎ ((σ : Assignment) → product σ vs ≡ 0)
sorted [] = inl ([], tt, λ σ. refl)
sorted (zero ∷ vs) = inr (λ σ. zero-mul (product σ vs))
sorted (suc v ∷ vs) =
    ⊎_elim
    (λ s. let w = inserted 0 (suc v) s.0 (omega arith) s.1 in inl (w.0, w.1, λ σ. w.2 σ ∙ ap (λ z. bit (variable σ (suc v)) * z) (s.2 σ)))
    (λ z. inr (λ σ. ap (λ x. bit (variable σ (suc v)) * x) (z σ) ∙ mul-zero (bit (variable σ (suc v)))))
    (sorted vs)

-- a coefficient below m that stands for a sign and a coefficient
residue : (m : ℕ) (negative : Bool) (c : ℕ) → 0 < m → (d : ℕ) × (d < m) × ((x : ℕ) → (d * x) % m ≡ cond negative (difference m 0 (c * x)) (c * x) % m)
residue m true c h = (
  difference m 0 c,
  difference_below m 0 c h,
  λ x.
      let sum : (difference m 0 c * x + c * x) % m ≡ 0 % m = ap (λ z. z % m) (omega arith) ∙ product_same m (difference m 0 c + c) 0 x x (difference_plus m 0 c h) refl ∙ ap (λ z. z % m) (zero-mul x) in
      sym (mod-mod (difference m 0 c * x) m) ∙ ap (λ z. z % m) (sym (difference_is m 0 (c * x) (difference m 0 c * x) h sum)),
)
residue m false c h = (c % m, mod-lt c h, λ x. product_same m (c % m) c x x (mod-mod c m) refl)

-- a term in normal form, or one that is always 0
normal_term : (m : ℕ) (t : Term) → 0 < m → ((s : Term) × IsNormalTerm m s × ((σ : Assignment) → term_value m s σ % m ≡ term_value m t σ % m)) ⊎ ((σ : Assignment) → term_value m t σ % m ≡ 0)
normal_term m t h =
    let r = residue m t.negative t.coefficient h in
    ⊎_elim
    (λ s. ⊎_elim
    (λ e. inr (λ σ. sym (r.2 (product σ t.variables)) ∙ ap (λ z. (z * product σ t.variables) % m) e ∙ ap (λ z. z % m) (zero-mul (product σ t.variables)) ∙ zero-mod m))
    (λ ne.
    let above : 0 < r.0 = omega arith in
    inl (record { negative = false; coefficient = r.0; variables = s.0 }, (refl, above, r.1, s.1), λ σ. ap (λ z. (r.0 * z) % m) (s.2 σ) ∙ r.2 (product σ t.variables)))
    (cases_eq r.0 0))
    (λ z. inr (λ σ. sym (r.2 (product σ t.variables)) ∙ ap (λ x. (r.0 * x) % m) (z σ) ∙ ap (λ x. x % m) (mul-zero r.0) ∙ zero-mod m))
    (sorted t.variables)

-- lists are the same or not
same_lists : (xs ys : List ℕ) → (xs ≡ ys) ⊎ (xs ≢ ys)
same_lists [] [] = inl refl
same_lists [] (y ∷ ys) = inr (λ e. cc)
same_lists (x ∷ xs) [] = inr (λ e. cc)
same_lists (x ∷ xs) (y ∷ ys) =
    ⊎_elim (λ e. ⊎_elim (λ f. inl (ap₂ ◌∷◌ e f)) (λ n. inr (λ f. let rest : xs ≡ ys = cc in n rest)) (same_lists xs ys)) (λ n. inr (λ f. let first : x ≡ y = cc in n first)) (cases_eq x y)

-- A normal form and one more normal term.
record Added (m : ℕ) (t : Term) (q : List Term) : Type 0 where
  result : List Term
  normal : Normal m result
  value : (σ : Assignment) → sum_of m result σ % m ≡ (term_value m t σ + sum_of m q σ) % m
  long : length result ≤ suc (length q)
  apart : (vs : List ℕ) → vs ≢ t.variables → AllByRecursion (λ s. vs ≢ s.variables) q → AllByRecursion (λ s. vs ≢ s.variables) result

pub plain_value : (m : ℕ) (t : Term) (σ : Assignment) → IsNormalTerm m t → term_value m t σ ≡ t.coefficient * product σ t.variables
plain_value m t σ h = ap (λ b. cond b (difference m 0 (t.coefficient * product σ t.variables)) (t.coefficient * product σ t.variables)) h.0

merged : (m : ℕ) (t s : Term) (q : List Term) → 0 < m → IsNormalTerm m t → Normal m (s ∷ q) → t.variables ≡ s.variables → Added m t (s ∷ q)
merged m t s q h n k e =
    ⊎_elim
    (λ z. record {
      result = q;
      normal = (k.0.1, k.1.1);
      value = λ σ. sym (sum_same m (term_value m t σ + term_value m s σ) 0 (sum_of m q σ) (sum_of m q σ) (both σ ∙ ap (λ y. (y * product σ s.variables) % m) z ∙ ap (λ y. y % m) (zero-mul (product σ s.variables))) refl ∙ ap (λ y. y % m) (omega arith)) ∙ ap (λ y. y % m) (omega arith);
      long = omega arith;
      apart = λ vs a b. b.1;
    })
    (λ nz. record {
      result = record { negative = false; coefficient = c; variables = s.variables } ∷ q;
      normal = (((refl, omega arith, mod-lt (t.coefficient + s.coefficient) h, k.0.0.3), k.0.1), (k.1.0, k.1.1));
      value = λ σ. sum_same m (c * product σ s.variables) (term_value m t σ + term_value m s σ) (sum_of m q σ) (sum_of m q σ) (sym (both σ)) refl ∙ ap (λ y. y % m) (omega arith);
      long = omega arith;
      apart = λ vs a b. b;
    })
    (cases_eq c 0)
  where
    c : ℕ
    c = (t.coefficient + s.coefficient) % m

    both : (σ : Assignment) → (term_value m t σ + term_value m s σ) % m ≡ (c * product σ s.variables) % m
    both σ =
        let first : term_value m t σ ≡ t.coefficient * product σ s.variables = plain_value m t σ n ∙ ap (λ vs. t.coefficient * product σ vs) e in
        let second : term_value m s σ ≡ s.coefficient * product σ s.variables = plain_value m s σ k.0.0 in
        let sum : (term_value m t σ + term_value m s σ) ≡ (t.coefficient + s.coefficient) * product σ s.variables = omega arith in
        ap (λ y. y % m) sum ∙ product_same m (t.coefficient + s.coefficient) c (product σ s.variables) (product σ s.variables) (sym (mod-mod (t.coefficient + s.coefficient) m)) refl

added_after : (m : ℕ) (t s : Term) (q : List Term) → Normal m (s ∷ q) → t.variables ≢ s.variables → Added m t q → Added m t (s ∷ q)
added_after m t s q k ne rest = record {
  result = s ∷ rest.result;
  normal = ((k.0.0, rest.normal.0), (rest.apart s.variables (λ e. ne (sym e)) k.1.0, rest.normal.1));
  value = λ σ. sum_same m (term_value m s σ) (term_value m s σ) (sum_of m rest.result σ) (term_value m t σ + sum_of m q σ) refl (rest.value σ) ∙ ap (λ y. y % m) (omega arith);
  long = let l = rest.long in omega arith;
  apart = λ vs a b. (b.0, rest.apart vs a b.1);
}

with_term : (m : ℕ) (t : Term) (q : List Term) → 0 < m → IsNormalTerm m t → Normal m q → Added m t q
with_term m t [] h n k = record { result = t ∷ []; normal = ((n, tt), (tt, tt)); value = λ σ. refl; long = omega arith; apart = λ vs a b. (a, tt) }
with_term m t (s ∷ q) h n k =
    ⊎_elim (λ e. merged m t s q h n k e) (λ ne. added_after m t s q k ne (with_term m t q h n (k.0.1, k.1.1))) (same_lists t.variables s.variables)

normalized : (m : ℕ) (p : List Term) → 0 < m → (q : List Term) × Normal m q × ((σ : Assignment) → sum_of m q σ % m ≡ sum_of m p σ % m) × (length q ≤ length p)
normalized m [] h = ([], (tt, tt), (λ σ. refl), omega arith)
normalized m (t ∷ p) h =
    let rest = normalized m p h in
    let short = rest.3 in
    ⊎_elim
    (λ s.
    let more = with_term m s.0 rest.0 h s.1 rest.1 in
    let long = more.long in
    (more.result, more.normal, (λ σ. more.value σ ∙ sum_same m (term_value m s.0 σ) (term_value m t σ) (sum_of m rest.0 σ) (sum_of m p σ) (s.2 σ) (rest.2 σ)), omega arith))
    (λ z. (rest.0, rest.1, (λ σ. ap (λ y. y % m) (omega arith) ∙ sum_same m 0 (term_value m t σ) (sum_of m rest.0 σ) (sum_of m p σ) (zero-mod m ∙ sym (z σ)) (rest.2 σ)), omega arith))
    (normal_term m t h)

pub normal_form_exists : NormalFormExists
normal_form_exists m p h = let is = normalized m p h in (is.0, normal_form m is.0 is.1, is.2, is.3)
