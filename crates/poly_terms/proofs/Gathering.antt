-- Entries in any order, gathered once they are sorted.
use Rattle.std.proofs.Common.{◌≡◌, ◌≢◌, ℕ, suc, ◌+◌, ◌*◌, ◌%◌, ◌<◌, Bool, true, false, cond, ◌==◌, Option, Some, None, List, [], ◌∷◌, ◌++◌, get_or, sum_by, refl, sym, ap, subst, ◌∙◌, ⊎_elim, arith, mod-lt, eqb-true, true≢false}
use Rattle.std.proofs.lemmas.Cmp.{nat_cmp_total}
use Rattle.std.proofs.lemmas.List.Elements.{All-from_recursion, recursion_from_All}
use Rattle.std.proofs.lemmas.List.Sorted.{All-permutation, ranks_by, sorted_far, sum_by-IsPermutation}
use Rattle.std.proofs.lemmas.List.Sums.{sum_by-cons}
use Rattle.std.proofs.lemmas.Map.Lookups.{exact_unsigned}
use Rattle.std.specs.List.{AllByRecursion}
use Rattle.std.specs.List.Sorted.{IsPermutation, IsSortedBy}
use Rattle.std.specs.Ordering.{is_lt, nat_cmp, ordering_reverse}
use Rattle.std.specs.declared.cmp.Ordering.{Ordering}
use Rattle.std.specs.declared.cmp.Ordering.TheVariants.{Less, Equal, Greater}
use Rattle.graph_core.proofs.OfGraphs.CallerLemmas.{all_split, all_weaker}
use Rattle.poly_terms.specs.Merges.{AreAfter, IsAfter}
use Rattle.poly_terms.specs.Entries.{entry_order, total, one_entry, IsSortedSum, IsPutBehind, Sum, Entry}
use Rattle.poly_terms.proofs.Orders.{after_list}
use Rattle.poly_terms.proofs.Residues.{factor_reduced, plus_same}
use Rattle.poly_terms.proofs.Values.{not_zero}

pub gathered_none : (m : ℕ) → IsSortedSum m [] []
gathered_none m = record { sums = λ f. refl; order = tt; coefficients = tt; numbers = λ n h. h }

pub gathered_one : (m : ℕ) (e : Entry) → 0 < m → IsSortedSum m (e ∷ []) (one_entry m e)
gathered_one m e some = go (e.1 % m == 0) refl
  where
    go : (b : Bool) → (e.1 % m == 0) ≡ b → IsSortedSum m (e ∷ []) (cond b [] ((e.0, e.1 % m) ∷ []))
    go true t = record {
      sums = λ f. let none = eqb-true (e.1 % m) 0 t in ap (λ n. n % m) (omega (arith, ap (λ n. n * f e.0) none)) ∙ factor_reduced m e.1 (f e.0) 0;
      order = tt;
      coefficients = tt;
      numbers = λ n h. tt;
    }
    go false t = record {
      sums = λ f. factor_reduced m e.1 (f e.0) 0;
      order = (tt, tt);
      coefficients = ((not_zero (e.1 % m) t, mod-lt e.1 some), tt);
      numbers = λ n h. (h.0, tt);
    }

pub total-append : (f : ℕ → ℕ) (xs ys : Sum) → total f (xs ++ ys) ≡ total f xs + total f ys
total-append f [] ys = omega arith
total-append f (x ∷ xs) ys = omega (arith, total-append f xs ys)

pub all_joined : {X : Type 0} (P : X → Type 0) (xs ys : List X) → AllByRecursion P xs → AllByRecursion P ys → AllByRecursion P (xs ++ ys)
all_joined P [] ys a b = b
all_joined P (x ∷ xs) ys a b = (a.0, all_joined P xs ys a.1 b)

after-one_entry : (m : ℕ) (bound : Option Entry) (xs : Sum) (x : Entry) → AreAfter entry_order bound (xs ++ x ∷ []) → AreAfter entry_order bound (xs ++ one_entry m x)
after-one_entry m bound [] x a = go (x.1 % m == 0)
  where
    go : (b : Bool) → AreAfter entry_order bound (cond b [] ((x.0, x.1 % m) ∷ []))
    go true = tt
    go false = (after_list bound x (x.0, x.1 % m) refl a.0, tt)
after-one_entry m bound (y ∷ ys) x a = (a.0, after-one_entry m (Some y) ys x a.1)

-- entries are gathered where all but the last are, and the last one is reduced
ends : (m : ℕ) (raw front : Sum) (x : Entry) → 0 < m → ((f : ℕ → ℕ) → total f (front ++ x ∷ []) % m ≡ total f raw % m) → AreAfter entry_order None (front ++ x ∷ []) →
    AllByRecursion (λ e. (0 < e.1) × (e.1 < m)) front → ((n : ℕ) → AllByRecursion (λ e. e.0 < n) raw → AllByRecursion (λ e. e.0 < n) (front ++ x ∷ [])) →
    IsSortedSum m raw (front ++ one_entry m x)
ends m raw front x some sums order coefficients keys =
    let one = gathered_one m x some in
    record {
      sums = λ f.
          ap (λ n. n % m) (total-append f front (one_entry m x)) ∙ plus_same m (total f front) (total f (one_entry m x)) (total f (x ∷ [])) (one.sums f) ∙
          ap (λ n. n % m) (sym (total-append f front (x ∷ []))) ∙ sums f;
      order = after-one_entry m None front x order;
      coefficients = all_joined (λ e. (0 < e.1) × (e.1 < m)) front (one_entry m x) coefficients one.coefficients;
      numbers = λ n h.
          let parts = all_split (λ e. e.0 < n) front (x ∷ []) (keys n h) in
          all_joined (λ e. e.0 < n) front (one_entry m x) parts.0 (one.numbers n parts.1);
    }

-- one more entry, with the monomial of the last
gathered_onto : (m : ℕ) (raw front : Sum) (last e : Entry) → 0 < m → last.0 ≡ e.0 → IsSortedSum m raw (front ++ last ∷ []) →
    IsSortedSum m (raw ++ e ∷ []) (front ++ one_entry m (e.0, last.1 + e.1))
gathered_onto m raw front last e some same g =
    let both : Entry = (e.0, last.1 + e.1) in
    ends m (raw ++ e ∷ []) front both some
    (λ f.
    let one : total f (front ++ both ∷ []) ≡ e.1 * f e.0 + total f (front ++ last ∷ []) =
    omega (arith, total-append f front (both ∷ []), total-append f front (last ∷ []), ap (λ k. last.1 * f k) same) in
    let two : e.1 * f e.0 + total f raw ≡ total f (raw ++ e ∷ []) = omega (arith, total-append f raw (e ∷ [])) in
    ap (λ n. n % m) one ∙ plus_same m (e.1 * f e.0) (total f (front ++ last ∷ [])) (total f raw) (g.sums f) ∙ ap (λ n. n % m) two)
    (after_same None front last both same g.order)
    (all_split (λ x. (0 < x.1) × (x.1 < m)) front (last ∷ []) g.coefficients).0
    (λ n h.
    let parts = all_split (λ x. x.0 < n) raw (e ∷ []) h in
    let old = all_split (λ x. x.0 < n) front (last ∷ []) (g.numbers n parts.0) in
    all_joined (λ x. x.0 < n) front (both ∷ []) old.0 (parts.1.0, tt))
  where
    after_same : (bound : Option Entry) (xs : Sum) (x y : Entry) → x.0 ≡ y.0 → AreAfter entry_order bound (xs ++ x ∷ []) → AreAfter entry_order bound (xs ++ y ∷ [])
    after_same bound [] x y e a = (after_list bound x y e a.0, tt)
    after_same bound (z ∷ zs) x y e a = (a.0, after_same (Some z) zs x y e a.1)

-- one more entry, after all others
gathered_behind : (m : ℕ) (raw old : Sum) (e : Entry) → 0 < m → AreAfter entry_order None (old ++ e ∷ []) → IsSortedSum m raw old →
    IsSortedSum m (raw ++ e ∷ []) (old ++ one_entry m e)
gathered_behind m raw old e some order g =
    ends m (raw ++ e ∷ []) old e some
    (λ f.
    let one : total f (old ++ e ∷ []) ≡ e.1 * f e.0 + total f old = omega (arith, total-append f old (e ∷ [])) in
    let two : e.1 * f e.0 + total f raw ≡ total f (raw ++ e ∷ []) = omega (arith, total-append f raw (e ∷ [])) in
    ap (λ n. n % m) one ∙ plus_same m (e.1 * f e.0) (total f old) (total f raw) (g.sums f) ∙ ap (λ n. n % m) two)
    order
    g.coefficients
    (λ n h.
    let parts = all_split (λ x. x.0 < n) raw (e ∷ []) h in
    all_joined (λ x. x.0 < n) old (e ∷ []) (g.numbers n parts.0) parts.1)

-- no entry of the list comes before x
abbrev pub NoneBefore : Entry → Sum → Type 0
NoneBefore x es = AllByRecursion (λ e. is_lt (entry_order e x) ≡ false) es

-- no entry comes before an earlier one
abbrev pub Ascend : Sum → Type 0
Ascend [] = Unit {0}
Ascend (x ∷ es) = NoneBefore x es × Ascend es

-- only an entry's monomial matters
none_before : (x y : Entry) (es : Sum) → x.0 ≡ y.0 → NoneBefore x es → NoneBefore y es
none_before x y [] e h = tt
none_before x y (z ∷ es) e h = (ap (λ k. is_lt (nat_cmp z.0 k)) (sym e) ∙ h.0, none_before x y es e h.1)

none_before_one : (m : ℕ) (x : Entry) (es : Sum) → NoneBefore x es → AllByRecursion (λ o. NoneBefore o es) (one_entry m x)
none_before_one m x es h = go (x.1 % m == 0)
  where
    go : (b : Bool) → AllByRecursion (λ o. NoneBefore o es) (cond b [] ((x.0, x.1 % m) ∷ []))
    go true = tt
    go false = (none_before x (x.0, x.1 % m) es refl h, tt)

-- an entry that isn't before another one, and has another monomial, comes after it
comes_after : (x e : Entry) → is_lt (entry_order e x) ≡ false → x.0 ≢ e.0 → entry_order x e ≡ Less
comes_after x e h other = go (entry_order x e) refl
  where
    go : (o : Ordering) → entry_order x e ≡ o → entry_order x e ≡ Less
    go Less is = is
    go Equal is = absurd (other (exact_unsigned x.0 e.0 is))
    go Greater is =
        let before : is_lt (entry_order e x) ≡ true = ap is_lt (nat_cmp_total.antisymm e.0 x.0 ∙ ap ordering_reverse is) in
        absurd (true≢false (sym before ∙ h))

-- an entry after the last one is after all
after_last : (bound : Option Entry) (xs : Sum) (e : Entry) → AreAfter entry_order bound xs → (xs ≡ [] → IsAfter entry_order bound e) →
    ((front : Sum) (last : Entry) → xs ≡ front ++ last ∷ [] → entry_order last e ≡ Less) → AreAfter entry_order bound (xs ++ e ∷ [])
after_last bound [] e a none some = (none refl, tt)
after_last bound (x ∷ xs) e a none some =
    (a.0, after_last (Some x) xs e a.1 (λ h. some [] x (ap (λ z. x ∷ z) h)) (λ front last h. some (x ∷ front) last (ap (λ z. x ∷ z) h)))

-- a loop's step: none of the entries that are left comes before one of those gathered
pub gathered_more : (m : ℕ) (raw old new rest : Sum) (e : Entry) → 0 < m → IsSortedSum m raw old → AllByRecursion (λ o. NoneBefore o (e ∷ rest)) old → NoneBefore e rest →
    IsPutBehind m e old new → IsSortedSum m (raw ++ e ∷ []) new × AllByRecursion (λ o. NoneBefore o rest) new
gathered_more m raw old new rest e some g before ascends put =
    let left = all_weaker (λ o. NoneBefore o (e ∷ rest)) (λ o. NoneBefore o rest) old (λ o h. h.1) before in
    ⊎_elim
    (λ (front, last, is, same, becomes).
    let both : Entry = (e.0, last.1 + e.1) in (
      subst (IsSortedSum m (raw ++ e ∷ [])) (sym becomes) (gathered_onto m raw front last e some same (subst (IsSortedSum m raw) is g)),
      subst (AllByRecursion (λ o. NoneBefore o rest)) (sym becomes)
          (all_joined (λ o. NoneBefore o rest) front (one_entry m both)
          (all_split (λ o. NoneBefore o rest) front (last ∷ []) (subst (AllByRecursion (λ o. NoneBefore o rest)) is left)).0
          (none_before_one m both rest (none_before e both rest refl ascends))),
    ))
    (λ (other, becomes).
    let last_before = λ (front : Sum) (last : Entry) (is : old ≡ front ++ last ∷ []).
    let at = all_split (λ o. NoneBefore o (e ∷ rest)) front (last ∷ []) (subst (AllByRecursion (λ o. NoneBefore o (e ∷ rest))) is before) in
    comes_after last e at.1.0.0 (other front last is) in (
      subst (IsSortedSum m (raw ++ e ∷ [])) (sym becomes) (gathered_behind m raw old e some (after_last None old e g.order (λ h. tt) last_before) g),
      subst (AllByRecursion (λ o. NoneBefore o rest)) (sym becomes) (all_joined (λ o. NoneBefore o rest) old (one_entry m e) left (none_before_one m e rest ascends)),
    ))
    put

abbrev pub before : Entry → Entry → Bool
before x y = is_lt (entry_order x y)

-- what a sort ensures, by recursion
pub ascend_sorted : (es : Sum) → IsSortedBy before es → Ascend es
ascend_sorted [] up = tt
ascend_sorted (x ∷ es) up = (
  recursion_from_All (λ e. before e x ≡ false) es (λ k d h. sorted_far before (ranks_by nat_cmp_total (λ (e : Entry). e.0)) (x ∷ es) up 0 (suc k) d (omega arith) (omega arith)),
  ascend_sorted es
      (λ k d h i.
      let next : suc k + 1 ≡ suc (k + 1) = omega arith in
      subst (λ n. before (get_or (x ∷ es) n d) (get_or es k d) ≡ false) next (up (suc k) d (omega arith) (omega arith))),
)

total-sum_by : (f : ℕ → ℕ) (es : Sum) → total f es ≡ sum_by (λ e. e.1 * f e.0) es
total-sum_by f [] = refl
total-sum_by f (e ∷ es) = ap (λ n. e.1 * f e.0 + n) (total-sum_by f es) ∙ sym (sum_by-cons (λ (x : Entry). x.1 * f x.0) e es)

-- the order of what is gathered doesn't matter
pub gathered_permuted : (m : ℕ) (raw sorted out : Sum) → IsPermutation raw sorted → IsSortedSum m sorted out → IsSortedSum m raw out
gathered_permuted m raw sorted out moved g = record {
  sums = λ f.
      g.sums f ∙ ap (λ n. n % m) (total-sum_by f sorted ∙ sum_by-IsPermutation (λ (e : Entry). e.1 * f e.0) raw sorted moved ∙ sym (total-sum_by f raw));
  order = g.order;
  coefficients = g.coefficients;
  numbers = λ n h.
      let below = λ (e : Entry). e.0 < n in
      g.numbers n (recursion_from_All below sorted (All-permutation below raw sorted moved (All-from_recursion below raw h)));
}
