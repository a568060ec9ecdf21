-- What becomes of an index where a term is added, and where the terms with a variable are taken out.
use Rattle.std.proofs.Common.{◌≡◌, ◌≢◌, ◌⊎◌, ℕ, ◌+◌, ◌*◌, ◌%◌, ◌^◌, ◌<◌, Bool, true, false, cond, ◌==◌, List, [], ◌∷◌, ◌++◌, length, get_or, map, set, take, inl, inr, refl, sym, ap, ap₂, subst, ◌∙◌, ⊎_elim, arith, mod-lt, mod-eq_of_lt, eqb-true, get_or-set_same, get_or-set_other, None}
use Rattle.std.proofs.Math.Nat.{mod-mod}
use Rattle.std.proofs.lemmas.Bool.{cases_Bool, eqb-false}
use Rattle.std.proofs.lemmas.List.{take_more}
use Rattle.std.proofs.lemmas.Nat.{pow_pos}
use Rattle.std.specs.List.{AllByRecursion, Contains, filter}
use Rattle.graph_core.specs.Graph.Assignments.{Assignment}
use Rattle.algebra_core.specs.Polynomials.{difference, product}
use Rattle.algebra_core.proofs.CallerLemmas.{difference_is}
use Rattle.poly_terms.specs.Entries.{Entry, IsSortedSum, Sum, total}
use Rattle.poly_terms.specs.Indexed.{AreIndexed, EntersNew, HasAddedTerms, IndexedSum, IsAtPlace, IsGone, IsIndexed, IsLonger, TakesOut, terms_from}
use Rattle.poly_terms.specs.Monomials.{AreMonomials, has_in, has_variable, places_of, total_in}
use Rattle.poly_terms.specs.Tables.{ArePlacesOf, IsOf, Table, assigned, modulus_in, quotient_value, value_in}
use Rattle.poly_terms.proofs.Assigned.{product-false}
use Rattle.poly_terms.proofs.Dividing.{free-value}
use Rattle.poly_terms.proofs.Gathering.{all_joined, total-append}
use Rattle.poly_terms.proofs.Made.{made-IsOf, value_below}
use Rattle.poly_terms.proofs.Residues.{factor_reduced, left_out, plus_same, sum_of_reduced}
use Rattle.poly_terms.proofs.Sparse.{after-terms, all_terms, any_default, each_term, longer_itself, total-put}
use Rattle.poly_terms.proofs.Values.{value-total}

same_or_not : (i n : ℕ) → (i ≡ n) ⊎ (i ≢ n)
same_or_not i n = ⊎_elim (λ t. inl (eqb-true i n t)) (λ f. inr (eqb-false i n f)) (cases_Bool (i == n))

positive : (n : ℕ) → n ≢ 0 → 0 < n
positive n some = omega arith

-- a number's coefficient once one was put
pub put_cases : (old mid new : List ℕ) (n c : ℕ) → IsLonger old mid → n < length mid → new ≡ set mid n c → (j : ℕ) →
    ((j ≡ n) × (get_or new j 0 ≡ c)) ⊎ ((j ≢ n) × (get_or new j 0 ≡ get_or old j 0))
put_cases old mid new n c longer within put j =
    ⊎_elim
    (λ same. inl (same, ap (λ cs. get_or cs j 0) put ∙ ap (λ i. get_or (set mid n c) i 0) same ∙ get_or-set_same mid n c 0 within))
    (λ other. inr (other, ap (λ cs. get_or cs j 0) put ∙ get_or-set_other mid n j c 0 other ∙ longer.same j))
    (same_or_not j n)

-- ---- a term added

module _ (m : ℕ) (ms : List (List ℕ)) (old mid new : List ℕ) (places more : List (List ℕ)) (n c : ℕ) (e : Entry) (some : 0 < m) (at : n ≡ e.0) (low : e.0 < length ms)
    (h : AreIndexed m ms old places) (longer : IsLonger old mid) (within : n < length mid) (is : c ≡ (get_or mid n 0 + e.1) % m) (put : new ≡ set mid n c)
    (enters : EntersNew (get_or mid n 0) n (get_or ms n []) places more) where
  entered : (v : ℕ) → has_variable v (get_or ms n []) ≡ true → IsAtPlace more v n
  entered v has =
      ⊎_elim
      (λ none. enters.entered none v has)
      (λ one. enters.kept v n (h.indexed n v (subst (λ k. 0 < k) (longer.same n) (positive (get_or mid n 0) one)) has))
      (same_or_not (get_or mid n 0) 0)

  added-indexed : AreIndexed m ms new more
  added-indexed = record {
    below = λ j.
        ⊎_elim
        (λ (same, to). subst (λ k. k < m) (sym (to ∙ is)) (mod-lt (get_or mid n 0 + e.1) some))
        (λ (other, to). subst (λ k. k < m) (sym to) (h.below j))
        (put_cases old mid new n c longer within put j);
    within = λ j one.
        ⊎_elim
        (λ (same, to). subst (λ i. i < length ms) (sym (same ∙ at)) low)
        (λ (other, to). h.within j (subst (λ k. 0 < k) to one))
        (put_cases old mid new n c longer within put j);
    indexed = λ j v one has.
        ⊎_elim
        (λ (same, to). subst (λ i. IsAtPlace more v i) (sym same) (entered v (subst (λ i. has_variable v (get_or ms i []) ≡ true) same has)))
        (λ (other, to). enters.kept v j (h.indexed j v (subst (λ k. 0 < k) to one) has))
        (put_cases old mid new n c longer within put j);
  }

  added-total : (f : ℕ → ℕ) → total f (terms_from 0 new) % m ≡ (total f (terms_from 0 old) + total f (e ∷ [])) % m
  added-total f =
      let before = get_or mid n 0 in
      let s = total f (terms_from 0 old) in
      let to : total f (terms_from 0 new) + before * f n ≡ (before + e.1) % m * f n + s =
      ap (λ cs. total f (terms_from 0 cs) + before * f n) put ∙ total-put f mid n c within ∙ ap₂ (λ es k. total f es + k * f n) longer.terms is ∙ omega arith in
      left_out m (total f (terms_from 0 new)) (s + total f (e ∷ [])) (before * f n) some
      (ap (λ k. k % m) to ∙ factor_reduced m (before + e.1) (f n) s ∙ ap (λ k. k % m) (omega (arith, ap (λ k. e.1 * f k) at)))

  pub added_one : HasAddedTerms m ms old new more (e ∷ [])
  added_one = record { indexed = added-indexed; sums = added-total }

-- the step of a loop that adds each term
pub added_more : (m : ℕ) (ms : List (List ℕ)) (old mid new : List ℕ) (places more : List (List ℕ)) (es : Sum) (i : ℕ) (e : Entry) → i < length es → e ≡ get_or es i e →
    HasAddedTerms m ms old mid places (take i es) → HasAddedTerms m ms mid new more (e ∷ []) → HasAddedTerms m ms old new more (take (i + 1) es)
added_more m ms old mid new places more es i e low at p q = record {
  indexed = q.indexed;
  sums = λ f.
      let s = total f (terms_from 0 old) in
      let front = total f (take i es) in
      let one = total f (e ∷ []) in
      let all : total f (take (i + 1) es) ≡ front + one =
      ap (total f) (take_more es i e low ∙ ap (λ x. take i es ++ x ∷ []) (sym at)) ∙ total-append f (take i es) (e ∷ []) in
      q.sums f ∙ ap (λ k. k % m) (let t : total f (terms_from 0 mid) + one ≡ one + total f (terms_from 0 mid) = omega arith in t) ∙
      plus_same m one (total f (terms_from 0 mid)) (s + front) (p.sums f) ∙ ap (λ k. k % m) (omega (arith, all));
}

-- ---- terms taken out

pub takes_one : (ms : List (List ℕ)) (v : ℕ) (old new : List ℕ) (before after : Sum) (n c : ℕ) → c ≡ get_or old n 0 → n < length old → n < length ms →
    has_variable v (get_or ms n []) ≡ true → after ≡ before ++ (n, c) ∷ [] → new ≡ set old n 0 → TakesOut ms v old new before after
takes_one ms v old new before after n c is within low has to put = record {
  sums = λ f.
      omega (arith, ap (λ cs. total f (terms_from 0 cs)) put, total-put f old n 0 within, ap (total f) to, total-append f before ((n, c) ∷ []), ap (λ k. k * f n) is);
  less = λ j.
      ⊎_elim (λ (same, e). inr e) (λ (other, e). inl e) (put_cases old old new n 0 (longer_itself old) within put j);
  taken = λ h.
      subst (AllByRecursion (λ e. (e.0 < length ms) × (has_in ms v e ≡ true))) (sym to)
      (all_joined (λ e. (e.0 < length ms) × (has_in ms v e ≡ true)) before ((n, c) ∷ []) h ((low, has), tt));
}

-- what has a coefficient still has the one that it had
still : (ms : List (List ℕ)) (v : ℕ) (old new : List ℕ) (xs ys : Sum) (n : ℕ) → TakesOut ms v old new xs ys → 0 < get_or new n 0 → get_or new n 0 ≡ get_or old n 0
still ms v old new xs ys n p some = ⊎_elim (λ same. same) (λ none. absurd (omega (arith, none))) (p.less n)

pub still_within : (ms : List (List ℕ)) (v : ℕ) (old new : List ℕ) (xs ys : Sum) → TakesOut ms v old new xs ys → ((n : ℕ) → 0 < get_or old n 0 → n < length ms) → (n : ℕ) → 0 < get_or new n 0 → n < length ms
still_within ms v old new xs ys p h n some = h n (subst (λ k. 0 < k) (still ms v old new xs ys n p some) some)

module _ (m : ℕ) (ms : List (List ℕ)) (v : ℕ) (old new : List ℕ) (places left : List (List ℕ)) (numbers : List ℕ) (raw : Sum) (some : 0 < m)
    (h : AreIndexed m ms old places) (takes : TakesOut ms v old new [] raw) (are : numbers ≡ get_or places v []) (others : (u : ℕ) → u ≢ v → get_or left u [] ≡ get_or places u [])
    (gone : (k : ℕ) → k < length numbers → IsGone ms v new (get_or numbers k 0)) where
  -- no term is left that has the variable
  pub none_left : (n : ℕ) → 0 < get_or new n 0 → has_variable v (get_or ms n []) ≡ true → ⊥
  none_left n one has =
      let same = still ms v old new [] raw n takes one in
      let (k, low, at) = h.indexed n v (subst (λ c. 0 < c) same one) has in
      let low' : k < length numbers = subst (λ ns. k < length ns) (sym are) low in
      let there : get_or numbers k 0 ≡ n = ap (λ ns. get_or ns k 0) are ∙ any_default (get_or places v []) k 0 n low ∙ at in
      let none : get_or new n 0 ≡ 0 = subst (IsGone ms v new) there (gone k low') has in
      absurd (omega (arith, none))

  pub left-indexed : AreIndexed m ms new left
  left-indexed = record {
    below = λ n. ⊎_elim (λ same. subst (λ c. c < m) (sym same) (h.below n)) (λ none. subst (λ c. c < m) (sym none) some) (takes.less n);
    within = still_within ms v old new [] raw takes h.within;
    indexed = λ n u one has.
        ⊎_elim
        (λ same. absurd (none_left n one (subst (λ w. has_variable w (get_or ms n []) ≡ true) same has)))
        (λ other. let before = h.indexed n u (subst (λ c. 0 < c) (still ms v old new [] raw n takes one) one) has in subst (λ ns. Contains ns n) (sym (others u other)) before)
        (same_or_not u v);
  }

  pub left-places : places_of ms v (terms_from 0 new) ≡ []
  left-places = no_places (terms_from 0 new) (all_terms (λ e. has_in ms v e ≡ false) new (λ n one. not_there (has_variable v (get_or ms n [])) (none_left n one)))
    where
      not_there : (b : Bool) → (b ≡ true → ⊥) → b ≡ false
      not_there true never = absurd (never refl)
      not_there false never = refl

      no_places : (es : Sum) → AllByRecursion (λ e. has_in ms v e ≡ false) es → places_of ms v es ≡ []
      no_places [] h = refl
      no_places (e ∷ es) h = ap (λ b. map (λ (x : Entry). x.0) (cond b (e ∷ filter (has_in ms v) es) (filter (has_in ms v) es))) h.0 ∙ no_places es h.1

-- ---- in a table

pub indexed_inside : (t : Table) (x : IndexedSum) (cs : List ℕ) → terms_from 0 cs ≡ x.sum → IsOf t x.sum → IsIndexed t x → AreIndexed (modulus_in t) t.monomials cs x.places
unfolding IsOf IsIndexed
indexed_inside t x cs is of h = record {
  below = λ n.
      ⊎_elim
      (λ none. subst (λ c. c < modulus_in t) (sym none) (pow_pos t.exponent))
      (λ one. (each_term (λ e. (0 < e.1) × (e.1 < modulus_in t)) cs (subst (AllByRecursion (λ e. (0 < e.1) × (e.1 < modulus_in t))) (sym is) of.coefficients) n (positive (get_or cs n 0) one)).1)
      (same_or_not (get_or cs n 0) 0);
  within = each_term (λ e. e.0 < length t.monomials) cs (subst (AllByRecursion (λ e. e.0 < length t.monomials)) (sym is) of.numbers);
  indexed = λ n v some has.
      each_term (λ e. (v : ℕ) → has_in t.monomials v e ≡ true → IsAtPlace x.places v e.0) cs
      (subst (AllByRecursion (λ e. (v : ℕ) → has_in t.monomials v e ≡ true → IsAtPlace x.places v e.0)) (sym is) h) n some v has;
}

pub of_inside : (t : Table) (cs : List ℕ) (places : List (List ℕ)) → AreMonomials t.monomials → AreIndexed (modulus_in t) t.monomials cs places → IsOf t (terms_from 0 cs)
unfolding IsOf
of_inside t cs places once h = record {
  coefficients = all_terms (λ e. (0 < e.1) × (e.1 < modulus_in t)) cs (λ n some. (some, h.below n));
  numbers = all_terms (λ e. e.0 < length t.monomials) cs h.within;
  order = after-terms None 0 cs (λ e low. tt);
  table = once;
}

pub index_inside : (t : Table) (cs : List ℕ) (places : List (List ℕ)) → AreIndexed (modulus_in t) t.monomials cs places →
    IsIndexed t (record { sum = terms_from 0 cs; places = places })
unfolding IsIndexed
index_inside t cs places h = all_terms (λ e. (v : ℕ) → has_in t.monomials v e ≡ true → IsAtPlace places v e.0) cs (λ n some v has. h.indexed n v some has)

pub table_once : (t : Table) (p : Sum) → IsOf t p → AreMonomials t.monomials
unfolding IsOf
table_once t p h = h.table

-- a sum's value, from its totals
pub sum-value : (t : Table) (p q r : Sum) (σ : Assignment) → ((f : ℕ → ℕ) → total f r % modulus_in t ≡ (total f p + total f q) % modulus_in t) →
    value_in t r σ ≡ (value_in t p σ + value_in t q σ) % modulus_in t
sum-value t p q r σ sums =
    let f = λ (k : ℕ). product σ (get_or t.monomials k []) in
    value-total t r σ ∙ sums f ∙ sym (sum_of_reduced (modulus_in t) (total f p) (total f q)) ∙
    sym (ap₂ (λ a b. (a + b) % modulus_in t) (value-total t p σ) (value-total t q σ))

-- terms that have a variable are 0 where it is false
total-false : (ms : List (List ℕ)) (v : ℕ) (σ : Assignment) (es : Sum) → 0 < v → AllByRecursion (λ e. (e.0 < length ms) × (has_in ms v e ≡ true)) es → total_in ms (assigned σ v false) es ≡ 0
total-false ms v σ [] some h = refl
total-false ms v σ (e ∷ es) some h =
    omega (arith, ap (λ n. e.1 * n) (product-false σ v (get_or ms e.0 []) some h.0.1), total-false ms v σ es some h.1)

module _ (t : Table) (v : ℕ) (old new raw out r : Sum) (some : 0 < v) (sums : (f : ℕ → ℕ) → total f new + total f raw ≡ total f old) (g : IsSortedSum (modulus_in t) raw out) (is : r ≡ out)
    (has : AllByRecursion (λ e. (e.0 < length t.monomials) × (has_in t.monomials v e ≡ true)) raw) (free : ArePlacesOf t new v []) where
  pub taken-sum : (σ : Assignment) → value_in t old σ ≡ (value_in t new σ + value_in t r σ) % modulus_in t
  taken-sum σ =
      sum-value t new r old σ
      (λ f.
      ap (λ n. n % modulus_in t) (sym (sums f)) ∙ plus_same (modulus_in t) (total f new) (total f raw) (total f r) (sym (ap (λ es. total f es % modulus_in t) is ∙ g.sums f)))

  taken-false : (σ : Assignment) → value_in t r (assigned σ v false) ≡ 0
  taken-false σ =
      let f = λ (k : ℕ). product (assigned σ v false) (get_or t.monomials k []) in
      value-total t r (assigned σ v false) ∙ ap (λ es. total f es % modulus_in t) is ∙ g.sums f ∙ ap (λ n. n % modulus_in t) (total-false t.monomials v σ raw some has) ∙ zero_mod
    where
      zero_mod : 0 % modulus_in t ≡ 0
      zero_mod = mod-eq_of_lt (pow_pos t.exponent)

  pub taken-rest : (σ : Assignment) → value_in t new σ ≡ value_in t old (assigned σ v false)
  taken-rest σ =
      sym
      (taken-sum (assigned σ v false) ∙ ap₂ (λ a b. (a + b) % modulus_in t) (free-value t new v σ false free) (taken-false σ) ∙ ap (λ n. n % modulus_in t) (plus_none (value_in t new σ)) ∙
      value_below t new σ)
    where
      plus_none : (n : ℕ) → n + 0 ≡ n
      plus_none n = omega arith

  pub taken-quotient : (σ : Assignment) → quotient_value t r v σ ≡ quotient_value t old v σ
  taken-quotient σ =
      let m = modulus_in t in
      let a = value_in t new σ in
      let b = value_in t r (assigned σ v true) in
      let high : value_in t old (assigned σ v true) ≡ (a + b) % m = taken-sum (assigned σ v true) ∙ ap (λ n. (n + b) % m) (free-value t new v σ true free) in
      let one : difference m b 0 ≡ b % m = difference_is m b 0 b (pow_pos t.exponent) (ap (λ n. n % m) (let e : b + 0 ≡ b = omega arith in e)) in
      let two : difference m ((a + b) % m) a ≡ b % m =
      difference_is m ((a + b) % m) a b (pow_pos t.exponent) (ap (λ n. n % m) (let e : b + a ≡ a + b = omega arith in e) ∙ sym (mod-mod (a + b) m)) in
      ap (difference m b) (taken-false σ) ∙ one ∙ sym two ∙ sym (ap₂ (difference m) high (sym (taken-rest σ)))

-- ---- what is inside, and what is seen

pub inside_of : (t : Table) (x : IndexedSum) (w : ℕ) (ms : List (List ℕ)) (cs : List ℕ) (places : List (List ℕ)) → record { sum = terms_from 0 cs; places = places } ≡ x → w ≡ t.exponent → ms ≡ t.monomials →
    IsOf t x.sum → IsIndexed t x → AreIndexed (2 ^ w) ms cs places
inside_of t x w ms cs places view width monomials of h =
    let seen : IndexedSum = record { sum = terms_from 0 cs; places = places } in
    let is : AreIndexed (2 ^ t.exponent) t.monomials cs places =
    indexed_inside t seen cs refl (subst (λ (y : IndexedSum). IsOf t y.sum) (sym view) of) (subst (IsIndexed t) (sym view) h) in
    subst (λ k. AreIndexed (2 ^ k) ms cs places) (sym width) (subst (λ k. AreIndexed (2 ^ t.exponent) k cs places) (sym monomials) is)

outside : (t : Table) (w : ℕ) (ms : List (List ℕ)) (cs : List ℕ) (places : List (List ℕ)) → w ≡ t.exponent → ms ≡ t.monomials → AreIndexed (2 ^ w) ms cs places → AreIndexed (modulus_in t) t.monomials cs places
outside t w ms cs places width monomials h = subst (λ k. AreIndexed (2 ^ k) t.monomials cs places) width (subst (λ k. AreIndexed (2 ^ w) k cs places) monomials h)

pub outside_of : (t : Table) (p : Sum) (w : ℕ) (ms : List (List ℕ)) (cs : List ℕ) (places : List (List ℕ)) → w ≡ t.exponent → ms ≡ t.monomials → IsOf t p → AreIndexed (2 ^ w) ms cs places → IsOf t (terms_from 0 cs)
outside_of t p w ms cs places width monomials of h = of_inside t cs places (table_once t p of) (outside t w ms cs places width monomials h)

pub outside_index : (t : Table) (w : ℕ) (ms : List (List ℕ)) (cs : List ℕ) (places : List (List ℕ)) → w ≡ t.exponent → ms ≡ t.monomials → AreIndexed (2 ^ w) ms cs places →
    IsIndexed t (record { sum = terms_from 0 cs; places = places })
outside_index t w ms cs places width monomials h = index_inside t cs places (outside t w ms cs places width monomials h)

pub added-value : (t : Table) (x : IndexedSum) (w : ℕ) (cs new : List ℕ) (places : List (List ℕ)) (p p' : Sum) → record { sum = terms_from 0 cs; places = places } ≡ x → w ≡ t.exponent → p' ≡ p →
    ((f : ℕ → ℕ) → total f (terms_from 0 new) % 2 ^ w ≡ (total f (terms_from 0 cs) + total f p') % 2 ^ w) → (σ : Assignment) → value_in t (terms_from 0 new) σ ≡ (value_in t x.sum σ + value_in t p σ) % modulus_in t
added-value t x w cs new places p p' view width is sums σ =
    sum-value t x.sum p (terms_from 0 new) σ
    (λ f.
    subst (λ k. total f (terms_from 0 new) % 2 ^ k ≡ (total f (terms_from 0 cs) + total f p') % 2 ^ k) width (sums f) ∙
    ap₂ (λ (y : IndexedSum) q. (total f y.sum + total f q) % modulus_in t) view is)

-- ---- the polynomial 0

pub zero_of : (t : Table) → AreMonomials t.monomials → IsOf t []
unfolding IsOf
zero_of t once = record { coefficients = tt; numbers = tt; order = tt; table = once }

pub zero_indexed : (t : Table) (x : IndexedSum) → x.sum ≡ [] → IsIndexed t x
unfolding IsIndexed
zero_indexed t x none = subst (AllByRecursion (λ e. (v : ℕ) → has_in t.monomials v e ≡ true → IsAtPlace x.places v e.0)) (sym none) tt

pub zero-value : (t : Table) (σ : Assignment) → value_in t [] σ ≡ 0
zero-value t σ = value-total t [] σ ∙ mod-eq_of_lt (pow_pos t.exponent)

-- ---- what was taken

pub record IsTaken (t : Table) (v : ℕ) (x : IndexedSum) (new : List ℕ) (left : List (List ℕ)) (r : Sum) : Type 0 where
  pub of : IsOf t (terms_from 0 new)
  pub indexed : IsIndexed t (record { sum = terms_from 0 new; places = left })
  pub none : ArePlacesOf t (terms_from 0 new) v []
  pub rest : (σ : Assignment) → value_in t (terms_from 0 new) σ ≡ value_in t x.sum (assigned σ v false)
  pub taken : IsOf t r
  pub sum : (σ : Assignment) → value_in t x.sum σ ≡ (value_in t (terms_from 0 new) σ + value_in t r σ) % modulus_in t
  pub quotient : (σ : Assignment) → quotient_value t r v σ ≡ quotient_value t x.sum v σ

pub is_taken : (t : Table) (v : ℕ) (x : IndexedSum) (w : ℕ) (ms : List (List ℕ)) (cs new : List ℕ) (places left : List (List ℕ)) (numbers : List ℕ) (raw out r : Sum) →
    record { sum = terms_from 0 cs; places = places } ≡ x → w ≡ t.exponent → ms ≡ t.monomials → IsOf t x.sum → IsIndexed t x → 0 < v →
    numbers ≡ get_or places v [] → ((u : ℕ) → u ≢ v → get_or left u [] ≡ get_or places u []) →
    TakesOut ms v cs new [] raw → ((k : ℕ) → k < length numbers → IsGone ms v new (get_or numbers k 0)) → IsSortedSum (2 ^ w) raw out → r ≡ out → IsTaken t v x new left r
unfolding ArePlacesOf
is_taken t v x w ms cs new places left numbers raw out r view width monomials of h some are others takes gone g is =
    let a : AreIndexed (2 ^ t.exponent) t.monomials cs places = inside_of t x t.exponent t.monomials cs places view refl refl of h in
    let takes' : TakesOut t.monomials v cs new [] raw = subst (λ k. TakesOut k v cs new [] raw) monomials takes in
    let gone' : (k : ℕ) → k < length numbers → IsGone t.monomials v new (get_or numbers k 0) = λ k low. subst (λ ks. IsGone ks v new (get_or numbers k 0)) monomials (gone k low) in
    let g' : IsSortedSum (modulus_in t) raw out = subst (λ k. IsSortedSum (2 ^ k) raw out) width g in
    let b : AreIndexed (modulus_in t) t.monomials new left = left-indexed (modulus_in t) t.monomials v cs new places left numbers raw (pow_pos t.exponent) a takes' are others gone' in
    let free : ArePlacesOf t (terms_from 0 new) v [] = sym (left-places (modulus_in t) t.monomials v cs new places left numbers raw (pow_pos t.exponent) a takes' are others gone') in
    let has = takes'.taken tt in
    let sums : (f : ℕ → ℕ) → total f (terms_from 0 new) + total f raw ≡ total f x.sum =
    λ f. takes'.sums f ∙ (let e : total f (terms_from 0 cs) + 0 ≡ total f (terms_from 0 cs) = omega arith in e) ∙ ap (λ (y : IndexedSum). total f y.sum) view in
    record {
      of = of_inside t new left (table_once t x.sum of) b;
      indexed = index_inside t new left b;
      none = free;
      rest = taken-rest t v x.sum (terms_from 0 new) raw out r some sums g' is has free;
      taken = made-IsOf t.exponent t.monomials raw out r is (table_once t x.sum of) (firsts t.monomials v raw has) g';
      sum = taken-sum t v x.sum (terms_from 0 new) raw out r some sums g' is has free;
      quotient = taken-quotient t v x.sum (terms_from 0 new) raw out r some sums g' is has free;
    }
  where
    firsts : (ks : List (List ℕ)) (v : ℕ) (es : Sum) → AllByRecursion (λ e. (e.0 < length ks) × (has_in ks v e ≡ true)) es → AllByRecursion (λ e. e.0 < length ks) es
    firsts ks v [] h = tt
    firsts ks v (e ∷ es) h = (h.0.0, firsts ks v es h.1)
