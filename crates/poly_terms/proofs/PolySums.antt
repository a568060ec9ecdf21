-- Polynomials that are added up, each coefficient at its monomial's number.
use Rattle.std.proofs.Common.{◌≡◌, ℕ, ◌+◌, ◌*◌, ◌%◌, ◌^◌, ◌<◌, zero, suc, None, List, [], ◌∷◌, ◌++◌, length, get_or, set, take, inl, inr, refl, sym, ap, ap₂, subst, ◌∙◌, ⊎_elim, arith, mod-lt}
use Rattle.std.proofs.Math.Nat.{mod-add-mod}
use Rattle.std.proofs.lemmas.List.{take_more}
use Rattle.std.proofs.lemmas.Nat.{pow_pos}
use Rattle.std.specs.List.{AllByRecursion}
use Rattle.graph_core.specs.Graph.Assignments.{Assignment}
use Rattle.algebra_core.specs.Polynomials.{Polynomial, product, sum_of, value}
use Rattle.graph_core.proofs.OfGraphs.CallerLemmas.{all_split}
use Rattle.poly_terms.specs.Entries.{Entry, IsSortedSum, Sum, total}
use Rattle.poly_terms.specs.Indexed.{IsLonger, terms_from}
use Rattle.poly_terms.specs.Monomials.{Adds, AreIn, AreMonomials, Grows, total_in}
use Rattle.poly_terms.specs.PolySums.{AreListed, AreTaken, Gains, IsAdded, IsLess}
use Rattle.poly_terms.specs.Tables.{IsOf, Table, modulus_in, table_of, value_in}
use Rattle.poly_terms.proofs.Gathering.{all_joined, total-append}
use Rattle.poly_terms.proofs.Indexing.{put_cases, sum-value, table_once}
use Rattle.poly_terms.proofs.Made.{made-IsOf, multiple-values, numbers_in, product-values}
use Rattle.poly_terms.proofs.Residues.{factor_reduced, left_out, plus_same}
use Rattle.poly_terms.proofs.Sparse.{after-terms, all_terms, any_default, each_term, total-put}
use Rattle.poly_terms.proofs.Values.{value-total}

-- ---- terms added

pub added_one : (m : ℕ) (old mid new : List ℕ) (n c : ℕ) (e : Entry) → 0 < m → n ≡ e.0 → IsLonger old mid → n < length mid → c ≡ (get_or mid n 0 + e.1) % m → new ≡ set mid n c → IsAdded m old new (e ∷ [])
added_one m old mid new n c e some at longer within is put = record {
  sums = λ f.
      let before = get_or mid n 0 in
      let s = total f (terms_from 0 old) in
      let to : total f (terms_from 0 new) + before * f n ≡ (before + e.1) % m * f n + s =
      ap (λ cs. total f (terms_from 0 cs) + before * f n) put ∙ total-put f mid n c within ∙ ap (λ es. total f es + c * f n) longer.terms ∙ ap (λ k. s + k * f n) is ∙ omega arith in
      left_out m (total f (terms_from 0 new)) (s + total f (e ∷ [])) (before * f n) some
      (ap (λ k. k % m) to ∙ factor_reduced m (before + e.1) (f n) s ∙ ap (λ k. k % m) (omega (arith, ap (λ k. e.1 * f k) at)));
  below = λ h j.
      ⊎_elim
      (λ (same, to). subst (λ k. k < m) (sym (to ∙ is)) (mod-lt (get_or mid n 0 + e.1) some))
      (λ (other, to). subst (λ k. k < m) (sym to) (h j))
      (put_cases old mid new n c longer within put j);
  within = λ k low h j one.
      ⊎_elim
      (λ (same, to). subst (λ i. i < k) (sym (same ∙ at)) low.0)
      (λ (other, to). h j (subst (λ i. 0 < i) to one))
      (put_cases old mid new n c longer within put j);
}

-- the step of a loop that adds each term
pub added_more : (m : ℕ) (old mid new : List ℕ) (es : Sum) (i : ℕ) (e : Entry) → i < length es → e ≡ get_or es i e → IsAdded m old mid (take i es) → IsAdded m mid new (e ∷ []) → IsAdded m old new (take (i + 1) es)
added_more m old mid new es i e low at p q =
    let split : take (i + 1) es ≡ take i es ++ e ∷ [] = take_more es i e low ∙ ap (λ x. take i es ++ x ∷ []) (sym at) in
    record {
      sums = λ f.
          let s = total f (terms_from 0 old) in
          let front = total f (take i es) in
          let one = total f (e ∷ []) in
          let all : total f (take (i + 1) es) ≡ front + one = ap (total f) split ∙ total-append f (take i es) (e ∷ []) in
          q.sums f ∙ ap (λ k. k % m) (let t : total f (terms_from 0 mid) + one ≡ one + total f (terms_from 0 mid) = omega arith in t) ∙
          plus_same m one (total f (terms_from 0 mid)) (s + front) (p.sums f) ∙ ap (λ k. k % m) (omega (arith, all));
      below = λ h. q.below (p.below h);
      within = λ k all h.
          let parts = all_split (λ x. x.0 < k) (take i es) (e ∷ []) (subst (AllByRecursion (λ x. x.0 < k)) split all) in
          q.within k parts.1 (p.within k parts.0 h);
    }

-- ---- terms taken out

pub less_then : (a b c : List ℕ) → IsLess a b → IsLess b c → IsLess a c
less_then a b c p q n = ⊎_elim (λ same. ⊎_elim (λ e. inl (same ∙ e)) (λ none. inr (same ∙ none)) (p n)) (λ none. inr none) (q n)

-- what is 0 stays so
pub zero_still : (a b : List ℕ) (n : ℕ) → IsLess a b → get_or a n 0 ≡ 0 → get_or b n 0 ≡ 0
zero_still a b n p none = ⊎_elim (λ same. same ∙ none) (λ zero. zero) (p n)

pub some_before : (a b : List ℕ) (n : ℕ) → IsLess a b → 0 < get_or b n 0 → 0 < get_or a n 0
some_before a b n p some = ⊎_elim (λ same. omega (arith, same)) (λ none. absurd (omega (arith, none))) (p n)

pub taken_then : (a b c : List ℕ) (xs ys zs : Sum) → IsLess a b → AreTaken a b xs ys → AreTaken b c ys zs → AreTaken a c xs zs
taken_then a b c xs ys zs less p q = record {
  sums = λ f. omega (arith, p.sums f, q.sums f);
  within = λ k h all. q.within k (λ n some. h n (some_before a b n less some)) (p.within k h all);
}

pub taken_one : (old new : List ℕ) (before after : Sum) (n c : ℕ) → c ≡ get_or old n 0 → 0 < get_or old n 0 → n < length old → after ≡ before ++ (n, c) ∷ [] → new ≡ set old n 0 → AreTaken old new before after
taken_one old new before after n c is some within to put = record {
  sums = λ f.
      omega (arith, ap (λ cs. total f (terms_from 0 cs)) put, total-put f old n 0 within, ap (total f) to, total-append f before ((n, c) ∷ []), ap (λ k. k * f n) is);
  within = λ k h all. subst (AllByRecursion (λ e. e.0 < k)) (sym to) (all_joined (λ e. e.0 < k) before ((n, c) ∷ []) all (h n some, tt));
}

-- ---- in a table

below_of : (t : Table) (cs : List ℕ) → IsOf t (terms_from 0 cs) → (n : ℕ) → get_or cs n 0 < modulus_in t
unfolding IsOf
below_of t cs of n = go (get_or cs n 0) refl
  where
    go : (c : ℕ) → get_or cs n 0 ≡ c → get_or cs n 0 < modulus_in t
    go zero is = subst (λ c. c < modulus_in t) (sym is) (pow_pos t.exponent)
    go (suc c) is = (each_term (λ e. (0 < e.1) × (e.1 < modulus_in t)) cs of.coefficients n (omega (arith, is))).1

within_of : (t : Table) (cs : List ℕ) → IsOf t (terms_from 0 cs) → (n : ℕ) → 0 < get_or cs n 0 → n < length t.monomials
unfolding IsOf
within_of t cs of = each_term (λ e. e.0 < length t.monomials) cs of.numbers

of_coefficients : (t : Table) (cs : List ℕ) → AreMonomials t.monomials → ((n : ℕ) → get_or cs n 0 < modulus_in t) → ((n : ℕ) → 0 < get_or cs n 0 → n < length t.monomials) → IsOf t (terms_from 0 cs)
unfolding IsOf
of_coefficients t cs once below within = record {
  coefficients = all_terms (λ e. (0 < e.1) × (e.1 < modulus_in t)) cs (λ n some. (some, below n));
  numbers = all_terms (λ e. e.0 < length t.monomials) cs within;
  order = after-terms None 0 cs (λ e low. tt);
  table = once;
}

-- what is seen of coefficients to which a polynomial's terms were added
module _ (t : Table) (w : ℕ) (cs new : List ℕ) (x p p' : Sum) (view : terms_from 0 cs ≡ x) (width : w ≡ t.exponent) (is : p' ≡ p) (of : IsOf t x) (addend : IsOf t p) (added : IsAdded (2 ^ w) cs new p') where
  added_here : IsAdded (modulus_in t) cs new p'
  added_here = subst (λ k. IsAdded (2 ^ k) cs new p') width added

  pub added-of : IsOf t (terms_from 0 new)
  added-of =
      let of' = subst (IsOf t) (sym view) of in
      of_coefficients t new (table_once t x of) (added_here.below (below_of t cs of'))
      (added_here.within (length t.monomials) (numbers_in t t.monomials p p' refl is addend) (within_of t cs of'))

  pub added-value : (σ : Assignment) → value_in t (terms_from 0 new) σ ≡ (value_in t x σ + value_in t p σ) % modulus_in t
  added-value σ = sum-value t x p (terms_from 0 new) σ (λ f. added_here.sums f ∙ ap₂ (λ y q. (total f y + total f q) % modulus_in t) view is)

-- What is listed and 0 where it is listed is 0.
pub all_gone : (cs new numbers : List ℕ) → AreListed cs numbers → IsLess cs new → ((k : ℕ) → k < length numbers → get_or new (get_or numbers k 0) 0 ≡ 0) → (n : ℕ) → 0 < get_or new n 0 → ⊥
all_gone cs new numbers listed less gone n some =
    let (k, low, at) = listed n (some_before cs new n less some) in
    let there : get_or numbers k 0 ≡ n = any_default numbers k 0 n low ∙ at in
    let zero' : get_or new n 0 ≡ 0 = subst (λ j. get_or new j 0 ≡ 0) there (gone k low) in
    absurd (omega (arith, zero'))

-- all was taken
pub nothing_left : (cs new numbers : List ℕ) → AreListed cs numbers → IsLess cs new → ((k : ℕ) → k < length numbers → get_or new (get_or numbers k 0) 0 ≡ 0) → terms_from 0 new ≡ []
nothing_left cs new numbers listed less gone = none (terms_from 0 new) (all_terms (λ e. ⊥) new (all_gone cs new numbers listed less gone))
  where
    none : (es : Sum) → AllByRecursion (λ e. ⊥) es → es ≡ []
    none [] h = refl
    none (e ∷ es) h = absurd h.0

module _ (t : Table) (w : ℕ) (cs new : List ℕ) (x raw out r : Sum) (view : terms_from 0 cs ≡ x) (width : w ≡ t.exponent) (of : IsOf t x) (taken : AreTaken cs new [] raw) (left : terms_from 0 new ≡ [])
    (g : IsSortedSum (2 ^ w) raw out) (is : r ≡ out) where
  gathered_here : IsSortedSum (modulus_in t) raw out
  gathered_here = subst (λ k. IsSortedSum (2 ^ k) raw out) width g

  pub taken-of : IsOf t r
  taken-of = made-IsOf t.exponent t.monomials raw out r is (table_once t x of) (taken.within (length t.monomials) (within_of t cs (subst (IsOf t) (sym view) of)) tt) gathered_here

  pub taken-value : (σ : Assignment) → value_in t r σ ≡ value_in t x σ
  taken-value σ =
      let f = λ (k : ℕ). product σ (get_or t.monomials k []) in
      let all : total f raw ≡ total f x = omega (arith, taken.sums f, ap (total f) left, ap (total f) view) in
      value-total t r σ ∙ ap (λ es. total f es % modulus_in t) is ∙ gathered_here.sums f ∙ ap (λ n. n % modulus_in t) all ∙ sym (value-total t x σ)

-- ---- products

-- what is seen of coefficients that gained a number, in a table that may have grown
pub gained-of : (w : ℕ) (old new : List (List ℕ)) (cs cs' : List ℕ) (n : Assignment → ℕ) → Grows old new → Gains (2 ^ w) old new cs cs' n → IsOf (table_of w old) (terms_from 0 cs) → IsOf (table_of w new) (terms_from 0 cs')
unfolding IsOf
gained-of w old new cs cs' n g gains of =
    of_coefficients (table_of w new) cs' (g.once of.table) (gains.below (below_of (table_of w old) cs of))
    (each_term (λ e. e.0 < length new) cs' (gains.adds.numbers of.numbers))

-- what is seen of a sum that gained a product
pub product_gained-of : (w : ℕ) (old new : List (List ℕ)) (t : Table) (x y : Sum) → table_of w old ≡ t → (IsOf (table_of w old) x → IsOf (table_of w new) y) → IsOf t x → IsOf (table_of w new) y
product_gained-of w old new t x y e keeps of = keeps (subst (λ u. IsOf u x) (sym e) of)

-- what is seen of a sum that gained a number
gained-value : (w : ℕ) (old new : List (List ℕ)) (t : Table) (x y : Sum) (n : Assignment → ℕ) (b : ℕ) (σ : Assignment) → table_of w old ≡ t → Adds (2 ^ w) old new x y n → n σ % 2 ^ w ≡ b % modulus_in t → IsOf t x →
    value_in (table_of w new) y σ ≡ (value_in t x σ + b) % modulus_in t
unfolding IsOf
gained-value w old new t x y n b σ e adds same of =
    let m = modulus_in t in
    let a = total_in t.monomials σ x in
    value-total (table_of w new) y σ ∙ adds.sums (subst (λ (u : Table). AreIn u.monomials x) (sym e) of.numbers) σ ∙
    plus_same (2 ^ w) (total_in old σ x) (n σ) b (same ∙ sym (ap (λ (u : Table). b % modulus_in u) e)) ∙
    ap (λ (u : Table). (total_in u.monomials σ x + b) % modulus_in u) e ∙
    sym (ap (λ k. (k + b) % m) (value-total t x σ) ∙ mod-add-mod a m b)

pub product_gained-value : (w : ℕ) (old new : List (List ℕ)) (t : Table) (x y p q p' q' : Sum) (σ : Assignment) → table_of w old ≡ t → p' ≡ p → q' ≡ q → Adds (2 ^ w) old new x y (λ σ. total_in old σ p' * total_in old σ q') → IsOf t x →
    value_in (table_of w new) y σ ≡ (value_in t x σ + value_in t p σ * value_in t q σ) % modulus_in t
product_gained-value w old new t x y p q p' q' σ e f g adds of =
    gained-value w old new t x y (λ σ. total_in old σ p' * total_in old σ q') (value_in t p σ * value_in t q σ) σ e adds (product-values w old t p q p' q' σ e f g) of

-- the same of a polynomial times parts
pub multiple_gained-value : (w : ℕ) (old new : List (List ℕ)) (t : Table) (x y p p' : Sum) (parts : Polynomial) (σ : Assignment) → table_of w old ≡ t → p' ≡ p → Adds (2 ^ w) old new x y (λ σ. total_in old σ p' * sum_of (2 ^ w) parts σ) → IsOf t x →
    value_in (table_of w new) y σ ≡ (value_in t x σ + value_in t p σ * value (modulus_in t) parts σ) % modulus_in t
multiple_gained-value w old new t x y p p' parts σ e f adds of =
    gained-value w old new t x y (λ σ. total_in old σ p' * sum_of (2 ^ w) parts σ) (value_in t p σ * value (modulus_in t) parts σ) σ e adds (multiple-values w old t p p' parts σ e f) of
