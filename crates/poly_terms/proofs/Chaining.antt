-- Chains of the numbers of monomials.
use Rattle.std.proofs.Common.{◌≡◌, ◌≢◌, ◌⊎◌, inl, inr, ℕ, zero, suc, ◌+◌, ◌-◌, ◌<◌, ◌≤◌, ◌==◌, List, [], ◌∷◌, ◌++◌, length, get_or, set, replicate, refl, sym, ap, subst, ◌∙◌, ⊎_elim, eqb-true, arith, length-append, get_or-set_same, get_or-set_other}
use Rattle.std.proofs.lemmas.Bool.{cases_Bool, eqb-false}
use Rattle.std.proofs.lemmas.List.{get_or_append_left, length-set}
use Rattle.std.proofs.lemmas.Nat.{and_le_r}
use Rattle.std.proofs.Math.Nat.{eq-or-lt_of_le}
use Rattle.std.proofs.Math.Seq.{get_or-append_seam}
use Rattle.poly_terms.specs.Chains.{AreLinked, Hangs, IsChained, chain_of}
use Rattle.poly_terms.specs.Hashed.{folded}

zero_at : (count c : ℕ) → get_or {A = ℕ} (replicate count 0) c 0 ≡ 0
zero_at zero c = refl
zero_at (suc count) zero = refl
zero_at (suc count) (suc c) = zero_at count c

-- nothing is linked yet
pub none_linked : (count n : ℕ) (ms : List (List ℕ)) → AreLinked count ms (replicate n 0) []
none_linked count n ms = record {
  head = λ c k is. absurd (omega (arith, zero_at n c, is));
  link = λ i k h is. absurd (omega arith);
  below_head = λ k h. absurd (omega arith);
  below_link = λ i k h l same. absurd (omega arith);
}

-- more monomials behind them
pub linked_on : (count : ℕ) (ms more : List (List ℕ)) (heads links : List ℕ) → length links ≤ length ms → AreLinked count ms heads links → AreLinked count (ms ++ more) heads links
linked_on count ms more heads links few old = record {
  head = λ c n is. let o = old.head c n is in (o.0, ap (chain_of count) (same n o.0) ∙ o.1);
  link = λ i n h is. let o = old.link i n h is in (o.0, ap (chain_of count) (same n (omega (arith, o.0, h))) ∙ o.1 ∙ ap (chain_of count) (sym (same i h)));
  below_head = λ n h. subst (λ c. n < get_or heads c 0) (ap (chain_of count) (sym (same n h))) (old.below_head n h);
  below_link = λ i n h l e. old.below_link i n h l (ap (chain_of count) (sym (same n (omega (arith, l, h)))) ∙ e ∙ ap (chain_of count) (same i h));
}
  where
    same : (n : ℕ) → n < length links → get_or (ms ++ more) n [] ≡ get_or ms n []
    same n h = get_or_append_left ms more [] n (omega (arith, h, few))

same_or_not : (i n : ℕ) → (i ≡ n) ⊎ (i ≢ n)
same_or_not i n = ⊎_elim (λ t. inl (eqb-true i n t)) (λ f. inr (eqb-false i n f)) (cases_Bool (i == n))

-- one number more
pub hung : (count : ℕ) (ms : List (List ℕ)) (heads links : List ℕ) (c : ℕ) → c < length heads → chain_of count (get_or ms (length links) []) ≡ c → AreLinked count ms heads links →
    AreLinked count ms (set heads c (length links + 1)) (links ++ get_or heads c 0 ∷ [])
hung count ms heads links c low here old = record {
  head = λ d n is. new_head d n is (same_or_not d c);
  link = λ i n h is. new_link i n is (before i h);
  below_head = λ n h. below n (before n h) (same_or_not (chain_of count (get_or ms n [])) c);
  below_link = λ i n h l same. between i n l same (before i h);
}
  where
    len : length (links ++ get_or heads c 0 ∷ []) ≡ length links + 1
    len = length-append links (get_or heads c 0 ∷ [])

    last : (i : ℕ) → i ≡ length links → get_or (links ++ get_or heads c 0 ∷ []) i 0 ≡ get_or heads c 0
    last i e = ap (λ j. get_or (links ++ get_or heads c 0 ∷ []) j 0) e ∙ get_or-append_seam links (get_or heads c 0) [] 0

    kept : (i : ℕ) → i < length links → get_or (links ++ get_or heads c 0 ∷ []) i 0 ≡ get_or links i 0
    kept i l = get_or_append_left links (get_or heads c 0 ∷ []) 0 i l

    before : (i : ℕ) → i < length (links ++ get_or heads c 0 ∷ []) → (i ≡ length links) ⊎ (i < length links)
    before i h = eq-or-lt_of_le (omega (arith, len, h))

    at_here : (d : ℕ) → d ≡ c → get_or (set heads c (length links + 1)) d 0 ≡ length links + 1
    at_here d e = ap (λ j. get_or (set heads c (length links + 1)) j 0) e ∙ get_or-set_same heads c (length links + 1) 0 low

    at_other : (d : ℕ) → d ≢ c → get_or (set heads c (length links + 1)) d 0 ≡ get_or heads d 0
    at_other d other = get_or-set_other heads c d (length links + 1) 0 other

    in_chain : (n : ℕ) → n ≡ length links → chain_of count (get_or ms n []) ≡ c
    in_chain n e = ap (λ j. chain_of count (get_or ms j [])) e ∙ here

    new_head : (d n : ℕ) → get_or (set heads c (length links + 1)) d 0 ≡ n + 1 → (d ≡ c) ⊎ (d ≢ c) → (n < length (links ++ get_or heads c 0 ∷ [])) × (chain_of count (get_or ms n []) ≡ d)
    new_head d n is (inl e) = let k : n ≡ length links = omega (arith, at_here d e, is) in (omega (arith, len, k), in_chain n k ∙ sym e)
    new_head d n is (inr other) = let o = old.head d n (sym (at_other d other) ∙ is) in (omega (arith, len, o.0), o.1)

    new_link : (i n : ℕ) → get_or (links ++ get_or heads c 0 ∷ []) i 0 ≡ n + 1 → (i ≡ length links) ⊎ (i < length links) → (n < i) × (chain_of count (get_or ms n []) ≡ chain_of count (get_or ms i []))
    new_link i n is (inl e) = let o = old.head c n (sym (last i e) ∙ is) in (omega (arith, o.0, e), o.1 ∙ sym (in_chain i e))
    new_link i n is (inr l) = old.link i n l (sym (kept i l) ∙ is)

    below : (n : ℕ) → (n ≡ length links) ⊎ (n < length links) → (chain_of count (get_or ms n []) ≡ c) ⊎ (chain_of count (get_or ms n []) ≢ c) →
        n < get_or (set heads c (length links + 1)) (chain_of count (get_or ms n [])) 0
    below n (inl e) (inl s) = omega (arith, at_here (chain_of count (get_or ms n [])) s, e)
    below n (inl e) (inr other) = absurd (other (in_chain n e))
    below n (inr l) (inl s) = omega (arith, at_here (chain_of count (get_or ms n [])) s, l)
    below n (inr l) (inr other) = omega (arith, at_other (chain_of count (get_or ms n [])) other, old.below_head n l)

    between : (i n : ℕ) → n < i → chain_of count (get_or ms n []) ≡ chain_of count (get_or ms i []) → (i ≡ length links) ⊎ (i < length links) → n < get_or (links ++ get_or heads c 0 ∷ []) i 0
    between i n up same (inl e) =
        let small : n < length links = omega (arith, up, e) in
        let there : n < get_or heads c 0 = subst (λ d. n < get_or heads d 0) (same ∙ in_chain i e) (old.below_head n small) in
        omega (arith, last i e, there)
    between i n up same (inr l) = omega (arith, kept i l, old.below_link i n l up same)

-- ---- steps from a number to the one before it in its chain

pub before_at : (count : ℕ) (ms : List (List ℕ)) (heads links : List ℕ) (m : List ℕ) (k : ℕ) → AreLinked count ms heads links → k < length links → chain_of count (get_or ms k []) ≡ chain_of count m →
    (n : ℕ) → get_or links k 0 ≡ n + 1 → (n < length links) × (chain_of count (get_or ms n []) ≡ chain_of count m)
before_at count ms heads links m k linked low same n is = let o = linked.link k n low is in (omega (arith, o.0, low), o.1 ∙ same)

-- what was below a number that isn't it is below that one's link
pub before_above : (count : ℕ) (ms : List (List ℕ)) (heads links : List ℕ) (m : List ℕ) (k : ℕ) → AreLinked count ms heads links → k < length links → chain_of count (get_or ms k []) ≡ chain_of count m →
    (get_or ms k [] ≡ m → ⊥) → (n : ℕ) → n < k + 1 → get_or ms n [] ≡ m → n < get_or links k 0
before_above count ms heads links m k linked low same other n up is = go (eq-or-lt_of_le (omega (arith, up)))
  where
    go : (n ≡ k) ⊎ (n < k) → n < get_or links k 0
    go (inl e) = absurd (other (ap (λ j. get_or ms j []) (sym e) ∙ is))
    go (inr l) = linked.below_link k n low l (ap (chain_of count) is ∙ sym same)

pub links_fall : (count : ℕ) (ms : List (List ℕ)) (heads links : List ℕ) (k : ℕ) → AreLinked count ms heads links → k < length links → get_or links k 0 < k + 1
links_fall count ms heads links k linked low = go (get_or links k 0) refl
  where
    go : (d : ℕ) → get_or links k 0 ≡ d → get_or links k 0 < k + 1
    go zero e = omega (arith, e)
    go (suc n) e = let is : get_or links k 0 ≡ n + 1 = omega (arith, e) in let o = linked.link k n low is in omega (arith, is, o.0)

chain_within : (n : ℕ) (m : List ℕ) → 0 < n → chain_of n m < n
unfolding chain_of
chain_within n m h = omega (arith, and_le_r (folded m) (n - 1))

-- a number that was hung up is linked
pub hangs : (count : ℕ) (ms : List (List ℕ)) (heads links new_heads new_links : List ℕ) (m : List ℕ) → length heads ≡ count → 0 < count → get_or ms (length links) [] ≡ m → AreLinked count ms heads links →
    Hangs (chain_of (length heads) m) heads links new_heads new_links → (length new_heads ≡ count) × (length new_links ≡ length links + 1) × AreLinked count ms new_heads new_links
hangs count ms heads links new_heads new_links m chains some here linked hung_up =
    let c = chain_of (length heads) m in
    let is : chain_of count (get_or ms (length links) []) ≡ c = ap (chain_of count) here ∙ ap (λ n. chain_of n m) (sym chains) in
    let low : c < length heads = chain_within (length heads) m (omega (arith, chains, some)) in
    let now = hung count ms heads links c low is linked in (
      ap length hung_up.heads ∙ length-set heads c (length links + 1) ∙ chains,
      ap length hung_up.links ∙ length-append links (get_or heads c 0 ∷ []),
      subst (λ ls. AreLinked count ms new_heads ls) (sym hung_up.links) (subst (λ hs. AreLinked count ms hs (links ++ get_or heads c 0 ∷ [])) (sym hung_up.heads) now),
    )

-- ---- before a monomial is added, and after it

-- all monomials were linked anew
pub widened : (ms : List (List ℕ)) (heads links : List ℕ) (count : ℕ) → length ms < count → length heads ≡ count → length links ≡ length ms → AreLinked count ms heads links →
    IsChained ms heads links × (length ms < length heads)
widened ms heads links count more chains long linked = (
  record {
    wide = omega (arith, more, chains);
    long = long;
    linked = subst (λ n. AreLinked n ms heads links) (sym chains) linked;
  },
  omega (arith, more, chains),
)

pub not_widened : (ms : List (List ℕ)) (heads links : List ℕ) → (length ms ≡ length heads → ⊥) → IsChained ms heads links → IsChained ms heads links × (length ms < length heads)
not_widened ms heads links other chained = (chained, go (eq-or-lt_of_le chained.wide))
  where
    go : (length ms ≡ length heads) ⊎ (length ms < length heads) → length ms < length heads
    go (inl e) = absurd (other e)
    go (inr l) = l

pub one_more : (ms : List (List ℕ)) (heads links new_heads new_links : List ℕ) (m : List ℕ) → IsChained ms heads links → length ms < length heads →
    Hangs (chain_of (length heads) m) heads links new_heads new_links → IsChained (ms ++ m ∷ []) new_heads new_links
one_more ms heads links new_heads new_links m chained wide hung_up =
    let here : get_or (ms ++ m ∷ []) (length links) [] ≡ m = ap (λ n. get_or (ms ++ m ∷ []) n []) chained.long ∙ get_or-append_seam ms m [] [] in
    let on = linked_on (length heads) ms (m ∷ []) heads links (omega (arith, chained.long)) chained.linked in
    let o = hangs (length heads) (ms ++ m ∷ []) heads links new_heads new_links m refl (omega (arith, wide)) here on hung_up in
    let long : length (ms ++ m ∷ []) ≡ length ms + 1 = length-append ms (m ∷ []) in
    record {
      wide = omega (arith, long, wide, o.0);
      long = omega (arith, long, o.1, chained.long);
      linked = subst (λ n. AreLinked n (ms ++ m ∷ []) new_heads new_links) (sym o.0) o.2;
    }
