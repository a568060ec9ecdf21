-- Each live clause is a given one, or has its number among those that were added: so a tight chain of live ones is one of given and of
-- numbered ones.
use Rattle.std.specs.Prelude.{◌≡◌, ◌<◌, ◌≤◌, ℕ, zero, suc, nat_lt, true, false, Bool, cond, List, [], ◌∷◌, ◌++◌, map, length, slice_get, slice_index_or}
use Rattle.std.specs.declared.option.Option.TheVariants.{Some}
use Rattle.std.specs.List.{All, Any, Contains, filter}
use Rattle.std.proofs.Common.{refl, sym, ap, subst, ◌∙◌, arith, inl, inr, ⊎_elim}
use Rattle.std.proofs.lemmas.Bool.{lt-ltb}
use Rattle.std.proofs.lemmas.Option.{slice_get_within}
use Rattle.std.proofs.lemmas.List.Elements.{All-append, All-cons, All-contains, All-from_recursion, All-map, All-nil, All-push, All-tail, Contains-get_or, recursion_from_All}
use Rattle.graph_core.proofs.OfGraphs.CallerLemmas.{all_split}
use Rattle.clause_core.specs.Clause.{Clause, SameSet}
use Rattle.clause_core.specs.Likeness.{AreSameSets}
use Rattle.clause_core.proofs.CallerLemmas.{any_here, any_there, contains_cases, contains_here, contains_nil, contains_there, same_flip}
use Rattle.clause_core.specs.KeptClauses.{AreBelow, HasTightChain, IsGivenOrUsed, IsNumbered}
use Rattle.drup_checker.specs.Checking.{IsTagged, IsTightChainOf, LosesOne, Numbered, unnumbered}

-- ---- lists

get_push : {X : Type 0} (xs : List X) (x y : X) (i : ℕ) → slice_get xs i ≡ Some y → slice_get (xs ++ x ∷ []) i ≡ Some y
get_push [] x y i e = absurd (cc)
get_push (z ∷ xs) x y zero e = e
get_push (z ∷ xs) x y (suc i) e = get_push xs x y i e

get_last : {X : Type 0} (xs : List X) (x : X) → slice_get (xs ++ x ∷ []) (length xs) ≡ Some x
get_last [] x = refl
get_last (z ∷ xs) x = get_last xs x

filter_has : (p : ℕ → Bool) (xs : List ℕ) (x : ℕ) → p x ≡ true → Contains xs x → Contains (filter p xs) x
filter_has p [] x is has = has
filter_has p (y ∷ xs) x is has = go (filter_has p xs x is) (p y) refl
  where
    go : (Contains xs x → Contains (filter p xs) x) → (b : Bool) → p y ≡ b → Contains (cond b (y ∷ filter p xs) (filter p xs)) x
    go rest true e = ⊎_elim (λ same. subst (Contains (y ∷ filter p xs)) same (contains_here y (filter p xs))) (λ r. contains_there y (filter p xs) x (rest r)) (contains_cases y xs x has)
    go rest false e = ⊎_elim (λ same. let other : p x ≡ false = ap p (sym same) ∙ e in absurd (cc)) rest (contains_cases y xs x has)

filter_from : (p : ℕ → Bool) (xs : List ℕ) (x : ℕ) → Contains (filter p xs) x → Contains xs x × (p x ≡ true)
filter_from p [] x has = absurd (contains_nil x has)
filter_from p (y ∷ xs) x has = go (filter_from p xs x) (p y) refl has
  where
    go : (Contains (filter p xs) x → Contains xs x × (p x ≡ true)) → (b : Bool) → p y ≡ b → Contains (cond b (y ∷ filter p xs) (filter p xs)) x → Contains (y ∷ xs) x × (p x ≡ true)
    go rest true e h = ⊎_elim (λ same. (subst (Contains (y ∷ xs)) same (contains_here y xs), ap p (sym same) ∙ e)) (λ r. let f = rest r in (contains_there y xs x f.0, f.1)) (contains_cases y (filter p xs) x h)
    go rest false e h = let f = rest h in (contains_there y xs x f.0, f.1)

image_of : {X Y : Type 0} (f : X → Y) (xs : List X) (x : X) → Contains xs x → Contains (map f xs) (f x)
image_of f [] x h = absurd (contains_nil x h)
image_of f (y ∷ xs) x h = ⊎_elim (λ same. subst (λ z. Contains (f y ∷ map f xs) (f z)) same (contains_here (f y) (map f xs))) (λ r. contains_there (f y) (map f xs) (f x) (image_of f xs x r)) (contains_cases y xs x h)

image_from : (f : Numbered → ℕ) (xs : List Numbered) (y : ℕ) → Contains (map f xs) y → (x : Numbered) × Contains xs x × (f x ≡ y)
image_from f [] y h = absurd (contains_nil y h)
image_from f (z ∷ xs) y h = ⊎_elim (λ e. (z, contains_here z xs, e)) (λ r. let o = image_from f xs y r in (o.0, contains_there z xs o.0 o.1, o.2)) (contains_cases (f z) (map f xs) y h)

-- ---- the tags

abbrev pub AreTagged : List Clause → List Clause → List Numbered → Type 0
AreTagged given added numbered = All (λ x. IsTagged given added x.clause x.number) numbered

-- at first all are given, as sets
pub tagged_first : (given cs : List Clause) → AreSameSets cs given → AreTagged given [] (unnumbered cs)
tagged_first given cs same = go cs given (λ d h. h) same
  where
    go : (cs left : List Clause) → ((d : Clause) → Any (λ x. SameSet x d) left → Any (λ x. SameSet x d) given) → AreSameSets cs left → AreTagged given [] (unnumbered cs)
    go [] left in' same = All-nil (λ (x : Numbered). IsTagged given [] x.clause x.number)
    go (c ∷ cs) [] in' same = absurd same
    go (c ∷ cs) (d ∷ left) in' same =
        All-cons (λ (x : Numbered). IsTagged given [] x.clause x.number) (record { clause = c; number = 0 }) (unnumbered cs) (in' c (any_here (λ x. SameSet x c) d left (same_flip c d same.0)))
        (go cs left (λ e h. in' e (any_there (λ x. SameSet x e) d left h)) same.1)

module _ (given added : List Clause) where
  still_tagged : (c d : Clause) (n : ℕ) → IsTagged given added d n → IsTagged given (added ++ c ∷ []) d n
  still_tagged c d zero h = h
  still_tagged c d (suc i) h = get_push added c d i h

  -- one more is live, and is added
  pub tagged_more : (c : Clause) (numbered : List Numbered) (number : ℕ) → number ≡ suc (length added) → AreTagged given added numbered →
      AreTagged given (added ++ c ∷ []) (numbered ++ record { clause = c; number = number } ∷ [])
  tagged_more c numbered number is h = All-push Tagged numbered (record { clause = c; number = number }) (λ k d low. still_tagged c _ _ (h k d low))
      (subst (IsTagged given (added ++ c ∷ []) c) (sym is) (get_last added c))
    where
      Tagged : Numbered → Type 0
      Tagged x = IsTagged given (added ++ c ∷ []) x.clause x.number

  -- one is live no longer
  pub tagged_fewer : (c : Clause) (old new : List Numbered) → LosesOne c old new → AreTagged given added old → AreTagged given added new
  tagged_fewer c old new d h = subst (All Tagged) (sym d.5) (All-append Tagged d.0 d.1 parts.0 (All-tail Tagged d.2 d.1 parts.1))
    where
      Tagged : Numbered → Type 0
      Tagged x = IsTagged given added x.clause x.number

      parts : All Tagged d.0 × All Tagged (d.2 ∷ d.1)
      parts =
          let r = all_split Tagged d.0 (d.2 ∷ d.1) (recursion_from_All Tagged (d.0 ++ d.2 ∷ d.1) (subst (All Tagged) d.4 h)) in
          (All-from_recursion Tagged d.0 r.0, All-from_recursion Tagged (d.2 ∷ d.1) r.1)

  module _ (numbered : List Numbered) (tagged : AreTagged given added numbered) (c : Clause) (numbers : List ℕ) (t : IsTightChainOf numbered c numbers) where
    by_number : (x : Numbered) (n : ℕ) → x.number ≡ n → Contains t.chain x → IsTagged given added x.clause n → IsGivenOrUsed given added numbers x.clause
    by_number x zero e has tag = inl tag
    by_number x (suc i) e has tag =
        let in' : Contains numbers (suc i) = subst (λ (ns : List ℕ). Contains ns (suc i)) (sym t.numbers_are)
        (filter_has (λ n. nat_lt 0 n) (map (λ (y : Numbered). y.number) t.chain) (suc i) (lt-ltb 0 (suc i) (omega arith)) (subst (Contains (map (λ (y : Numbered). y.number) t.chain)) e (image_of (λ (y : Numbered). y.number) t.chain x has))) in
        inr (in'.0, suc i, in'.1, in'.2, (x.clause, tag, (λ l h. h, λ l h. h)))

    named : (x : Numbered) → Contains t.chain x → Contains numbered x → IsGivenOrUsed given added numbers x.clause
    named x has live = by_number x x.number refl has (All-contains (λ (y : Numbered). IsTagged given added y.clause y.number) numbered x tagged live)

    -- a number is that of a clause of the chain
    numbered_one : (n : ℕ) → Contains numbers n → (x : Numbered) × Contains t.chain x × (0 < n) × (n ≤ length added) × IsNumbered added x.clause n
    numbered_one n has =
        let f = filter_from (λ m. nat_lt 0 m) (map (λ (y : Numbered). y.number) t.chain) n (subst (λ (ns : List ℕ). Contains ns n) t.numbers_are has) in
        let o = image_from (λ (y : Numbered). y.number) t.chain n f.0 in
        let tag = All-contains (λ (y : Numbered). IsTagged given added y.clause y.number) numbered o.0 tagged (All-contains (Contains numbered) t.chain o.0 t.are_live o.1) in
        let b = bound o.0 n f.1 (subst (IsTagged given added o.0.clause) o.2 tag) in
        (o.0, o.1, b.0, b.1, b.2)
      where
        bound : (x : Numbered) (m : ℕ) → nat_lt 0 m ≡ true → IsTagged given added x.clause m → (0 < m) × (m ≤ length added) × IsNumbered added x.clause m
        bound x zero some tag = absurd (cc)
        bound x (suc j) some tag = let inside = slice_get_within added j x.clause tag in (omega arith, omega arith, (x.clause, tag, (λ l h. h, λ l h. h)))

    -- the chain is one of given clauses and of added ones
    pub chain_of_tagged : HasTightChain given added c numbers
    chain_of_tagged = record {
      chain = map (λ (x : Numbered). x.clause) t.chain;
      tight = t.tight;
      named = All-map (IsGivenOrUsed given added numbers) (λ (x : Numbered). x.clause) t.chain (λ i d low. named (slice_index_or t.chain i d) (Contains-get_or t.chain i d low) (t.are_live i d low));
      only = λ i d low.
          let o = numbered_one (slice_index_or numbers i d) (Contains-get_or numbers i d low) in
          let has = image_of (λ (x : Numbered). x.clause) t.chain o.0 o.1 in
          (has.0, o.0.clause, has.1, has.2, o.4);
    }

    -- its numbers are of added ones
    pub numbers_below : AreBelow (length added) numbers
    numbers_below i d low = let o = numbered_one (slice_index_or numbers i d) (Contains-get_or numbers i d low) in (o.2, o.3)
