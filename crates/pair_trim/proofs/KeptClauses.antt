-- What is kept of lines and of what they use.
use Rattle.std.specs.Prelude.{◌≡◌, ℕ, zero, suc, ◌+◌, ◌-◌, ◌<◌, ◌≤◌, ◌⊎◌, Bool, true, false, cond, List, [], ◌∷◌, ◌++◌, length, map, take, slice_index, slice_index_or}
use Rattle.std.specs.List.{All, Contains}
use Rattle.std.proofs.Common.{refl, sym, ap, ap₂, subst, ◌∙◌, add-one, arith, inl, inr, ⊎_elim, replicate, true≢false}
use Rattle.std.proofs.lemmas.List.{get_or_default, get_or_push, get_or_append_left, length_push, length-take-le, take_more}
use Rattle.std.proofs.lemmas.List.Elements.{All-cons, All-head, All-nil, All-tail, Contains-get_or}
use Rattle.clause_core.specs.Clause.{Clause, IsSubset}
use Rattle.clause_core.specs.ClauseLines.{ClauseLine}
use Rattle.miter_encoder.specs.declared.goal.Goal.{Goal}
use Rattle.clause_core.specs.KeptClauses.{AreBelow, AreEarlier, AreMarkedUsed, IsFirstShowing, IsMarked, added_lines, chosen, rank}
use Rattle.clause_core.proofs.CallerLemmas.{there}
use Rattle.pair_trim.specs.Marking.{AreRanks, ClosesMarks, IsKeptOf, IsSet, IsShownIn, MarksRoots, SetsMarks, unmet}
use Rattle.pair_trim.proofs.Marking.{marked_number}

-- ---- lists by marks

pub chosen_none : {X : Type 0} (marks : List Bool) → chosen {X = X} marks [] ≡ []
chosen_none [] = refl
chosen_none (b ∷ marks) = refl

-- one element more
pub chosen_more : {X : Type 0} (marks : List Bool) (xs : List X) (x : X) → length xs < length marks → chosen marks (xs ++ x ∷ []) ≡ chosen marks xs ++ cond (slice_index_or marks (length xs) false) (x ∷ []) []
chosen_more [] xs x low = absurd (omega arith)
chosen_more (true ∷ []) [] x low = refl
chosen_more (false ∷ []) [] x low = refl
chosen_more (true ∷ b ∷ marks) [] x low = refl
chosen_more (false ∷ b ∷ marks) [] x low = refl
chosen_more (true ∷ marks) (y ∷ xs) x low = ap (λ ys. y ∷ ys) (chosen_more marks xs x (omega arith))
chosen_more (false ∷ marks) (y ∷ xs) x low = chosen_more marks xs x (omega arith)

pub all_chosen : {X : Type 0} (P : X → Type 0) (marks : List Bool) (xs : List X) → All P xs → All P (chosen marks xs)
all_chosen P [] xs h = All-nil P
all_chosen P (b ∷ marks) [] h = All-nil P
all_chosen P (true ∷ marks) (x ∷ xs) h = All-cons P x (chosen marks xs) (All-head P x xs h) (all_chosen P marks xs (All-tail P x xs h))
all_chosen P (false ∷ marks) (x ∷ xs) h = all_chosen P marks xs (All-tail P x xs h)

pub map_agree : {X Y : Type 0} (f g : X → Y) (xs : List X) → All (λ x. f x ≡ g x) xs → map f xs ≡ map g xs
map_agree f g [] h = refl
map_agree f g (x ∷ xs) h = ap₂ (λ y ys. y ∷ ys) (All-head (λ z. f z ≡ g z) x xs h) (map_agree f g xs (All-tail (λ z. f z ≡ g z) x xs h))

-- the elements of one place more
pub chosen_step : {X : Type 0} (marks : List Bool) (xs : List X) (n : ℕ) (d : X) → n < length xs → length marks ≡ length xs → chosen marks (take (n + 1) xs) ≡ chosen marks (take n xs) ++ cond (slice_index_or marks n false) (slice_index_or xs n d ∷ []) []
chosen_step marks xs n d low even =
    ap (chosen marks) (take_more xs n d low) ∙ (chosen_more marks (take n xs) (slice_index_or xs n d) (omega (arith, length-take-le n xs)) ∙
    ap (λ (k : ℕ). chosen marks (take n xs) ++ cond (slice_index_or marks k false) (slice_index_or xs n d ∷ []) []) (length-take-le n xs (omega arith)))

-- ---- ranks

rank_more : (marks : List Bool) (n : ℕ) → rank marks (suc n) ≡ rank marks n + cond (slice_index_or marks n false) 1 0
rank_more [] zero = refl
rank_more [] (suc n) = refl
rank_more (true ∷ marks) zero = refl
rank_more (false ∷ marks) zero = refl
rank_more (true ∷ marks) (suc n) = let r = rank_more marks n in omega arith
rank_more (false ∷ marks) (suc n) = rank_more marks n

-- the ranks up to a number, the last of which is this one
pub record AreFirstRanks (marks : List Bool) (n : ℕ) (ranks : List ℕ) (last : ℕ) : Type 0 where
  pub many : length ranks ≡ n + 1
  pub told : (k : ℕ) → k ≤ n → slice_index ranks k ≡ rank marks k
  pub last_is : last ≡ rank marks n
  pub low : last ≤ n

more_ranks : (marks : List Bool) (n : ℕ) (ranks : List ℕ) (last next : ℕ) → AreFirstRanks marks n ranks last → next ≡ last + cond (slice_index_or marks n false) 1 0 → next ≤ n + 1 → AreFirstRanks marks (n + 1) (ranks ++ next ∷ []) next
more_ranks marks n ranks last next h is low = record {
  many = length_push ranks next ∙ ap (λ (k : ℕ). k + 1) h.many;
  told = λ k below. ⊎_elim (λ old. get_or_append_left ranks (next ∷ []) 0 k (let m = h.many in omega arith) ∙ h.told k old)
      (λ new. let same : k ≡ n + 1 = omega arith in ap (slice_index (ranks ++ next ∷ [])) same ∙ (get_or_push ranks next 0 (n + 1) h.many ∙ (here ∙ ap (rank marks) (sym same)))) (cases_le k n);
  last_is = here;
  low = low;
}
  where
    here : next ≡ rank marks (n + 1)
    here = is ∙ (ap (λ (k : ℕ). k + cond (slice_index_or marks n false) 1 0) h.last_is ∙ (sym (rank_more marks n) ∙ ap (rank marks) (sym (add-one n))))

    cases_le : (a b : ℕ) → (a ≤ b) ⊎ (b < a)
    cases_le a b = search (arith, inl, inr)

pub ranks_set : (marks : List Bool) (n : ℕ) (ranks : List ℕ) (last : ℕ) → AreFirstRanks marks n ranks last → slice_index_or marks n false ≡ true → AreFirstRanks marks (n + 1) (ranks ++ (last + 1) ∷ []) (last + 1)
ranks_set marks n ranks last h e = more_ranks marks n ranks last (last + 1) h (ap (λ (b : Bool). last + cond b 1 0) (sym e)) (let l = h.low in omega arith)

pub ranks_unset : (marks : List Bool) (n : ℕ) (ranks : List ℕ) (last : ℕ) → AreFirstRanks marks n ranks last → slice_index_or marks n false ≡ false → AreFirstRanks marks (n + 1) (ranks ++ last ∷ []) last
ranks_unset marks n ranks last h e = more_ranks marks n ranks last last h (sym (ap (λ (b : Bool). last + cond b 1 0) e ∙ omega arith)) (let l = h.low in omega arith)

-- ---- all together

-- every number that is used has a rank
pub uses_low : (uses : List (List ℕ)) (n : ℕ) → length uses < n → AreEarlier uses → All (All (λ k. k < n)) uses
uses_low uses n low earlier i d b k e inside =
    let is = earlier i b in
    let below : AreBelow i (slice_index_or uses i d) = subst (λ (us : List ℕ). AreBelow i us) (get_or_default uses i [] d b) is in
    let most = (below k e inside).1 in omega arith

module _ (goals : List Goal) (more : List ℕ) (clauses : List Clause) (uses : List (List ℕ)) (none roots named marks : List Bool) (ranks : List ℕ)
    (size : ℕ) (nothing : none ≡ replicate size false) (many : length none ≡ length clauses) (even : length uses ≡ length clauses) (earlier : AreEarlier uses) (below : AreBelow (length clauses) more)
    (rooted : MarksRoots (unmet goals) clauses none roots) (sets : SetsMarks more roots named) (closes : ClosesMarks uses named marks) (ranked : AreRanks marks ranks) where
  unset : (n i : ℕ) → IsSet (replicate n false) i → ⊥
  unset zero i s = true≢false (sym s)
  unset (suc n) zero s = true≢false (sym s)
  unset (suc n) (suc i) s = unset n i s

  shown_still : (g : Clause) → (IsShownIn clauses g → (i : ℕ) × IsSet roots i × IsFirstShowing clauses i g) → IsShownIn clauses g → IsShownIn (chosen marks clauses) g
  shown_still g each shown =
      let r = each shown in
      let t = there marks clauses r.0 r.2.within (closes.still r.0 ((sets.told r.0).1 (inl r.1))) in
      let at = slice_index_or (chosen marks clauses) (rank marks r.0) [] in
      (rank marks r.0, at, t.0, get_or_default (chosen marks clauses) (rank marks r.0) at [] t.0, subst (λ (c : Clause). IsSubset c g) (sym (t.1 [])) r.2.shows)

  named_marked : All (IsMarked marks) more
  named_marked k d low =
      let n = slice_index_or more k d in
      let some = (below k d low).0 in
      let number : n ≡ (n - 1) + 1 = omega arith in
      marked_number marks n some (closes.still (n - 1) ((sets.told (n - 1)).1 (inr (subst (Contains more) number (Contains-get_or more k d low)))))

  used_all : AreMarkedUsed (unmet goals) more clauses uses marks
  used_all i low s = ⊎_elim
      (λ n. ⊎_elim (λ r. ⊎_elim (λ o. absurd (unset size i (subst (λ (ms : List Bool). IsSet ms i) nothing o))) inl (rooted.only i r)) (λ c. inr (inl c)) ((sets.told i).0 n))
      (λ b. inr (inr b)) (closes.used i s)

  pub kept_of : (lines : List ClauseLine) (kept_uses : List (List ℕ)) → lines ≡ added_lines (chosen marks clauses) → kept_uses ≡ chosen marks (map (map (slice_index ranks)) uses) → IsKeptOf goals more clauses uses lines kept_uses ranks
  kept_of lines kept_uses lines_are uses_are = record {
    marks = marks;
    long = closes.places ∙ (sets.places ∙ (rooted.places ∙ many));
    closed = λ i low s. closes.closed i (omega arith) low s;
    used = used_all;
    named = named_marked;
    shown = λ k d low. shown_still (slice_index_or (unmet goals) k d) (rooted.each k d low);
    ranks_are = ranked;
    lines_are = lines_are;
    uses_are = uses_are ∙ ap (chosen marks) same;
  }
    where
      low_all : All (All (λ k. k < length ranks)) uses
      low_all = let a = closes.places in let s = sets.places in let b = rooted.places in let c = ranked.many in uses_low uses (length ranks) (omega arith) earlier

      same : map (map (slice_index ranks)) uses ≡ map (map (rank marks)) uses
      same = map_agree (map (slice_index ranks)) (map (rank marks)) uses (λ k d low. map_agree (slice_index ranks) (rank marks) (slice_index_or uses k d)
          (λ j e inside. let one = low_all k d low j e inside in let c = ranked.many in ranked.told (slice_index_or (slice_index_or uses k d) j e) (omega arith)))
