-- What a store keeps, as one clause more is live and as one is taken out.
use Rattle.std.specs.Prelude.{◌≡◌, ◌≢◌, ℕ, suc, ◌+◌, ◌%◌, ◌<◌, ◌≤◌, List, [], ◌∷◌, ◌++◌, length, map, slice_index, slice_index_or, slice_set, take, IsSome}
use Rattle.std.specs.declared.option.Option.{Option}
use Rattle.std.specs.declared.option.Option.TheVariants.{None, Some}
use Rattle.std.specs.List.{All, Any, Contains}
use Rattle.std.proofs.Common.{refl, sym, ap, subst, ◌∙◌, add-one, arith, ⊎_elim}
use Rattle.std.proofs.lemmas.Bool.{cases_eq}
use Rattle.std.proofs.lemmas.List.{get_or-set_other, get_or-set_same, length_push, length-set}
use Rattle.std.proofs.lemmas.List.Elements.{All-map}
use Rattle.clause_core.specs.Clause.{Clause, IsClause, IsClauseInRange, SameSet}
use Rattle.clause_core.proofs.CallerLemmas.{sets_are_lists}
use Rattle.unit_prop.specs.Standing.{AddsClause, HasSetAt, RemovesClause, Standing, clause_at, live_of}
use Rattle.unit_prop.proofs.CallerLemmas.{alone_is_free, none_live}
use Rattle.unit_prop.proofs.Grounds.{clause_cases}
use Rattle.unit_prop.proofs.VisitSteps.{live_below}
use Rattle.clause_core.specs.ClauseLines.{Removes as RemovesOne}
use Rattle.clause_core.specs.TightChains.{IsTightChain}
use Rattle.drup_checker.specs.Checking.{Held, IsTightChainOf, LosesOne, Numbered, added_numbers, held, held_with, numbered_of}
use Rattle.drup_checker.specs.Tightness.{AreTightAt, clause_or_empty, clauses_at}
use Rattle.drup_checker.specs.Chains.{AreFalling, IsStore, Leads, clause_hash}
use Rattle.drup_checker.proofs.LiveClauses.{live_more, live_of-append, loses_at, numbered_has, numbered_more, numbered_of-append, removes_at}
use Rattle.drup_checker.proofs.Leading.{falls_longer, leads_new, leads_on, leads_still}

-- one clause more
module _ (max : ℕ) (s new : Standing) (heads next : List ℕ) (store : IsStore max s heads next) (c : Clause) (is : IsClause c) (range : IsClauseInRange max c)
    (place : ℕ) (adds : AddsClause s c place new) (few : place < 2147483648) (chain : ℕ) (its : chain ≡ clause_hash c % length heads) (there : chain < length heads) where
  abbrev heads' : List ℕ
  heads' = slice_set heads chain (place + 1)

  abbrev next' : List ℕ
  next' = next ++ slice_index heads chain ∷ []

  at_end : place ≡ length next
  at_end = adds.place ∙ sym store.indexed.places

  at_chain : slice_index heads' chain ≡ suc (length next)
  at_chain = get_or-set_same heads chain (place + 1) 0 there ∙ (add-one place ∙ ap suc at_end)

  others : (i : ℕ) → i ≢ chain → slice_index heads' i ≡ slice_index heads i
  others i n = get_or-set_other heads chain i (place + 1) 0 n

  -- what was found is found
  still : (i r : ℕ) → Leads next (slice_index heads i) r → Leads next' (slice_index heads' i) r
  still i r h = ⊎_elim
      (λ e. subst (λ (from : ℕ). Leads next' from r) (sym (ap (slice_index heads') e ∙ at_chain))
      (leads_on next (slice_index heads chain) store.indexed.falls (store.indexed.first chain) r (subst (λ (j : ℕ). Leads next (slice_index heads j) r) e h)))
      (λ n. subst (λ (from : ℕ). Leads next' from r) (sym (others i n)) (leads_still next (slice_index heads chain) store.indexed.falls (store.indexed.first chain) (slice_index heads i) r (store.indexed.first i) h))
      (cases_eq i chain)

  found_new : (r : ℕ) (d : Clause) → clause_at new.clauses r ≡ Some d → Leads next' (slice_index heads' (clause_hash d % length heads)) r
  found_new r d e = ⊎_elim (λ old. still (clause_hash d % length heads) r (store.indexed.found r d old)) (λ f. newest f.0 f.1)
      (clause_cases s.clauses (Some c) r d (subst (λ (cs : List (Option Clause)). clause_at cs r ≡ Some d) adds.clauses e))
    where
      newest : r ≡ length s.clauses → ◌≡◌ {A = Option Clause} (Some c) (Some d) → Leads next' (slice_index heads' (clause_hash d % length heads)) r
      newest f g =
          let same : c ≡ d = cc in
          let at_r : r ≡ length next = f ∙ sym store.indexed.places in
          let at_it : slice_index heads' (clause_hash d % length heads) ≡ suc (length next) = ap (λ (x : Clause). slice_index heads' (clause_hash x % length heads)) (sym same) ∙ (ap (slice_index heads') (sym its) ∙ at_chain) in
          subst (λ (from : ℕ). Leads next' from r) (sym at_it) (subst (λ (q : ℕ). Leads next' (suc (length next)) q) (sym at_r) (leads_new next (slice_index heads chain) store.indexed.falls (store.indexed.first chain)))

  kept_new : (r : ℕ) (d : Clause) → clause_at new.clauses r ≡ Some d → IsClause d × IsClauseInRange max d
  kept_new r d e = ⊎_elim (λ old. store.kept r d old) (λ f. let g : ◌≡◌ {A = Option Clause} (Some c) (Some d) = f.1 in let same : c ≡ d = cc in subst (λ (x : Clause). IsClause x × IsClauseInRange max x) same (is, range))
      (clause_cases s.clauses (Some c) r d (subst (λ (cs : List (Option Clause)). clause_at cs r ≡ Some d) adds.clauses e))

  pub store_more : IsStore max new heads' next'
  store_more = record {
    greatest = adds.greatest ∙ store.greatest;
    small = store.small;
    few = omega (arith, length_push next (slice_index heads chain), at_end);
    free = alone_is_free new adds.alone;
    kept = kept_new;
    indexed = record {
      some = omega (arith, length-set heads chain (place + 1), there);
      places = length_push next (slice_index heads chain) ∙ (ap (λ (n : ℕ). n + 1) store.indexed.places ∙ (sym (length_push s.clauses (Some c)) ∙ ap length (sym adds.clauses)));
      first = λ i. ⊎_elim (λ e. let f = ap (slice_index heads') e ∙ at_chain in omega (arith, f, length_push next (slice_index heads chain)))
          (λ n. let f = others i n in let b = store.indexed.first i in omega (arith, f, b, length_push next (slice_index heads chain))) (cases_eq i chain);
      falls = falls_longer next (slice_index heads chain) store.indexed.falls (store.indexed.first chain);
      found = λ r d e. subst (λ (n : ℕ). Leads next' (slice_index heads' (clause_hash d % n)) r) (sym (length-set heads chain (place + 1))) (found_new r d e);
    };
  }

-- one clause less
module _ (max : ℕ) (s new : Standing) (heads next : List ℕ) (store : IsStore max s heads next) (place : ℕ) (d : Clause) (live : clause_at s.clauses place ≡ Some d) (removes : RemovesClause s place new)
    (heads' next' : List ℕ) (chains : length heads' ≡ length heads) (places : length next' ≡ length next) (first : (i : ℕ) → slice_index heads i ≤ length next → slice_index heads' i ≤ length next')
    (falls : AreFalling next') (others : (i r : ℕ) → r ≢ place → Leads next (slice_index heads i) r → Leads next' (slice_index heads' i) r) where
  was_live : (r : ℕ) (e : Clause) → clause_at new.clauses r ≡ Some e → (r ≢ place) × (clause_at s.clauses r ≡ Some e)
  was_live r e h = ⊎_elim (λ same. absurd (gone same)) (λ n. (n, sym (get_or-set_other s.clauses place r None None n) ∙ now)) (cases_eq r place)
    where
      now : clause_at (slice_set s.clauses place None) r ≡ Some e
      now = subst (λ (cs : List (Option Clause)). clause_at cs r ≡ Some e) removes.clauses h

      gone : r ≡ place → ⊥
      gone same =
          let f : ◌≡◌ {A = Option Clause} None (Some e) =
          sym (get_or-set_same s.clauses place None None (live_below s.clauses place d live)) ∙ subst (λ (q : ℕ). clause_at (slice_set s.clauses place None) q ≡ Some e) same now in
          absurd cc

  pub store_fewer : IsStore max new heads' next'
  store_fewer = record {
    greatest = removes.greatest ∙ store.greatest;
    small = store.small;
    few = omega (arith, places, store.few);
    free = alone_is_free new removes.alone;
    kept = λ r e h. store.kept r e (was_live r e h).1;
    indexed = record {
      some = omega (arith, chains, store.indexed.some);
      places = places ∙ (store.indexed.places ∙ (sym (length-set s.clauses place None) ∙ ap length (sym removes.clauses)));
      first = λ i. first i (store.indexed.first i);
      falls = falls;
      found = λ r e h. let w = was_live r e h in
          subst (λ (n : ℕ). Leads next' (slice_index heads' (clause_hash e % n)) r) (sym chains) (others (clause_hash e % length heads) r w.0 (store.indexed.found r e w.1));
    };
  }

-- where the chain of a clause leads to none of its set, no live clause has it
pub nowhere : (max : ℕ) (s : Standing) (heads next : List ℕ) → IsStore max s heads next → (c : Clause) → IsClause c → (chain head : ℕ) → chain ≡ clause_hash c % length heads → head ≡ slice_index heads chain
    → ((r : ℕ) → HasSetAt s.clauses c r → Leads next head r → ⊥) → Any (λ d. SameSet d c) (live_of s.clauses) → ⊥
nowhere max s heads next store c is chain head its begins none = none_live c s.clauses (λ r below has.
    let same : has.0 ≡ c = sets_are_lists has.0 c (store.kept r has.0 has.1).0 is has.2 in
    let leads = subst (λ (x : Clause). Leads next (slice_index heads (clause_hash x % length heads)) r) same (store.indexed.found r has.0 has.1) in
    none r has (subst (λ (from : ℕ). Leads next from r) (ap (slice_index heads) (sym its) ∙ sym begins) leads))

-- ---- what is seen of it

pub held_more : (s new : Standing) (numbers : List ℕ) (h : Held) → held s numbers ≡ h → length numbers ≡ length s.clauses → (c : Clause) (number place : ℕ) → AddsClause s c place new → held new (numbers ++ number ∷ []) ≡ held_with h c number
held_more s new numbers h view even c number place adds =
    let max : new.trail.greatest ≡ h.max = adds.greatest ∙ ap (λ (k : Held). k.max) view in
    let live : live_of new.clauses ≡ h.live ++ c ∷ [] = ap live_of adds.clauses ∙ (live_of-append s.clauses c ∙ ap (λ (k : Held). k.live ++ c ∷ []) view) in
    let one : Numbered = record { clause = c; number = number } in
    let numbered : numbered_of new.clauses (numbers ++ number ∷ []) ≡ h.numbered ++ one ∷ [] =
    ap (λ (cs : List (Option Clause)). numbered_of cs (numbers ++ number ∷ [])) adds.clauses ∙ (numbered_of-append s.clauses numbers c number even ∙ ap (λ (k : Held). k.numbered ++ one ∷ []) view) in
    λ i. record { max = max i; live = live i; numbered = numbered i }

pub held_fewer : (s new : Standing) (numbers : List ℕ) (h : Held) → held s numbers ≡ h → length numbers ≡ length s.clauses → (c : Clause) (place : ℕ) → HasSetAt s.clauses c place → RemovesClause s place new →
    RemovesOne h.live c (live_of new.clauses) × LosesOne c h.numbered (numbered_of new.clauses numbers) × (new.trail.greatest ≡ h.max)
held_fewer s new numbers h view even c place has removes = (
  subst (λ (k : Held). RemovesOne k.live c (live_of new.clauses)) view (subst (λ (cs : List (Option Clause)). RemovesOne (live_of s.clauses) c (live_of cs)) (sym removes.clauses) (removes_at s.clauses place has.0 c has.1 has.2)),
  subst (λ (k : Held). LosesOne c k.numbered (numbered_of new.clauses numbers)) view
      (subst (λ (cs : List (Option Clause)). LosesOne c (numbered_of s.clauses numbers) (numbered_of cs numbers)) (sym removes.clauses) (loses_at s.clauses numbers place has.0 c even has.1 has.2)),
  removes.greatest ∙ ap (λ (k : Held). k.max) view,
)

-- the clauses of the first places
abbrev pub held_first : Standing → List ℕ → ℕ → ℕ → Held
held_first s numbers max n = record { max = max; live = live_of (take n s.clauses); numbered = numbered_of (take n s.clauses) (take n numbers) }

-- the clauses of one place more
renew_one : (s : Standing) (numbers : List ℕ) (h now next : Held) (n m : ℕ) (o : Option Clause) → length numbers ≡ length s.clauses → n < length s.clauses → clause_at s.clauses n ≡ o → slice_index numbers n ≡ m → now ≡ held_first s numbers h.max n
    → next ≡ record { max = now.max; live = now.live ++ live_of (o ∷ []); numbered = now.numbered ++ numbered_of (o ∷ []) (m ∷ []) } → next ≡ held_first s numbers h.max (n + 1)
renew_one s numbers h now next n m o even below e f was is =
    let live : now.live ++ live_of (o ∷ []) ≡ live_of (take (n + 1) s.clauses) = ap (λ (k : Held). k.live ++ live_of (o ∷ [])) was ∙ (sym (live_more s.clauses n o below e) ∙ ap (λ (q : ℕ). live_of (take q s.clauses)) (sym (add-one n))) in
    let numbered : now.numbered ++ numbered_of (o ∷ []) (m ∷ []) ≡ numbered_of (take (n + 1) s.clauses) (take (n + 1) numbers) =
    ap (λ (k : Held). k.numbered ++ numbered_of (o ∷ []) (m ∷ [])) was ∙ (sym (numbered_more s.clauses numbers n o m even below e f) ∙ ap (λ (q : ℕ). numbered_of (take q s.clauses) (take q numbers)) (sym (add-one n))) in
    is ∙ (λ i. record { max = ap (λ (k : Held). k.max) was i; live = live i; numbered = numbered i })

pub renew_some : (s : Standing) (numbers : List ℕ) (h now next : Held) (n m : ℕ) (c : Clause) → length numbers ≡ length s.clauses → n < length s.clauses → clause_at s.clauses n ≡ Some c → slice_index numbers n ≡ m → now ≡ held_first s numbers h.max n
    → next ≡ held_with now c m → next ≡ held_first s numbers h.max (n + 1)
renew_some s numbers h now next n m c even below e f was is = renew_one s numbers h now next n m (Some c) even below e f was is

append_nothing : {X : Type 0} (xs : List X) → xs ++ [] ≡ xs
append_nothing [] = refl
append_nothing (x ∷ xs) = ap (λ ys. x ∷ ys) (append_nothing xs)

pub renew_none : (s : Standing) (numbers : List ℕ) (h now : Held) (n : ℕ) → length numbers ≡ length s.clauses → n < length s.clauses → clause_at s.clauses n ≡ None → now ≡ held_first s numbers h.max n
    → now ≡ held_first s numbers h.max (n + 1)
renew_none s numbers h now n even below e was =
    renew_one s numbers h now now n (slice_index numbers n) None even below e refl was (λ i. record { max = now.max; live = sym (append_nothing now.live) i; numbered = sym (append_nothing now.numbered) i })

-- ---- chains

clause_some : (o : Option Clause) → IsSome o → o ≡ Some (clause_or_empty o)
clause_some None h = absurd (cc)
clause_some (Some c) h = refl

module _ (xs : List (Option Clause)) (numbers : List ℕ) (even : length numbers ≡ length xs) where
  abbrev one : ℕ → Numbered
  one r = record { clause = clause_or_empty (clause_at xs r); number = slice_index numbers r }

  all_live : (places : List ℕ) → All (λ r. IsSome (clause_at xs r)) places → All (Contains (numbered_of xs numbers)) (map one places)
  all_live places h = All-map (Contains (numbered_of xs numbers)) one places (λ k d low. numbered_has xs numbers (slice_index_or places k d) (clause_or_empty (clause_at xs (slice_index_or places k d))) even (clause_some (clause_at xs (slice_index_or places k d)) (h k d low)))

  clauses_same : (places : List ℕ) → map (λ (x : Numbered). x.clause) (map one places) ≡ clauses_at xs places
  clauses_same [] = refl
  clauses_same (r ∷ places) = ap (λ (cs : List Clause). clause_or_empty (clause_at xs r) ∷ cs) (clauses_same places)

  numbers_same : (places : List ℕ) → map (λ (x : Numbered). x.number) (map one places) ≡ map (λ r. slice_index numbers r) places
  numbers_same [] = refl
  numbers_same (r ∷ places) = ap (λ (ns : List ℕ). slice_index numbers r ∷ ns) (numbers_same places)

  pub chain_of_places : (c : Clause) (places out : List ℕ) → AreTightAt xs c places → out ≡ added_numbers (map (λ r. slice_index numbers r) places) → IsTightChainOf (numbered_of xs numbers) c out
  chain_of_places c places out h is = record {
    chain = map one places;
    are_live = all_live places h.live;
    tight = subst (IsTightChain c) (sym (clauses_same places)) h.tight;
    numbers_are = is ∙ ap added_numbers (sym (numbers_same places));
  }
