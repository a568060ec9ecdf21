-- The marked ones of clauses with tight chains have tight chains, by their new numbers.
use Rattle.std.specs.Prelude.{◌≡◌, ℕ, zero, suc, ◌+◌, ◌<◌, ◌≤◌, Bool, true, false, cond, List, [], ◌∷◌, ◌++◌, length, map, slice_index_or}
use Rattle.std.specs.declared.option.Option.TheVariants.{Some}
use Rattle.std.specs.List.{All, Any}
use Rattle.std.proofs.Common.{refl, sym, ap, subst, ◌∙◌, arith, inl, inr, ⊎_elim, append_assoc, length-append}
use Rattle.std.proofs.lemmas.List.{append-nil}
use Rattle.std.proofs.lemmas.List.Elements.{All-head, All-map, All-tail}
use Rattle.clause_core.specs.Clause.{Clause}
use Rattle.graph_core.proofs.OfGraphs.CallerLemmas.{any_cases, any_here, any_nil, any_there}
use Rattle.clause_core.specs.KeptClauses.{ChosenClausesFollow, HasTightChain, HaveTightChains, IsMarked, IsNumbered, chosen, numbered, rank}

-- ---- new numbers

behind : {X : Type 0} (x : X) (xs : List X) (n : ℕ) (y : X) → numbered xs n ≡ Some y → numbered (x ∷ xs) (suc n) ≡ Some y
behind x xs zero y e = absurd (cc)
behind x xs (suc n) y e = e

-- a marked element is chosen, and has its new number
pub chosen_at : {X : Type 0} (marks : List Bool) (xs : List X) (n : ℕ) (x : X) → numbered xs n ≡ Some x → IsMarked marks n → numbered (chosen marks xs) (rank marks n) ≡ Some x
chosen_at marks xs zero x e m = absurd (cc)
chosen_at [] xs (suc n) x e m = absurd (cc)
chosen_at (b ∷ marks) [] (suc n) x e m = absurd (cc)
chosen_at (true ∷ marks) (y ∷ xs) (suc zero) x e m = e
chosen_at (false ∷ marks) (y ∷ xs) (suc zero) x e m = absurd (cc)
chosen_at (true ∷ marks) (y ∷ xs) (suc (suc n)) x e m = behind y (chosen marks xs) (rank marks (suc n)) x (chosen_at marks xs (suc n) x e m)
chosen_at (false ∷ marks) (y ∷ xs) (suc (suc n)) x e m = chosen_at marks xs (suc n) x e m

-- marks after an element don't tell for its number
rank_front : (marks more : List Bool) (n : ℕ) → n ≤ length marks → rank (marks ++ more) n ≡ rank marks n
rank_front marks more zero low = refl
rank_front [] more (suc n) low = absurd (omega arith)
rank_front (true ∷ marks) more (suc n) low = ap suc (rank_front marks more n (omega arith))
rank_front (false ∷ marks) more (suc n) low = rank_front marks more n (omega arith)

mark_front : (marks more : List Bool) (n : ℕ) → n ≤ length marks → IsMarked (marks ++ more) n → IsMarked marks n
mark_front marks more zero low m = absurd (cc)
mark_front [] more (suc n) low m = absurd (omega arith)
mark_front (b ∷ marks) more (suc zero) low m = m
mark_front (b ∷ marks) more (suc (suc n)) low m = mark_front marks more (suc n) (omega arith) m

numbered_low : {X : Type 0} (xs : List X) (n : ℕ) (x : X) → numbered xs n ≡ Some x → n ≤ length xs
numbered_low xs zero x e = absurd (cc)
numbered_low [] (suc n) x e = absurd (cc)
numbered_low (y ∷ xs) (suc zero) x e = omega arith
numbered_low (y ∷ xs) (suc (suc n)) x e = let low = numbered_low xs (suc n) x e in omega arith

chosen_push : {X : Type 0} (marks : List Bool) (xs : List X) (b : Bool) (x : X) → length marks ≡ length xs → chosen (marks ++ b ∷ []) (xs ++ x ∷ []) ≡ chosen marks xs ++ chosen (b ∷ []) (x ∷ [])
chosen_push [] [] b x e = refl
chosen_push [] (y ∷ xs) b x e = absurd (omega arith)
chosen_push (c ∷ marks) [] b x e = absurd (omega arith)
chosen_push (true ∷ marks) (y ∷ xs) b x e = ap (λ zs. y ∷ zs) (chosen_push marks xs b x (omega arith))
chosen_push (false ∷ marks) (y ∷ xs) b x e = chosen_push marks xs b x (omega arith)

-- ---- the chains

module _ (given before : List Clause) (done marks : List Bool) (count : length done ≡ length before) where
  abbrev whole : List Bool
  whole = done ++ marks

  -- what has a number has its new one
  renamed_one : (n : ℕ) (c : Clause) → IsMarked (done ++ marks) n → IsNumbered before c n → IsNumbered (chosen done before) c (rank (done ++ marks) n)
  renamed_one n c marked t =
      let low : n ≤ length done = let b = numbered_low before n t.0 t.1 in omega arith in
      (t.0, subst (λ k. numbered (chosen done before) k ≡ Some t.0) (sym (rank_front done marks n low)) (chosen_at done before n t.0 t.1 (mark_front done marks n low marked)), t.2)

  -- what is named stays named
  renamed : (uses : List ℕ) (c : Clause) → All (IsMarked whole) uses → Any (IsNumbered before c) uses → Any (IsNumbered (chosen done before) c) (map (rank whole) uses)
  renamed [] c closed h = absurd (any_nil (IsNumbered before c) h)
  renamed (n ∷ uses) c closed h =
      ⊎_elim (λ t. any_here (IsNumbered (chosen done before) c) (rank whole n) (map (rank whole) uses) (renamed_one n c (All-head (IsMarked whole) n uses closed) t))
      (λ r. any_there (IsNumbered (chosen done before) c) (rank whole n) (map (rank whole) uses) (renamed uses c (All-tail (IsMarked whole) n uses closed) r))
      (any_cases (IsNumbered before c) n uses h)

  pub follows : (c : Clause) (uses : List ℕ) → All (IsMarked whole) uses → HasTightChain given before c uses → HasTightChain given (chosen done before) c (map (rank whole) uses)
  follows c uses closed h = record {
    chain = h.chain;
    tight = h.tight;
    named = λ k d low. ⊎_elim inl (λ u. inr (renamed uses _ closed u)) (h.named k d low);
    only = All-map (λ n. Any (λ d. IsNumbered (chosen done before) d n) h.chain) (rank whole) uses
        (λ k d low. let a = h.only k d low in (a.0, a.1, a.2, a.3, renamed_one (slice_index_or uses k d) a.1 (closed k d low) a.4));
  }

-- the same, along the clauses
abbrev AreClosedAlong : List Bool → List Bool → List (List ℕ) → Type 0
AreClosedAlong among [] uses = Unit {0}
AreClosedAlong among (b ∷ marks) [] = Unit {0}
AreClosedAlong among (b ∷ marks) (u ∷ uses) = (b ≡ true → All (IsMarked among) u) × AreClosedAlong among marks uses

along : (among marks : List Bool) (uses : List (List ℕ)) → ((i : ℕ) → i < length uses → slice_index_or marks i false ≡ true → All (IsMarked among) (slice_index_or uses i [])) → AreClosedAlong among marks uses
along among [] uses h = tt
along among (b ∷ marks) [] h = tt
along among (b ∷ marks) (u ∷ uses) h = (λ e. h 0 (omega arith) e, along among marks uses (λ i low e. h (suc i) (omega arith) e))

follow_from : (given before : List Clause) (done : List Bool) → length done ≡ length before → (among marks : List Bool) → among ≡ done ++ marks → (cs : List Clause) → length marks ≡ length cs → (us : List (List ℕ)) →
    HaveTightChains given before cs us → AreClosedAlong among marks us → HaveTightChains given (chosen done before) (chosen marks cs) (chosen marks (map (map (rank among)) us))
follow_from given before done count among [] is [] long [] h closed = tt
follow_from given before done count among [] is [] long (u ∷ us) h closed = absurd h
follow_from given before done count among [] is (c ∷ cs) long us h closed = absurd (omega arith)
follow_from given before done count among (b ∷ marks) is [] long us h closed = absurd (omega arith)
follow_from given before done count among (b ∷ marks) is (c ∷ cs) long [] h closed = absurd h
follow_from given before done count among (b ∷ marks) is (c ∷ cs) long (u ∷ us) h closed =
    go
    (follow_from given (before ++ c ∷ []) (done ++ b ∷ []) (simp length-append (ap (λ n. n + 1) count)) among marks (is ∙ sym (append_assoc done (b ∷ []) marks)) cs (omega arith) us h.1 closed.1)
    b refl
  where
    front : HaveTightChains given (chosen (done ++ b ∷ []) (before ++ c ∷ [])) (chosen marks cs) (chosen marks (map (map (rank among)) us)) → (x : Bool) → b ≡ x →
        HaveTightChains given (chosen done before ++ chosen (x ∷ []) (c ∷ [])) (chosen marks cs) (chosen marks (map (map (rank among)) us))
    front next x e =
        subst (λ (y : Bool). HaveTightChains given (chosen done before ++ chosen (y ∷ []) (c ∷ [])) (chosen marks cs) (chosen marks (map (map (rank among)) us))) e
        (subst (λ (xs : List Clause). HaveTightChains given xs (chosen marks cs) (chosen marks (map (map (rank among)) us))) (chosen_push done before b c count) next)

    go : HaveTightChains given (chosen (done ++ b ∷ []) (before ++ c ∷ [])) (chosen marks cs) (chosen marks (map (map (rank among)) us)) → (x : Bool) → b ≡ x →
        HaveTightChains given (chosen done before) (cond x (c ∷ chosen marks cs) (chosen marks cs)) (cond x (map (rank among) u ∷ chosen marks (map (map (rank among)) us)) (chosen marks (map (map (rank among)) us)))
    go next true e = (
      subst (λ (ms : List Bool). HasTightChain given (chosen done before) c (map (rank ms) u)) (sym is)
          (follows given before done (b ∷ marks) count c u (subst (λ (ms : List Bool). All (IsMarked ms) u) is (closed.0 e)) h.0),
      front next true e,
    )
    go next false e =
        subst (λ (xs : List Clause). HaveTightChains given xs (chosen marks cs) (chosen marks (map (map (rank among)) us))) (append-nil (chosen done before)) (front next false e)

pub chosen_clauses_follow : ChosenClausesFollow
chosen_clauses_follow given clauses uses marks long h closed = follow_from given [] [] refl marks marks refl clauses long uses h (along marks marks uses closed)
