-- Marks that are set one after the other.
use Rattle.std.specs.Prelude.{◌≡◌, ℕ, zero, suc, ◌+◌, ◌-◌, ◌<◌, ◌≤◌, Bool, true, List, [], ◌∷◌, length, slice_get, slice_index_or}
use Rattle.std.specs.declared.option.Option.TheVariants.{Some}
use Rattle.std.specs.List.{All, Contains}
use Rattle.std.proofs.Common.{sym, ap, subst, ◌∙◌, arith, inl, inr, ⊎_elim, true≢false}
use Rattle.std.proofs.lemmas.Bool.{cases_eq}
use Rattle.std.proofs.lemmas.List.Elements.{All-contains, Contains-get_or}
use Rattle.clause_core.specs.KeptClauses.{AreBelow, IsMarked, IsUsedBehind}
use Rattle.pair_trim.specs.Marking.{IsClosedFrom, IsSet, SetsMarks}

-- a mark by its number
pub marked_at : (marks : List Bool) (i : ℕ) → IsSet marks i → slice_get marks i ≡ Some true
marked_at [] i s = absurd (true≢false (sym s))
marked_at (b ∷ marks) zero s = ap Some s
marked_at (b ∷ marks) (suc i) s = marked_at marks i s

pub set_at : (marks : List Bool) (i : ℕ) → slice_get marks i ≡ Some true → IsSet marks i
set_at [] i s = absurd (cc)
set_at (b ∷ marks) zero s = cc
set_at (b ∷ marks) (suc i) s = set_at marks i s

marked_still : (old new : List Bool) → ((i : ℕ) → IsSet old i → IsSet new i) → (n : ℕ) → IsMarked old n → IsMarked new n
marked_still old new h zero m = absurd (cc)
marked_still old new h (suc i) m = marked_at new i (h i (set_at old i m))

pub marked_number : (marks : List Bool) (n : ℕ) → 0 < n → IsSet marks (n - 1) → IsMarked marks n
marked_number marks zero some s = absurd (omega arith)
marked_number marks (suc i) some s = marked_at marks i (subst (IsSet marks) (omega arith) s)

module _ (p : ℕ) (uses : List (List ℕ)) (old mid : List Bool) (h : IsClosedFrom (p + 1) uses old mid) (low : p < length uses) where
  -- one that is, once what it uses is marked
  pub closed_set : (new : List Bool) → IsSet mid p → AreBelow p (slice_index_or uses p []) → SetsMarks (slice_index_or uses p []) mid new → IsClosedFrom p uses old new
  closed_set new set below sets = record {
    places = sets.places ∙ h.places;
    still = λ i s. still i (h.still i s);
    closed = λ i high inside s. ⊎_elim (λ e. subst (λ (j : ℕ). All (IsMarked new) (slice_index_or uses j [])) (sym e) mine)
        (λ other. λ k d b. marked_still mid new still _ (h.closed i (omega arith) inside (same i high s) k d b)) (cases_eq i p);
    used = λ i s. ⊎_elim (λ m. ⊎_elim inl (λ b. inr (behind i b)) (h.used i m)) (λ c. inr (p, before i c, low, still p set, c)) ((sets.told i).0 s);
  }
    where
      still : (i : ℕ) → IsSet mid i → IsSet new i
      still i s = (sets.told i).1 (inl s)

      before : (i : ℕ) → Contains (slice_index_or uses p []) (i + 1) → i < p
      before i c = let b = All-contains (λ k. (0 < k) × (k ≤ p)) (slice_index_or uses p []) (i + 1) below c in let most = b.1 in omega arith

      -- from this place on no mark is new
      same : (i : ℕ) → p ≤ i → IsSet new i → IsSet mid i
      same i high s = ⊎_elim (λ m. m) (λ c. let b = before i c in absurd (omega arith)) ((sets.told i).0 s)

      mine : All (IsMarked new) (slice_index_or uses p [])
      mine k d b =
          let n = slice_index_or (slice_index_or uses p []) k d in
          let in' = below k d b in
          let some = in'.0 in
          let number : (n - 1) + 1 ≡ n = omega arith in
          marked_number new n some ((sets.told (n - 1)).1 (inr (subst (Contains (slice_index_or uses p [])) (sym number) (Contains-get_or (slice_index_or uses p []) k d b))))

      behind : (i : ℕ) → IsUsedBehind mid uses i → IsUsedBehind new uses i
      behind i (j, more, inside, s, c) = (j, more, inside, still j s, c)
