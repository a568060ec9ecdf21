-- Each clause that is kept is used among those that are.
use Rattle.std.specs.Prelude.{◌≡◌, ℕ, zero, suc, ◌+◌, ◌<◌, ◌≤◌, Bool, true, false, List, [], ◌∷◌, length, map, slice_index_or}
use Rattle.std.specs.List.{Contains}
use Rattle.std.proofs.Common.{refl, sym, ap, subst, ◌∙◌, add-one, arith, inl, inr, ⊎_elim}
use Rattle.std.proofs.lemmas.Bool.{cases_lt}
use Rattle.std.proofs.lemmas.List.{get_or-map, length-map}
use Rattle.clause_core.specs.Clause.{Clause, IsSubset}
use Rattle.clause_core.proofs.Decided.{contains_here, contains_nil, contains_there}
use Rattle.clause_core.proofs.RupSoundness.{contains_cases}
use Rattle.clause_core.specs.KeptClauses.{ChosenClausesAreUsed, IsFirstShowing, IsUsedBehind, chosen, chosen_uses, rank}

abbrev IsSet : List Bool → ℕ → Type 0
IsSet marks i = slice_index_or marks i false ≡ true

-- where a marked element is among the chosen ones
abbrev place : List Bool → ℕ → ℕ
place marks i = rank marks i

-- a chosen element, and where it was
record WasAt {X : Type 0} (marks : List Bool) (xs : List X) (k : ℕ) : Type 0 where
  at : ℕ
  within : at < length xs
  set : IsSet marks at
  place_is : place marks at ≡ k
  same : (d : X) → slice_index_or (chosen marks xs) k d ≡ slice_index_or xs at d

was_at : {X : Type 0} (marks : List Bool) (xs : List X) (k : ℕ) → k < length (chosen marks xs) → WasAt marks xs k
was_at [] xs k low = absurd (omega arith)
was_at (b ∷ marks) [] k low = absurd (omega arith)
was_at (true ∷ marks) (x ∷ xs) zero low = record { at = 0; within = omega arith; set = refl; place_is = refl; same = λ d. refl }
was_at (true ∷ marks) (x ∷ xs) (suc k) low =
    let w = was_at marks xs k (omega arith) in
    record { at = suc w.at; within = omega (arith, w.within); set = w.set; place_is = ap suc w.place_is; same = w.same }
was_at (false ∷ marks) (x ∷ xs) k low =
    let w = was_at marks xs k low in
    record { at = suc w.at; within = omega (arith, w.within); set = w.set; place_is = w.place_is; same = w.same }

-- a marked element is chosen
pub there : {X : Type 0} (marks : List Bool) (xs : List X) (i : ℕ) → i < length xs → IsSet marks i → (place marks i < length (chosen marks xs)) × ((d : X) → slice_index_or (chosen marks xs) (place marks i) d ≡ slice_index_or xs i d)
there [] xs i low set = absurd (cc)
there (b ∷ marks) [] i low set = absurd (omega arith)
there (true ∷ marks) (x ∷ xs) zero low set = (omega arith, λ d. refl)
there (false ∷ marks) (x ∷ xs) zero low set = absurd (cc)
there (true ∷ marks) (x ∷ xs) (suc i) low set = let t = there marks xs i (omega arith) set in (omega (arith, t.0), t.1)
there (false ∷ marks) (x ∷ xs) (suc i) low set = there marks xs i (omega arith) set

-- later elements have later places
rises : (marks : List Bool) (i j : ℕ) → i ≤ j → rank marks i ≤ rank marks j
rises marks zero j low = omega arith
rises marks (suc i) zero low = absurd (omega arith)
rises [] (suc i) (suc j) low = omega arith
rises (true ∷ marks) (suc i) (suc j) low = let r = rises marks i j (omega arith) in omega arith
rises (false ∷ marks) (suc i) (suc j) low = rises marks i j (omega arith)

-- the number of a marked element is one more than its place
next : (marks : List Bool) (i : ℕ) → IsSet marks i → rank marks (i + 1) ≡ suc (rank marks i)
next marks i set = ap (rank marks) (add-one i) ∙ go marks i set
  where
    go : (ms : List Bool) (n : ℕ) → IsSet ms n → rank ms (suc n) ≡ suc (rank ms n)
    go [] n s = absurd (cc)
    go (true ∷ ms) zero s = refl
    go (false ∷ ms) zero s = absurd (cc)
    go (true ∷ ms) (suc n) s = ap suc (go ms n s)
    go (false ∷ ms) (suc n) s = go ms n s

contains_map : (f : ℕ → ℕ) (xs : List ℕ) (x : ℕ) → Contains xs x → Contains (map f xs) (f x)
contains_map f [] x h = absurd (contains_nil x h)
contains_map f (y ∷ xs) x h =
    ⊎_elim (λ same. subst (λ (z : ℕ). Contains (f y ∷ map f xs) (f z)) same (contains_here (f y) (map f xs))) (λ r. contains_there (f y) (map f xs) (f x) (contains_map f xs x r)) (contains_cases y xs x h)

module _ (goals clauses : List Clause) (uses : List (List ℕ)) (marks : List Bool) (even : length uses ≡ length clauses) (k : ℕ) (w : WasAt marks clauses k) where
  -- the first that shows a goal is so among the chosen ones
  first_still : k < length (chosen marks clauses) → (g : Clause) → IsFirstShowing clauses w.at g → IsFirstShowing (chosen marks clauses) k g
  first_still low g f = record {
    within = low;
    shows = subst (λ (c : Clause). IsSubset c g) (sym (w.same [])) f.shows;
    first = λ j before sub.
        let v = was_at marks clauses j (omega arith) in
        let at_before : v.at < w.at = ⊎_elim (λ h. h) (λ h. absurd (let r = rises marks w.at v.at h in let a = w.place_is in let b = v.place_is in omega arith)) (cases_lt v.at w.at) in
        f.first v.at at_before (subst (λ (c : Clause). IsSubset c g) (v.same []) sub);
  }

  behind_still : IsUsedBehind marks uses w.at → (j : ℕ) × (k < j) × (j < length (chosen_uses marks uses)) × Contains (slice_index_or (chosen_uses marks uses) j []) (k + 1)
  behind_still (j, before, low, set, has) =
      let renamed : List (List ℕ) = map (map (rank marks)) uses in
      let t = there marks renamed j (omega (arith, length-map uses (map (rank marks)))) set in
      let later : k < place marks j = let a = w.place_is in let b = next marks w.at w.set in let r = rises marks (w.at + 1) j (omega arith) in omega arith in
      let is : slice_index_or (chosen marks renamed) (place marks j) [] ≡ map (rank marks) (slice_index_or uses j []) = t.1 [] ∙ get_or-map (map (rank marks)) uses j [] [] low in
      let number : rank marks (w.at + 1) ≡ k + 1 = let a = w.place_is in let b = next marks w.at w.set in omega arith in
      (place marks j, later, t.0, subst (λ (ns : List ℕ). Contains ns (k + 1)) (sym is) (subst (Contains (map (rank marks) (slice_index_or uses j []))) number (contains_map (rank marks) (slice_index_or uses j []) (w.at + 1) has)))

  -- a number that names it is renamed to its new one
  named_still : (more : List ℕ) → Contains more (w.at + 1) → Contains (map (rank marks) more) (k + 1)
  named_still more has =
      let number : rank marks (w.at + 1) ≡ k + 1 = let a = w.place_is in let b = next marks w.at w.set in omega arith in
      subst (Contains (map (rank marks) more)) number (contains_map (rank marks) more (w.at + 1) has)

pub chosen_clauses_are_used : ChosenClausesAreUsed
chosen_clauses_are_used goals clauses more uses marks long even used k low =
    let w = was_at marks clauses k low in
    ⊎_elim (λ a. inl (a.0, a.1, a.2, a.3, first_still goals clauses uses marks even k w low a.1 a.4))
    (λ r. inr (⊎_elim (λ n. inl (named_still goals clauses uses marks even k w more n)) (λ b. inr (behind_still goals clauses uses marks even k w b)) r))
    (used w.at w.within w.set)
