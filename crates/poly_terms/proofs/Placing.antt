-- Steps of a loop over entries beside the numbers of those that have a variable.
use Rattle.std.proofs.Common.{◌≡◌, ◌≢◌, ◌<◌, ◌≤◌, ◌⊎◌, ℕ, zero, suc, ◌+◌, ◌*◌, ◌%◌, Bool, true, false, not, cond, Option, Some, None, List, [], ◌∷◌, ◌++◌, length, map, get_or, take, drop, slice_get, refl, sym, ap, ap₂, subst, ◌∙◌, inl, inr, append-nil, arith}
use Rattle.std.proofs.Math.Seq.{drop-nil}
use Rattle.std.proofs.lemmas.List.{drop_more, map-append, take_more}
use Rattle.std.proofs.lemmas.List.Elements.{filter-append}
use Rattle.std.proofs.lemmas.Option.{get_or_from_slice_get, slice_get_within, slice_get_cases}
use Rattle.std.specs.List.{AllByRecursion, filter}
use Rattle.graph_core.specs.Graph.Assignments.{Assignment}
use Rattle.poly_terms.specs.Entries.{Sum, Entry, entry_order}
use Rattle.poly_terms.specs.Merges.{AreAfter}
use Rattle.algebra_core.specs.Polynomials.{product}
use Rattle.poly_terms.specs.Laws.{grows_on, stands_in_grown}
use Rattle.poly_terms.specs.Monomials.{Adds, AreIn, Grows, free_of, has_in, places_of, replaced, replaced_one, total_in, without_variable}
use Rattle.poly_terms.proofs.Adding.{adds_on, adds_same, all_at, total_grown}
use Rattle.poly_terms.proofs.Leaving.{all-filter}
use Rattle.poly_terms.proofs.Merging.{begins, drop_past}
use Rattle.poly_terms.proofs.Orders.{all_after, weaker}

abbrev rest_of : {X : Type 0} → List X → List X
rest_of [] = []
rest_of (x ∷ xs) = xs

after-drop : (bound : Option Entry) (es : Sum) (i : ℕ) → AreAfter entry_order bound es → AreAfter entry_order bound (drop i es)
after-drop bound [] i h = subst (AreAfter entry_order bound) (sym (drop-nil i)) tt
after-drop bound (e ∷ es) zero h = h
after-drop bound (e ∷ es) (suc i) h = after-drop bound es i (weaker bound e es h.0 h.1)

-- the number at a place begins what is left
begins_with : (ns : List ℕ) (j n : ℕ) → slice_get ns j ≡ Some n → drop j ns ≡ n ∷ drop (j + 1) ns
begins_with ns j n at = drop_more ns j n (slice_get_within ns j n at) ∙ ap (λ x. x ∷ drop (j + 1) ns) (get_or_from_slice_get ns j n n at)

first_left : (ns : List ℕ) (j n : ℕ) (rest : List ℕ) → drop j ns ≡ n ∷ rest → slice_get ns j ≡ Some n
first_left ns j n rest is = go (slice_get_cases ns j).1
  where
    go : ((x : ℕ) × (j < length ns) × (slice_get ns j ≡ Some x) × (get_or ns j x ≡ x)) ⊎ ((length ns ≤ j) × (slice_get ns j ≡ None)) → slice_get ns j ≡ Some n
    go (inl (x, within, at, same)) = at ∙ ap Some (ap (λ xs. get_or xs 0 n) (sym (begins_with ns j x at) ∙ is))
    go (inr (past, none)) = let e : [] ≡ n ∷ rest = sym (drop_past ns j past) ∙ is in absurd (cc)

numbers_differ : (n : ℕ) (es : Sum) → AllByRecursion (λ x. n ≢ x.0) es → AllByRecursion (λ k. n ≢ k) (map (λ x. x.0) es)
numbers_differ n [] h = tt
numbers_differ n (e ∷ es) h = (h.0, numbers_differ n es h.1)

module _ (ms : List (List ℕ)) (v : ℕ) (places : List ℕ) (es : Sum) (i j : ℕ) (e : Entry) (order : AreAfter entry_order None es) (in_list : i < length es) (at : e ≡ get_or es i e)
    (left : drop j places ≡ places_of ms v (drop i es)) where
  abbrev later : Sum
  later = drop (i + 1) es

  here : (b : Bool) → has_in ms v e ≡ b → drop j places ≡ map (λ x. x.0) (cond b (e ∷ filter (has_in ms v) later) (filter (has_in ms v) later))
  here b is = left ∙ ap (places_of ms v) (begins es i e in_list at) ∙ ap (λ b. map (λ x. x.0) (cond b (e ∷ filter (has_in ms v) later) (filter (has_in ms v) later))) is

  others : AllByRecursion (λ k. e.0 ≢ k) (places_of ms v later)
  others =
      let after : AreAfter entry_order None (e ∷ later) = subst (AreAfter entry_order None) (begins es i e in_list at) (after-drop None es i order) in
      numbers_differ e.0 (filter (has_in ms v) later) (all-filter (has_in ms v) (λ x. e.0 ≢ x.0) later (all_after e later after.1))

  pub at_place : slice_get places j ≡ Some e.0 → (has_in ms v e ≡ true) × (drop (j + 1) places ≡ places_of ms v (drop (i + 1) es))
  at_place there = go (has_in ms v e) refl
    where
      go : (b : Bool) → has_in ms v e ≡ b → (has_in ms v e ≡ true) × (drop (j + 1) places ≡ places_of ms v (drop (i + 1) es))
      go true is = (is, ap rest_of (sym (begins_with places j e.0 there) ∙ here true is))
      go false is =
          let same : places_of ms v later ≡ e.0 ∷ drop (j + 1) places = sym (here false is) ∙ begins_with places j e.0 there in
          let far : AllByRecursion (λ k. e.0 ≢ k) (e.0 ∷ drop (j + 1) places) = subst (AllByRecursion (λ k. e.0 ≢ k)) same others in
          absurd (far.0 refl)

  pub at_no_place : (slice_get places j ≡ Some e.0 → ⊥) → (has_in ms v e ≡ false) × (drop j places ≡ places_of ms v (drop (i + 1) es))
  at_no_place none = go (has_in ms v e) refl
    where
      go : (b : Bool) → has_in ms v e ≡ b → (has_in ms v e ≡ false) × (drop j places ≡ places_of ms v (drop (i + 1) es))
      go true is = absurd (none (first_left places j e.0 (places_of ms v later) (here true is)))
      go false is = (is, here false is)

replaced-push : (ms : List (List ℕ)) (v : ℕ) (σ : Assignment) (n : ℕ) (xs : Sum) (x : Entry) →
    replaced ms v σ n (xs ++ x ∷ []) ≡ replaced ms v σ n xs + cond (has_in ms v x) (replaced_one ms v σ n x) 0
replaced-push ms v σ n [] x = omega arith
replaced-push ms v σ n (y ∷ ys) x = omega (arith, replaced-push ms v σ n ys x)

module _ (ms : List (List ℕ)) (v : ℕ) (es : Sum) (i : ℕ) (e : Entry) (in_list : i < length es) (at : e ≡ get_or es i e) where
  more : take (i + 1) es ≡ take i es ++ e ∷ []
  more = take_more es i e in_list ∙ ap (λ x. take i es ++ x ∷ []) (sym at)

  pub replaced_here : (σ : Assignment) (n : ℕ) → has_in ms v e ≡ true → replaced ms v σ n (take i es) + replaced_one ms v σ n e ≡ replaced ms v σ n (take (i + 1) es)
  replaced_here σ n is =
      sym (ap (replaced ms v σ n) more ∙ replaced-push ms v σ n (take i es) e ∙ ap (λ b. replaced ms v σ n (take i es) + cond b (replaced_one ms v σ n e) 0) is)

  pub replaced_not : (σ : Assignment) (n : ℕ) → has_in ms v e ≡ false → replaced ms v σ n (take i es) ≡ replaced ms v σ n (take (i + 1) es)
  replaced_not σ n is =
      sym (ap (replaced ms v σ n) more ∙ replaced-push ms v σ n (take i es) e ∙ ap (λ b. replaced ms v σ n (take i es) + cond b (replaced_one ms v σ n e) 0) is ∙ omega arith)

  with_more : filter (has_in ms v) (take (i + 1) es) ≡ filter (has_in ms v) (take i es) ++ cond (has_in ms v e) (e ∷ []) []
  with_more = ap (filter (has_in ms v)) more ∙ filter-append (has_in ms v) (take i es) (e ∷ [])

  pub places_here : has_in ms v e ≡ true → places_of ms v (take (i + 1) es) ≡ places_of ms v (take i es) ++ e.0 ∷ []
  places_here is =
      ap (map (λ (x : Entry). x.0)) (with_more ∙ ap (λ b. filter (has_in ms v) (take i es) ++ cond b (e ∷ []) []) is) ∙ map-append (λ (x : Entry). x.0) (filter (has_in ms v) (take i es)) (e ∷ [])

  pub places_not : has_in ms v e ≡ false → places_of ms v (take (i + 1) es) ≡ places_of ms v (take i es)
  places_not is =
      ap (map (λ (x : Entry). x.0)) (with_more ∙ ap (λ b. filter (has_in ms v) (take i es) ++ cond b (e ∷ []) []) is ∙ append-nil (filter (has_in ms v) (take i es)))

  free_more : free_of ms v (take (i + 1) es) ≡ free_of ms v (take i es) ++ cond (not (has_in ms v e)) (e ∷ []) []
  free_more = ap (free_of ms v) more ∙ filter-append (λ x. not (has_in ms v x)) (take i es) (e ∷ [])

  free_here : has_in ms v e ≡ false → free_of ms v (take (i + 1) es) ≡ free_of ms v (take i es) ++ e ∷ []
  free_here is = free_more ∙ ap (λ b. free_of ms v (take i es) ++ cond (not b) (e ∷ []) []) is

  free_not : has_in ms v e ≡ true → free_of ms v (take (i + 1) es) ≡ free_of ms v (take i es)
  free_not is = free_more ∙ ap (λ b. free_of ms v (take i es) ++ cond (not b) (e ∷ []) []) is ∙ append-nil (free_of ms v (take i es))

-- ---- a loop that replaces a variable by other entries

-- i entries are done, and of these j have the variable
pub record IsReplaced (m v : ℕ) (old table : List (List ℕ)) (places : List ℕ) (by es out : Sum) (i j : ℕ) : Type 0 where
  pub grows : Grows old table
  pub adds : Adds m old table [] out (λ σ. replaced old v σ (total_in old σ by) (take i es))
  pub left : drop j places ≡ places_of old v (drop i es)

module _ (m v : ℕ) (old mid : List (List ℕ)) (places : List ℕ) (by es out : Sum) (i j : ℕ) (e : Entry) (order : AreAfter entry_order None es) (of : AreIn old es) (by_of : AreIn old by)
    (in_list : i < length es) (at : e ≡ get_or es i e) (s : IsReplaced m v old mid places by es out i j) where
  abbrev done : ℕ → Assignment → ℕ
  done n σ = replaced old v σ (total_in old σ by) (take n es)

  as_before : (σ : Assignment) → replaced_one mid v σ (total_in mid σ by) e ≡ replaced_one old v σ (total_in old σ by) e
  as_before σ =
      ap₂ (λ us n. e.1 * product σ (without_variable v us) * n) (stands_in_grown old mid e.0 s.grows (all_at (λ x. x.0 < length old) es i e in_list at of)) (total_grown old mid by σ s.grows by_of)

  -- one with the variable
  pub replaced_at : (new table : List (List ℕ)) (more after : Sum) (next : ℕ) → table ≡ new → after ≡ more → next ≡ j + 1 → slice_get places j ≡ Some e.0 → Grows mid new →
      Adds m mid new out more (λ σ. replaced_one mid v σ (total_in mid σ by) e) → IsReplaced m v old table places by es after (i + 1) next
  replaced_at new table more after next t o n there g adds =
      let here = at_place old v places es i j e order in_list at s.left there in
      let both : (σ : Assignment) → done i σ + replaced_one mid v σ (total_in mid σ by) e ≡ done (i + 1) σ =
      λ σ. ap (λ k. done i σ + k) (as_before σ) ∙ replaced_here old v es i e in_list at σ (total_in old σ by) here.0 in
      rw (t, o, n)
      (record {
        grows = grows_on old mid new s.grows g;
        adds = adds_on m old mid new [] out more (done i) (λ σ. replaced_one mid v σ (total_in mid σ by) e) (done (i + 1)) s.adds adds both;
        left = here.1;
      })

  -- one without it
  pub replaced_past : (table : List (List ℕ)) (after : Sum) (next : ℕ) → table ≡ mid → after ≡ out → next ≡ j → (slice_get places j ≡ Some e.0 → ⊥) →
      IsReplaced m v old table places by es after (i + 1) next
  replaced_past table after next t o n none =
      let here = at_no_place old v places es i j e order in_list at s.left none in
      rw (t, o, n)
      (record {
        grows = s.grows;
        adds = adds_same m old mid [] out (done i) (done (i + 1)) s.adds (λ σ. ap (λ k. k % m) (replaced_not old v es i e in_list at σ (total_in old σ by) here.0));
        left = here.1;
      })

-- ---- a loop that keeps the entries without a variable

-- i entries are done, and of these j have the variable
pub record IsFreed (v : ℕ) (ms : List (List ℕ)) (places : List ℕ) (es out : Sum) (i j : ℕ) : Type 0 where
  pub out_is : out ≡ free_of ms v (take i es)
  pub left : drop j places ≡ places_of ms v (drop i es)

module _ (v : ℕ) (ms : List (List ℕ)) (places : List ℕ) (es out : Sum) (i j : ℕ) (e : Entry) (order : AreAfter entry_order None es) (in_list : i < length es) (at : e ≡ get_or es i e)
    (s : IsFreed v ms places es out i j) where
  -- one with the variable
  pub left_out : (after : Sum) (next : ℕ) → after ≡ out → next ≡ j + 1 → slice_get places j ≡ Some e.0 → IsFreed v ms places es after (i + 1) next
  left_out after next o n there =
      let here = at_place ms v places es i j e order in_list at s.left there in
      record { out_is = o ∙ s.out_is ∙ sym (free_not ms v es i e in_list at here.0); left = ap (λ k. drop k places) n ∙ here.1 }

  -- one without it
  pub kept_on : (after : Sum) (copy : Entry) (next : ℕ) → after ≡ out ++ copy ∷ [] → copy ≡ e → next ≡ j → (slice_get places j ≡ Some e.0 → ⊥) → IsFreed v ms places es after (i + 1) next
  kept_on after copy next o same n none =
      let here = at_no_place ms v places es i j e order in_list at s.left none in
      record { out_is = o ∙ ap₂ (λ a b. a ++ b ∷ []) s.out_is same ∙ sym (free_here ms v es i e in_list at here.0); left = ap (λ k. drop k places) n ∙ here.1 }
