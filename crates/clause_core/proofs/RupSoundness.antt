-- Where the live clauses hold, a clause that follows by reverse unit propagation holds.
use Rattle.std.specs.Prelude.{◌≡◌, ◌≢◌, ℕ, zero, suc, ◌<◌, ◌⊎◌, Bool, true, false, not, List, [], ◌∷◌, map, length, ℤ, pos, negsuc, neg_ℤ, slice_index_or}
use Rattle.std.specs.List.{All, Contains}
use Rattle.std.proofs.Common.{refl, sym, ap, ◌∙◌, arith, inl, inr, ⊎_elim, true≢false}
use Rattle.std.proofs.lemmas.List.Elements.{All-contains}
use Rattle.std.proofs.lemmas.List.Folds.{Any-from_list_any, list_any_at}
use Rattle.std.proofs.lemmas.Bool.{cases_Bool}
use Rattle.graph_core.specs.Graph.Assignments.{Assignment, variable}
use Rattle.clause_core.specs.Clause.{Clause, signed, holds, Satisfies, HasSigns}
use Rattle.clause_core.specs.UnitPropagation.{IsChain, IsUnit, IsRup, RupIsSound}

pub not_not : (b : Bool) → not (not b) ≡ b
not_not true = refl
not_not false = refl

signed-neg : (σ : Assignment) (l : ℤ) → l ≢ pos 0 → signed σ (neg_ℤ l) ≡ not (signed σ l)
signed-neg σ (pos zero) h = absurd (h refl)
signed-neg σ (pos (suc v)) h = refl
signed-neg σ (negsuc v) h = sym (not_not (variable σ (suc v)))

pub contains_cases : {X : Type 0} (x : X) (xs : List X) (y : X) → Contains (x ∷ xs) y → (x ≡ y) ⊎ Contains xs y
contains_cases x xs y h = go h.0 h.1 h.2
  where
    go : (i : ℕ) → i < length (x ∷ xs) → slice_index_or (x ∷ xs) i y ≡ y → (x ≡ y) ⊎ Contains xs y
    go zero below e = inl e
    go (suc i) below e = inr (i, omega arith, e)

-- y is the image of an element
abbrev IsImage : (ℤ → ℤ) → List ℤ → ℤ → Type 0
IsImage f xs y = (x : ℤ) × Contains xs x × (f x ≡ y)

image_later : (f : ℤ → ℤ) (x : ℤ) (xs : List ℤ) (y : ℤ) → IsImage f xs y → IsImage f (x ∷ xs) y
image_later f x xs y r = let below : r.1.0 < length xs = r.1.1 in (r.0, (suc r.1.0, omega arith, r.1.2), r.2)

contains_map : (f : ℤ → ℤ) (xs : List ℤ) (y : ℤ) → Contains (map f xs) y → IsImage f xs y
contains_map f [] y h = let below : h.0 < 0 = h.1 in absurd (omega arith)
contains_map f (x ∷ xs) y h = ⊎_elim (λ e. (x, (0, omega arith, refl), e)) (λ r. image_later f x xs y (contains_map f xs y r)) (contains_cases (f x) (map f xs) y h)

-- each literal of a clause that is false is false
pub false_at : (σ : Assignment) (c : Clause) (k : ℤ) → holds σ c ≡ false → Contains c k → signed σ k ≡ false
false_at σ c k h has = ⊎_elim (λ t. absurd (true≢false (sym (list_any_at (signed σ) c has.0 k has.1 (ap (signed σ) has.2 ∙ t)) ∙ h))) (λ f. f) (cases_Bool (signed σ k))

-- some literal of a clause that holds is true
pub true_at : (σ : Assignment) (c : Clause) → holds σ c ≡ true → (k : ℤ) × Contains c k × (signed σ k ≡ true)
true_at σ c h = let some = Any-from_list_any (signed σ) c h in (some.1, (some.0, some.2, some.3), some.4)

module _ (σ : Assignment) (live : List Clause) (signs : All HasSigns live) (satisfied : Satisfies σ live) where
  clash : (k : ℤ) → k ≢ pos 0 → signed σ k ≡ true → signed σ (neg_ℤ k) ≡ true → ⊥
  clash k s t u = true≢false (sym u ∙ signed-neg σ k s ∙ ap not t)

  -- a live clause with all literals but l false makes l true
  unit_true : (assumed : List ℤ) (c : Clause) (l : ℤ) → ((k : ℤ) → Contains assumed k → signed σ k ≡ true) → Contains live c → IsUnit assumed c l → signed σ l ≡ true
  unit_true assumed c l truth has unit =
      let some = true_at σ c (All-contains (λ d. holds σ d ≡ true) live c satisfied has) in
      let sign = All-contains (λ m. m ≢ pos 0) c some.0 (All-contains HasSigns live c signs has) some.1 in
      ⊎_elim (λ e. ap (signed σ) (sym e) ∙ some.2) (λ n. absurd (clash some.0 sign some.2 (truth (neg_ℤ some.0) n))) (unit.1 some.0 some.1)

  chain_refutes : (assumed : List ℤ) (chain : List Clause) → ((k : ℤ) → Contains assumed k → signed σ k ≡ true) → ((c : Clause) → Contains chain c → Contains live c) → IsChain assumed chain → ⊥
  chain_refutes assumed [] truth has h = h
  chain_refutes assumed (c ∷ []) truth has h =
      let in' = has c (0, omega arith, refl) in
      let some = true_at σ c (All-contains (λ d. holds σ d ≡ true) live c satisfied in') in
      let sign = All-contains (λ m. m ≢ pos 0) c some.0 (All-contains HasSigns live c signs in') some.1 in
      clash some.0 sign some.2 (truth (neg_ℤ some.0) (h some.0 some.1))
  chain_refutes assumed (c ∷ d ∷ ds) truth has h =
      let in' = has c (0, omega arith, refl) in
      chain_refutes (h.0 ∷ assumed) (d ∷ ds)
      (λ k e. ⊎_elim (λ same. ap (signed σ) (sym same) ∙ unit_true assumed c h.0 truth in' h.1) (truth k) (contains_cases h.0 assumed k e))
      (λ x e. let below : e.0 < length (d ∷ ds) = e.1 in has x (suc e.0, omega arith, e.2)) h.2

  pub rup_holds : (c : Clause) → HasSigns c → IsRup live c → holds σ c ≡ true
  rup_holds c sign rup = ⊎_elim (λ t. t) (λ f. absurd (⊎_elim (refuted f) (tautology f) rup)) (cases_Bool (holds σ c))
    where
      refuted : holds σ c ≡ false → ((chain : List Clause) × All (Contains live) chain × IsChain (map neg_ℤ c) chain) → ⊥
      refuted f r =
          chain_refutes (map neg_ℤ c) r.0
          (λ k e. let image = contains_map neg_ℤ c k e in
          ap (signed σ) (sym image.2) ∙ signed-neg σ image.0 (All-contains (λ m. m ≢ pos 0) c image.0 sign image.1) ∙ ap not (false_at σ c image.0 f image.1))
          (λ d e. All-contains (Contains live) r.0 d r.1 e) r.2

      tautology : holds σ c ≡ false → ((v : ℕ) × (0 < v) × Contains c (pos v) × Contains c (neg_ℤ (pos v))) → ⊥
      tautology f r =
          let sign' = All-contains (λ m. m ≢ pos 0) c (pos r.0) sign r.2 in
          true≢false (sym (signed-neg σ (pos r.0) sign' ∙ ap not (false_at σ c (pos r.0) f r.2)) ∙ false_at σ c (neg_ℤ (pos r.0)) f r.3)

pub rup_is_sound : RupIsSound
rup_is_sound live c σ signs sign rup satisfied = rup_holds σ live signs satisfied c sign rup
