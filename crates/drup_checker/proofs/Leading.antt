-- Chains of places, as one more begins, and as one is taken out.
use Rattle.std.specs.Prelude.{◌≡◌, ◌≢◌, ℕ, zero, suc, ◌+◌, ◌<◌, ◌≤◌, List, [], ◌∷◌, ◌++◌, length, slice_index, slice_set}
use Rattle.std.proofs.Common.{refl, sym, ap, subst, ◌∙◌, add-one, arith, inl, inr, ⊎_elim}
use Rattle.std.proofs.lemmas.Bool.{cases_eq, cases_lt}
use Rattle.std.proofs.lemmas.List.{get_or_append_left, get_or_push, get_or_past, get_or-set_other, get_or-set_same, length_push}
use Rattle.drup_checker.specs.Chains.{AreFalling, Leads, LeadsIn}

-- one more place
module _ (next : List ℕ) (x : ℕ) (falls : AreFalling next) (low : x ≤ length next) where
  abbrev longer : List ℕ
  longer = next ++ x ∷ []

  pub falls_longer : AreFalling longer
  falls_longer p = ⊎_elim (λ h. let e = get_or_append_left next (x ∷ []) 0 p h in let f = falls p in omega (arith, e, f)) (λ h. ⊎_elim (λ same. let e = get_or_push next x 0 p (sym same) in omega (arith, e, low, same))
      (λ n. let e = get_or_past longer p 0 (omega (arith, length_push next x)) in omega (arith, e)) (cases_eq p (length next))) (cases_lt p (length next))

  leads_longer : (k from r : ℕ) → from ≤ length next → LeadsIn k next from r → LeadsIn k longer from r
  leads_longer zero from r b h = h
  leads_longer (suc k) zero r b h = h
  leads_longer (suc k) (suc p) r b (inl e) = inl e
  leads_longer (suc k) (suc p) r b (inr h) =
      let same : slice_index longer p ≡ slice_index next p = get_or_append_left next (x ∷ []) 0 p (omega arith) in
      inr (subst (λ (from : ℕ). LeadsIn k longer from r) (sym same) (leads_longer k (slice_index next p) r (let f = falls p in omega arith) h))

  pub leads_still : (from r : ℕ) → from ≤ length next → Leads next from r → Leads longer from r
  leads_still from r b h = (h.0, leads_longer h.0 from r b h.1)

  pub leads_new : Leads longer (suc (length next)) (length next)
  leads_new = (1, inl refl)

  pub leads_on : (r : ℕ) → Leads next x r → Leads longer (suc (length next)) r
  leads_on r h = (suc h.0, inr (subst (λ (from : ℕ). LeadsIn h.0 longer from r) (sym (get_or_push next x 0 (length next) refl)) (leads_longer h.0 x r low h.1)))

-- a place is taken out after the one that leads to it
module _ (next : List ℕ) (place q : ℕ) (falls : AreFalling next) (there : q < length next) (leads : slice_index next q ≡ place + 1) where
  abbrev without : List ℕ
  without = slice_set next q (slice_index next place)

  skip : (p r : ℕ) → r ≢ place → p ≡ q → (k : ℕ) → LeadsIn k next (slice_index next p) r → ((j : ℕ) → j < k → LeadsIn j next (slice_index next place) r → Leads without (slice_index next place) r) → Leads without (suc p) r
  skip p r n e k h again = go k (subst (λ (from : ℕ). LeadsIn k next from r) (ap (slice_index next) e ∙ (leads ∙ add-one place)) h) again
    where
      go : (k : ℕ) → LeadsIn k next (suc place) r → ((j : ℕ) → j < k → LeadsIn j next (slice_index next place) r → Leads without (slice_index next place) r) → Leads without (suc p) r
      go zero h again = absurd h
      go (suc j) (inl f) again = absurd (n (sym f))
      go (suc j) (inr h) again =
          let more = again j (omega arith) h in
          (suc more.0, inr (subst (λ (from : ℕ). LeadsIn more.0 without from r) (sym (ap (slice_index without) e ∙ get_or-set_same next q (slice_index next place) 0 there)) more.1))

  leads_without : (most k from r : ℕ) → k ≤ most → r ≢ place → LeadsIn k next from r → Leads without from r
  leads_without most zero from r b n h = absurd h
  leads_without zero (suc k) from r b n h = absurd (omega arith)
  leads_without (suc most) (suc k) zero r b n h = absurd h
  leads_without (suc most) (suc k) (suc p) r b n (inl e) = (1, inl e)
  leads_without (suc most) (suc k) (suc p) r b n (inr h) =
      ⊎_elim (λ e. skip p r n e k h (λ j less i. leads_without most j (slice_index next place) r (omega arith) n i))
      (λ o. let more = leads_without most k (slice_index next p) r (omega arith) n h in
      (suc more.0, inr (subst (λ (from : ℕ). LeadsIn more.0 without from r) (sym (get_or-set_other next q p (slice_index next place) 0 o)) more.1))) (cases_eq p q)

  pub leads_past : (from r : ℕ) → r ≢ place → Leads next from r → Leads without from r
  leads_past from r n h = leads_without h.0 h.0 from r (omega arith) n h.1

-- the first one of a chain is taken out
behind : (next : List ℕ) (place k r : ℕ) → r ≢ place → LeadsIn k next (suc place) r → Leads next (slice_index next place) r
behind next place zero r n h = absurd h
behind next place (suc k) r n (inl e) = absurd (n (sym e))
behind next place (suc k) r n (inr h) = (k, h)

pub leads_behind : (next : List ℕ) (place from r : ℕ) → from ≡ place + 1 → r ≢ place → Leads next from r → Leads next (slice_index next place) r
leads_behind next place from r e n h = behind next place h.0 r n (subst (λ (f : ℕ). LeadsIn h.0 next f r) (e ∙ add-one place) h.1)

pub first_out : (heads next : List ℕ) (chain place : ℕ) → chain < length heads → slice_index heads chain ≡ place + 1 → (i r : ℕ) → r ≢ place → Leads next (slice_index heads i) r
    → Leads next (slice_index (slice_set heads chain (slice_index next place)) i) r
first_out heads next chain place b e i r n h =
    ⊎_elim (λ same. subst (λ (from : ℕ). Leads next from r) (sym (ap (slice_index (slice_set heads chain (slice_index next place))) same ∙ get_or-set_same heads chain (slice_index next place) 0 b))
    (leads_behind next place (slice_index heads i) r (ap (slice_index heads) same ∙ e) n h))
    (λ o. subst (λ (from : ℕ). Leads next from r) (sym (get_or-set_other heads chain i (slice_index next place) 0 o)) h) (cases_eq i chain)

-- nothing is found after the end
pub leads_nowhere : (next : List ℕ) (r : ℕ) → Leads next 0 r → ⊥
leads_nowhere next r (zero, h) = h
leads_nowhere next r (suc k, h) = h
