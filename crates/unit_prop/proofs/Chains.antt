-- What stands follows from what was assumed: by a chain from its negation.
use Rattle.std.specs.Prelude.{◌≡◌, ◌≢◌, ◌⊎◌, ℕ, zero, suc, ◌+◌, ◌<◌, ◌≤◌, List, [], ◌∷◌, ◌++◌, length, take, ℤ, pos, neg_ℤ}
use Rattle.std.specs.declared.option.Option.{Option}
use Rattle.std.specs.declared.option.Option.TheVariants.{None, Some}
use Rattle.std.specs.List.{All, Contains}
use Rattle.std.proofs.Common.{refl, sym, subst, ◌∙◌, arith, inl, inr, ⊎_elim}
use Rattle.std.proofs.lemmas.Bool.{cases_lt}
use Rattle.std.proofs.lemmas.List.{get_or_default, get_or-take, length-take}
use Rattle.std.proofs.lemmas.List.Elements.{All-nil, All-cons}
use Rattle.clause_core.specs.Clause.{Clause, IsSubset}
use Rattle.clause_core.specs.UnitPropagation.{IsUnit, IsFalsified, IsChain, IsRefuted}
use Rattle.clause_core.proofs.CallerLemmas.{at_contained, contains_cases, contains_here, contains_nil, contains_there}
use Rattle.unit_prop.specs.Literals.{IsLiteral}
use Rattle.unit_prop.specs.Standing.{HasNoAssumption, IsSound, Standing, StandsAlone, assumed_in, assumed_of, at, live_of, reason_at}
use Rattle.unit_prop.proofs.Findings.{assumed_at, live_has}
use Rattle.unit_prop.proofs.TrailSteps.{once}

module _ (s : Standing) (sound : IsSound s) where
  abbrev lits : List ℤ
  lits = s.trail.literals

  abbrev live : List Clause
  live = live_of s.clauses

  pub consistent : (l : ℤ) → Contains lits l → Contains lits (neg_ℤ l) → ⊥
  consistent l has other = let p = at_contained lits l has in once lits l (subst IsLiteral p.2 (sound.within p.0 p.1).0) sound.apart has other

  module _ (start : List ℤ) (c : Clause) (has_c : Contains live c) (end : ℕ) (within : end ≤ length lits) (falsified : (acc : List ℤ) → IsSubset (take end lits) acc → IsSubset start acc → IsFalsified acc c)
      (begins : IsSubset (assumed_of s) start) where
    abbrev Has : List ℤ → ℕ → Type 0
    Has acc n = ((i : ℕ) → i < n → Contains acc (at lits i)) × IsSubset start acc

    abbrev Leads : List ℤ → Type 0
    Leads acc = (chain : List Clause) × All (Contains live) chain × IsChain acc chain

    longer : (acc : List ℤ) (d : Clause) (l : ℤ) → Contains live d → IsUnit acc d l → Leads (l ∷ acc) → Leads acc
    longer acc d l has unit (([]), all, chain) = absurd chain
    longer acc d l has unit ((e ∷ es), all, chain) = (d ∷ e ∷ es, All-cons (Contains live) d (e ∷ es) has all, (l, unit, chain))

    in_prefix : (acc : List ℤ) (n : ℕ) → ((i : ℕ) → i < n → Contains acc (at lits i)) → IsSubset (take n lits) acc
    in_prefix acc n has l h = ⊎_elim
        (λ b. subst (Contains acc) (sym (get_or-take n lits h.0 (pos 0) b) ∙ (get_or_default (take n lits) h.0 (pos 0) l h.1 ∙ h.2)) (has h.0 b))
        (λ b. absurd (past b)) (cases_lt h.0 n)
      where
        past : n ≤ h.0 → ⊥
        past b = let k : h.0 < length (take n lits) = h.1 in absurd (omega (arith, length-take n lits))

    leads : (k n : ℕ) → n + k ≡ end → (acc : List ℤ) → Has acc n → Leads acc
    leads zero n e acc has = (
      c ∷ [],
      All-cons (Contains live) c [] has_c (All-nil (Contains live)),
      falsified acc (in_prefix acc end (λ i b. has.0 i (omega arith))) has.1,
    )
    leads (suc k) n e acc has = step (λ acc' has'. leads k (suc n) (omega arith) acc' has') (reason_at s.trail.reasons n) refl
      where
        known : (acc' : List ℤ) → IsSubset acc acc' → Contains acc' (at lits n) → Has acc' (suc n)
        known acc' more here = (
          λ i b. ⊎_elim (λ f. more (at lits i) (has.0 i f)) (λ f. let same : n ≡ i = omega arith in subst (λ (j : ℕ). Contains acc' (at lits j)) same here) (cases_lt i n),
          λ l h. more l (has.1 l h),
        )

        step : ((acc' : List ℤ) → Has acc' (suc n) → Leads acc') → (why : Option ℕ) → reason_at s.trail.reasons n ≡ why → Leads acc
        step next None is = next acc (known acc (λ l h. h) (has.1 (at lits n) (begins (at lits n) (assumed_at lits s.trail.reasons sound.paired n (omega arith) is))))
        step next (Some r) is =
            let why = sound.forced n r (omega arith) is in
            let unit : IsUnit acc why.0 (at lits n) = (why.2.0, λ l h. ⊎_elim inl (λ f. inr (in_prefix acc n has.0 (neg_ℤ l) f)) (why.2.1 l h)) in
            longer acc why.0 (at lits n) (live_has s.clauses r why.0 why.1) unit
            (next (at lits n ∷ acc) (known (at lits n ∷ acc) (λ l h. contains_there (at lits n) acc l h) (contains_here (at lits n) acc)))

    refuted : IsRefuted live start
    refuted = leads end 0 (omega arith) start (λ i b. absurd (omega arith), λ l h. h)

  -- A literal that stands was assumed, or a chain refutes its negation.
  pub follows : (l : ℤ) → Contains lits l → Contains (assumed_of s) l ⊎ IsRefuted live (neg_ℤ l ∷ assumed_of s)
  follows l has = let p = at_contained lits l has in why p.0 p.1 p.2 (reason_at s.trail.reasons p.0) refl
    where
      why : (i : ℕ) → i < length lits → at lits i ≡ l → (r : Option ℕ) → reason_at s.trail.reasons i ≡ r → Contains (assumed_of s) l ⊎ IsRefuted live (neg_ℤ l ∷ assumed_of s)
      why i below at_i None is = inl (subst (Contains (assumed_of s)) at_i (assumed_at lits s.trail.reasons sound.paired i below is))
      why i below at_i (Some r) is =
          let reason = sound.forced i r below is in
          inr (refuted (neg_ℤ l ∷ assumed_of s) reason.0 (live_has s.clauses r reason.0 reason.1) i (omega arith)
          (λ acc front started k h. ⊎_elim (λ same. started (neg_ℤ k) (subst (λ m. Contains (neg_ℤ l ∷ assumed_of s) (neg_ℤ m)) (sym (same ∙ at_i)) (contains_here (neg_ℤ l) (assumed_of s)))) (λ f. front (neg_ℤ k) f) (reason.2.1 k h))
          (λ k h. contains_there (neg_ℤ l) (assumed_of s) k h))

-- ---- where nothing is assumed

none_assumed : (lits : List ℤ) (rs : List (Option ℕ)) → ((i : ℕ) → i < length lits → reason_at rs i ≢ None) → assumed_in lits rs ≡ []
none_assumed [] rs free = refl
none_assumed (l ∷ lits) [] free = refl
none_assumed (l ∷ lits) (None ∷ rs) free = absurd (free 0 (omega arith) refl)
none_assumed (l ∷ lits) (Some r ∷ rs) free = none_assumed lits rs (λ i b. free (suc i) (omega arith))

pub free_assumes_none : (s : Standing) → HasNoAssumption s → assumed_of s ≡ []
free_assumes_none s free = none_assumed s.trail.literals s.trail.reasons free

pub alone_is_free : (s : Standing) → StandsAlone s → HasNoAssumption s
alone_is_free s alone i below none = let units = alone.1 in let u = alone.0.by_unit i (omega arith) in differ u.0 (sym u.1 ∙ none)
  where
    differ : (r : ℕ) → ◌≡◌ {A = Option ℕ} (Some r) None → ⊥
    differ r e = absurd cc

-- what is assumed after one assumption more
pub assumed_with : (lits : List ℤ) (rs : List (Option ℕ)) (l k : ℤ) → length rs ≡ length lits → Contains (assumed_in (lits ++ l ∷ []) (rs ++ None ∷ [])) k → Contains (assumed_in lits rs) k ⊎ (k ≡ l)
assumed_with [] [] l k even h = inr (one h)
  where
    one : Contains (l ∷ []) k → k ≡ l
    one c = ⊎_elim (λ e. sym e) (λ r. absurd (contains_nil k r)) (contains_cases l [] k c)
assumed_with [] (r ∷ rs) l k even h = absurd (omega arith)
assumed_with (m ∷ lits) [] l k even h = absurd (omega arith)
assumed_with (m ∷ lits) (None ∷ rs) l k even h =
    ⊎_elim (λ e. inl (subst (Contains (m ∷ assumed_in lits rs)) e (contains_here m (assumed_in lits rs))))
    (λ later. ⊎_elim (λ c. inl (contains_there m (assumed_in lits rs) k c)) inr (assumed_with lits rs l k (omega arith) later))
    (contains_cases m (assumed_in (lits ++ l ∷ []) (rs ++ None ∷ [])) k h)
assumed_with (m ∷ lits) (Some r ∷ rs) l k even h = assumed_with lits rs l k (omega arith) h
