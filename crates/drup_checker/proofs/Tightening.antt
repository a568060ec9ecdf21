-- A tight chain from the reasons of what stands, one literal after the other from the last one down.
use Rattle.std.specs.Prelude.{◌≡◌, ◌≢◌, ℕ, zero, suc, ◌+◌, ◌<◌, ◌≤◌, ◌⊎◌, Bool, true, false, List, [], ◌∷◌, ◌++◌, map, length, take, reverse, ℤ, pos, negsuc, neg_ℤ, nat_abs, slice_index_or, slice_set, IfOk, IsNone, IsSome, ◌↔◌}
use Rattle.std.specs.declared.option.Option.{Option}
use Rattle.std.specs.declared.result.Result.{Result}
use Rattle.std.specs.declared.result.Result.TheVariants.{Err, Ok}
use Rattle.std.specs.declared.option.Option.TheVariants.{None, Some}
use Rattle.std.specs.List.{All, Any, Contains}
use Rattle.std.proofs.Common.{refl, sym, ap, ap₂, subst, ◌∙◌, arith, inl, inr, ⊎_elim, replicate, true≢false}
use Rattle.std.proofs.lemmas.Bool.{cases_eq, cases_lt}
use Rattle.std.proofs.lemmas.List.{get_or-set_other, get_or-set_same, get_or-take, length-set, length-take-le, reverse-append, take_all}
use Rattle.std.proofs.lemmas.List.Elements.{All-cons, All-contains, All-nil, Contains-append_left, Contains-push, Contains-push_cases}
use Rattle.clause_core.specs.Clause.{Clause, IsClauseInRange, IsSubset}
use Rattle.clause_core.specs.UnitPropagation.{IsFalsified, IsRup, IsTautology, IsUnit}
use Rattle.clause_core.proofs.PropagationEnds.{rup_is_decided}
use Rattle.clause_core.proofs.CallerLemmas.{any_here, any_there, at, at_contained, below_suc, contains_here, contains_nil, contains_there}
use Rattle.clause_core.specs.TightChains.{IsTight}
use Rattle.unit_prop.specs.Standing.{IsConflict, IsReasonOf, IsSound, Propagates, Standing, assumed_in, assumed_of, clause_at, reason_at}
use Rattle.unit_prop.specs.Trail.{signed_variable}
use Rattle.unit_prop.proofs.Findings.{assumed_at, assumed_grown}
use Rattle.unit_prop.proofs.TrailSteps as steps
use Rattle.drup_checker.specs.Opposing.{Opposes}
use Rattle.drup_checker.specs.Tightness.{IsOpposedBefore, IsVariableSeen, Marks, clause_or_empty, clauses_at}
use Rattle.drup_checker.proofs.Words.{IsReached}
use Rattle.drup_checker.proofs.Opposed.{origin, tautology}

variable-abs : (l : ℤ) → nat_abs l ≡ signed_variable l
variable-abs (pos v) = refl
variable-abs (negsuc v) = refl

-- ---- marks

seen_after : (seen : List Bool) (w v : ℕ) → IsVariableSeen (slice_set seen w true) v → (v ≡ w) ⊎ IsVariableSeen seen v
seen_after seen w v e = ⊎_elim inl (λ n. inr (sym (get_or-set_other seen w v true false n) ∙ e)) (cases_eq v w)

seen_kept : (seen : List Bool) (w v : ℕ) → w < length seen → IsVariableSeen seen v → IsVariableSeen (slice_set seen w true) v
seen_kept seen w v b e = ⊎_elim (λ s. subst (λ x. IsVariableSeen (slice_set seen w true) x) (sym s) (get_or-set_same seen w true false b)) (λ n. get_or-set_other seen w v true false n ∙ e) (cases_eq v w)

pub marks_none : (seen : List Bool) → Marks [] seen seen
marks_none seen = record { places = refl; now = λ k has. absurd (contains_nil k has); still = λ v h. h; only = λ v h. inl h }

pub marks_more : (lits : List ℤ) (l : ℤ) (old mid : List Bool) → signed_variable l < length mid → Marks lits old mid → Marks (lits ++ l ∷ []) old (slice_set mid (signed_variable l) true)
marks_more lits l old mid room m = record {
  places = length-set mid (signed_variable l) true ∙ m.places;
  now = λ k has. ⊎_elim (λ h. seen_kept mid (signed_variable l) (signed_variable k) room (m.now k h)) (λ e. subst (λ x. IsVariableSeen (slice_set mid (signed_variable l) true) (signed_variable x)) e (get_or-set_same mid (signed_variable l) true false room)) (Contains-push_cases lits l k has);
  still = λ v h. seen_kept mid (signed_variable l) v room (m.still v h);
  only = λ v h. ⊎_elim (λ e. inr (l, last, sym e)) (λ k. ⊎_elim inl (λ o. inr (o.0, Contains-append_left lits (l ∷ []) o.0 o.1, o.2)) (m.only v k)) (seen_after mid (signed_variable l) v h);
}
  where
    last : Contains (lits ++ l ∷ []) l
    last = Contains-push lits l

unseen : (n v : ℕ) → IsVariableSeen (replicate n false) v → ⊥
unseen zero v e = true≢false (sym e)
unseen (suc n) zero e = true≢false (sym e)
unseen (suc n) (suc v) e = unseen n v e

-- ---- the trail

pub one_place : (s : Standing) → IsSound s → (i j : ℕ) → i < length s.trail.literals → j < length s.trail.literals → signed_variable (at s.trail.literals i) ≡ signed_variable (at s.trail.literals j) → i ≡ j
one_place s sound i j b c e =
    ⊎_elim (λ low. absurd (sound.apart i j low c e)) (λ high. ⊎_elim (λ same. same) (λ other. let low : j < i = omega arith in absurd (sound.apart j i low b (sym e))) (cases_eq i j)) (cases_lt i j)

front_at : (n : ℕ) (lits : List ℤ) (l : ℤ) → n ≤ length lits → Contains (take n lits) l → (j : ℕ) × (j < n) × (at lits j ≡ l)
front_at n lits l b has = let p = at_contained (take n lits) l has in let low : p.0 < n = omega (arith, p.1, length-take-le n lits b) in (p.0, low, sym (get_or-take n lits p.0 (pos 0) low) ∙ p.2)

tight_longer : (acc : List ℤ) (c : Clause) (l : ℤ) (chain : List Clause) → IsUnit acc c l → Any (λ e. Contains e (neg_ℤ l)) chain → IsTight (l ∷ acc) chain → IsTight acc (c ∷ chain)
tight_longer acc c l [] unit any h = absurd h
tight_longer acc c l (d ∷ ds) unit any h = (l, unit, any, h)

some_live : (clauses : List (Option Clause)) (r : ℕ) (c : Clause) → clause_at clauses r ≡ Some c → IsSome (clause_at clauses r)
some_live clauses r c e = subst IsSome (sym e) refl

module _ (s : Standing) (sound : IsSound s) (opposed : List ℤ) where
  abbrev lits : List ℤ
  lits = s.trail.literals

  -- a place of the trail whose literal is the negation of one of the same variable
  same_place : (j q : ℕ) (k : ℤ) → j < length lits → q < length lits → at lits q ≡ neg_ℤ k → signed_variable k ≡ signed_variable (at lits j) → neg_ℤ (at lits j) ≡ k
  same_place j q k b c is e =
      let same : q ≡ j = one_place s sound q j c b (ap signed_variable is ∙ steps.variable-neg k ∙ e) in
      ap neg_ℤ (sym (ap (at lits) same) ∙ is) ∙ steps.neg-neg k

  -- the last clause
  pub reached_first : (n size : ℕ) (none seen : List Bool) (r : ℕ) (c : Clause) → n ≤ length lits → clause_at s.clauses r ≡ Some c → IsOpposedBefore s n opposed c → none ≡ replicate size false → length none ≡ suc s.trail.greatest →
      Marks c none seen → IsReached s opposed seen (r ∷ []) n
  reached_first n size none seen r c within live opp nothing many m = record {
    size = m.places ∙ many;
    live = All-cons (λ q. IsSome (clause_at s.clauses q)) r [] (some_live s.clauses r c live) (All-nil (λ q. IsSome (clause_at s.clauses q)));
    tight = λ acc sub cover. subst (λ (d : Clause). IsFalsified acc d) (sym (ap clause_or_empty live)) (falsified acc sub cover);
    needed = λ j low b was. subst (λ (d : Clause). Any (λ e. Contains e (neg_ℤ (at lits j))) (d ∷ [])) (sym (ap clause_or_empty live))
        (any_here (λ e. Contains e (neg_ℤ (at lits j))) c [] (⊎_elim (λ old. absurd (unseen size (signed_variable (at lits j)) (subst (λ (xs : List Bool). IsVariableSeen xs (signed_variable (at lits j))) nothing old))) (λ o. found j low b o.0 o.1 o.2) (m.only (signed_variable (at lits j)) was)));
  }
    where
      falsified : (acc : List ℤ) → IsSubset opposed acc → ((j : ℕ) → j < n → IsVariableSeen seen (signed_variable (at lits j)) → Contains acc (at lits j)) → IsFalsified acc c
      falsified acc sub cover k has = ⊎_elim by_trail (λ o. sub (neg_ℤ k) o.0) (opp k has)
        where
          by_trail : Contains (take n lits) (neg_ℤ k) → Contains acc (neg_ℤ k)
          by_trail f =
              let q = front_at n lits (neg_ℤ k) within f in
              let size' : signed_variable (at lits q.0) ≡ signed_variable k = ap signed_variable q.2 ∙ steps.variable-neg k in
              subst (Contains acc) q.2 (cover q.0 q.1 (subst (IsVariableSeen seen) (sym size') (m.now k has)))

      found : (j : ℕ) → j < n → j < length lits → (k : ℤ) → Contains c k → signed_variable k ≡ signed_variable (at lits j) → Contains c (neg_ℤ (at lits j))
      found j low b k has e = ⊎_elim by_trail (λ o. absurd (o.1 j low (sym e))) (opp k has)
        where
          by_trail : Contains (take n lits) (neg_ℤ k) → Contains c (neg_ℤ (at lits j))
          by_trail f =
              let q = front_at n lits (neg_ℤ k) within f in
              subst (Contains c) (sym (same_place j q.0 k b (omega (arith, q.1)) q.2 e)) has

  module _ (seen : List Bool) (places : List ℕ) (i : ℕ) (h : IsReached s opposed seen places (i + 1)) (below : i < length lits) where
    -- a literal that nothing after it needs
    pub reached_unseen : slice_index_or seen (signed_variable (at lits i)) false ≡ false → IsReached s opposed seen places i
    reached_unseen not_seen = record {
      size = h.size;
      live = h.live;
      tight = λ acc sub cover. h.tight acc sub (λ j low was. ⊎_elim (λ k. cover j k was) (λ e. absurd (true≢false (sym was ∙ ap (λ (m : ℕ). slice_index_or seen (signed_variable (at lits m)) false) e ∙ not_seen))) (below_suc j i low));
      needed = λ j low b was. h.needed j (omega arith) b was;
    }

    -- a literal that was assumed
    pub reached_assumed : IsSubset (assumed_of s) opposed → reason_at s.trail.reasons i ≡ None → IsReached s opposed seen places i
    reached_assumed assumed none = record {
      size = h.size;
      live = h.live;
      tight = λ acc sub cover. h.tight acc sub (λ j low was. ⊎_elim (λ k. cover j k was) (λ e. subst (λ (m : ℕ). Contains acc (at lits m)) (sym e) (sub (at lits i) (assumed (at lits i) (assumed_at lits s.trail.reasons sound.paired i below none)))) (below_suc j i low));
      needed = λ j low b was. h.needed j (omega arith) b was;
    }

    module _ (new : List Bool) (r : ℕ) (c : Clause) (needs : IsVariableSeen seen (signed_variable (at lits i))) (reason : reason_at s.trail.reasons i ≡ Some r) (live : clause_at s.clauses r ≡ Some c) (m : Marks c seen new) where
      unit : IsUnit (take i lits) c (at lits i)
      unit =
          let why = sound.forced i r below reason in
          let same : why.0 ≡ c = let f : Some why.0 ≡ Some c = sym why.1 ∙ live in cc in
          subst (λ (d : Clause). IsUnit (take i lits) d (at lits i)) same why.2

      abbrev rest : List Clause
      rest = clauses_at s.clauses (reverse places)

      chain_is : clauses_at s.clauses (reverse (places ++ r ∷ [])) ≡ c ∷ rest
      chain_is = ap (clauses_at s.clauses) (reverse-append places (r ∷ [])) ∙ ap (λ (d : Clause). d ∷ rest) (ap clause_or_empty live)

      stands : (acc : List ℤ) → ((j : ℕ) → j < i → IsVariableSeen new (signed_variable (at lits j)) → Contains acc (at lits j)) → (k : ℤ) → Contains c k → Contains (take i lits) (neg_ℤ k) → Contains acc (neg_ℤ k)
      stands acc cover k has f =
          let q = front_at i lits (neg_ℤ k) (omega arith) f in
          let size' : signed_variable (at lits q.0) ≡ signed_variable k = ap signed_variable q.2 ∙ steps.variable-neg k in
          subst (Contains acc) q.2 (cover q.0 q.1 (subst (IsVariableSeen new) (sym size') (m.now k has)))

      tight : (acc : List ℤ) → IsSubset opposed acc → ((j : ℕ) → j < i → IsVariableSeen new (signed_variable (at lits j)) → Contains acc (at lits j)) → IsTight acc (c ∷ rest)
      tight acc sub cover = tight_longer acc c (at lits i) rest (unit.0, λ k has. ⊎_elim inl (λ n. inr (stands acc cover k has n)) (unit.1 k has)) (h.needed i (omega arith) below needs)
          (h.tight (at lits i ∷ acc) (λ l k. contains_there (at lits i) acc l (sub l k))
          (λ j low was. ⊎_elim (λ k. contains_there (at lits i) acc (at lits j) (cover j k (m.still (signed_variable (at lits j)) was))) (λ e. subst (λ (q : ℕ). Contains (at lits i ∷ acc) (at lits q)) (sym e) (contains_here (at lits i) acc)) (below_suc j i low)))

      needed : (j : ℕ) → j < i → j < length lits → IsVariableSeen new (signed_variable (at lits j)) → Any (λ e. Contains e (neg_ℤ (at lits j))) (c ∷ rest)
      needed j low b was = ⊎_elim (λ old. any_there (λ e. Contains e (neg_ℤ (at lits j))) c rest (h.needed j (omega arith) b old)) (λ o. any_here (λ e. Contains e (neg_ℤ (at lits j))) c rest (found o.0 o.1 o.2)) (m.only (signed_variable (at lits j)) was)
        where
          found : (k : ℤ) → Contains c k → signed_variable k ≡ signed_variable (at lits j) → Contains c (neg_ℤ (at lits j))
          found k has e = ⊎_elim (λ f. let same = one_place s sound i j below b (sym (ap signed_variable f) ∙ e) in absurd (omega arith)) by_trail (unit.1 k has)
            where
              by_trail : Contains (take i lits) (neg_ℤ k) → Contains c (neg_ℤ (at lits j))
              by_trail f =
                  let q = front_at i lits (neg_ℤ k) (omega arith) f in
                  subst (Contains c) (sym (same_place j q.0 k b (omega (arith, q.1)) q.2 e)) has

      -- a literal that a clause forced
      pub reached_forced : IsReached s opposed new (places ++ r ∷ []) i
      reached_forced = record {
        size = m.places ∙ h.size;
        live = subst (All (λ q. IsSome (clause_at s.clauses q))) (sym (reverse-append places (r ∷ []))) (All-cons (λ q. IsSome (clause_at s.clauses q)) r (reverse places) (some_live s.clauses r c live) h.live);
        tight = λ acc sub cover. subst (IsTight acc) (sym chain_is) (tight acc sub cover);
        needed = λ j low b was. subst (Any (λ e. Contains e (neg_ℤ (at lits j)))) (sym chain_is) (needed j low b was);
      }

-- ---- ranges

pub opposed_range : (s : Standing) (n : ℕ) (c d : Clause) → IsSound s → n ≤ length s.trail.literals → IsClauseInRange s.trail.greatest c → IsOpposedBefore s n (map neg_ℤ c) d → (k : ℤ) → Contains d k → signed_variable k < suc s.trail.greatest
opposed_range s n c d sound within range opp k has = ⊎_elim by_trail by_clause (opp k has)
  where
    by_trail : Contains (take n s.trail.literals) (neg_ℤ k) → signed_variable k < suc s.trail.greatest
    by_trail f =
        let q = front_at n s.trail.literals (neg_ℤ k) within f in
        let most = (sound.within q.0 (omega (arith, q.1))).1 in
        let same : signed_variable (at s.trail.literals q.0) ≡ signed_variable k = ap signed_variable q.2 ∙ steps.variable-neg k in
        omega arith

    by_clause : Contains (map neg_ℤ c) (neg_ℤ k) × ((j : ℕ) → j < n → signed_variable (at s.trail.literals j) ≢ signed_variable k) → signed_variable k < suc s.trail.greatest
    by_clause o =
        let x = origin c (neg_ℤ k) o.0 in
        let same : x.0 ≡ k = sym (steps.neg-neg x.0) ∙ (ap neg_ℤ x.2 ∙ steps.neg-neg k) in
        let most = (All-contains (λ l. (l ≢ pos 0) × (nat_abs l ≤ s.trail.greatest)) c x.0 range x.1).1 in
        let size : nat_abs x.0 ≡ signed_variable k = variable-abs x.0 ∙ ap signed_variable same in
        omega arith

pub reason_range : (s : Standing) (p r : ℕ) (c : Clause) → IsSound s → p < length s.trail.literals → reason_at s.trail.reasons p ≡ Some r → clause_at s.clauses r ≡ Some c → (k : ℤ) → Contains c k → signed_variable k < suc s.trail.greatest
reason_range s p r c sound b reason live k has =
    let why = sound.forced p r b reason in
    let same : why.0 ≡ c = let f : Some why.0 ≡ Some c = sym why.1 ∙ live in cc in
    let unit = subst (λ (d : Clause). IsUnit (take p s.trail.literals) d (at s.trail.literals p)) same why.2 in
    ⊎_elim (λ e. let most = (sound.within p b).1 in let size = ap signed_variable e in omega arith) by_trail (unit.1 k has)
  where
    by_trail : Contains (take p s.trail.literals) (neg_ℤ k) → signed_variable k < suc s.trail.greatest
    by_trail f =
        let q = front_at p s.trail.literals (neg_ℤ k) (omega arith) f in
        let most = (sound.within q.0 (omega (arith, q.1))).1 in
        let size : signed_variable (at s.trail.literals q.0) ≡ signed_variable k = ap signed_variable q.2 ∙ steps.variable-neg k in
        omega arith

-- ---- the ends

-- where a literal of the clause stands by assumption, the clause has its negation
pub met_assumed : (s : Standing) (c : Clause) (l : ℤ) → IsSound s → IsSubset (assumed_of s) (map neg_ℤ c) → l ≢ pos 0 → Contains c l → Contains s.trail.literals l → IsReasonOf s.trail (signed_variable l) None → IsTautology c
met_assumed s c l sound assumed sign has stands why =
    let p = at_contained s.trail.literals l stands in
    let was = subst (Contains (assumed_of s)) p.2 (assumed_at s.trail.literals s.trail.reasons sound.paired p.0 p.1 (why p.0 p.1 (ap signed_variable p.2))) in
    let o = origin c l (assumed l was) in
    tautology c l sign has (subst (Contains c) (sym (steps.neg-neg o.0) ∙ ap neg_ℤ o.2) o.1)

pub reason_place : (s : Standing) (p r : ℕ) → IsSound s → p < length s.trail.literals → IsReasonOf s.trail (signed_variable (at s.trail.literals p)) (Some r) → reason_at s.trail.reasons p ≡ Some r
reason_place s p r h b is = ap (reason_at s.trail.reasons) (sym (one_place s h is.0 p is.1 b is.2)) ∙ is.3

-- the literals of a clause that forced one are opposed: by those before it, and it by what is opposed
pub opposed_reason : (s : Standing) (opposed : List ℤ) (p r : ℕ) (c : Clause) → IsSound s → p < length s.trail.literals → reason_at s.trail.reasons p ≡ Some r → clause_at s.clauses r ≡ Some c →
    Contains opposed (neg_ℤ (at s.trail.literals p)) → IsOpposedBefore s p opposed c
opposed_reason s opposed p r c sound b reason live has k in' =
    let why = sound.forced p r b reason in
    let same : why.0 ≡ c = let f : Some why.0 ≡ Some c = sym why.1 ∙ live in cc in
    let unit = subst (λ (d : Clause). IsUnit (take p s.trail.literals) d (at s.trail.literals p)) same why.2 in
    ⊎_elim
    (λ e. inr (subst (λ (x : ℤ). Contains opposed (neg_ℤ x)) (sym e) has, λ j low f. let q = one_place s sound j p (omega arith) b (f ∙ ap signed_variable e) in absurd (omega arith)))
    inl (unit.1 k in')

-- those of a conflict by what stands
pub opposed_conflict : (s : Standing) (opposed : List ℤ) (n r : ℕ) (c : Clause) → n ≡ length s.trail.literals → IsConflict s r → clause_at s.clauses r ≡ Some c → IsOpposedBefore s n opposed c
opposed_conflict s opposed n r c all conflict live k has =
    let same : conflict.0 ≡ c = let f : Some conflict.0 ≡ Some c = sym conflict.1 ∙ live in cc in
    inl (subst (λ (xs : List ℤ). Contains xs (neg_ℤ k)) (sym (take_all n s.trail.literals (omega arith))) (subst (IsFalsified s.trail.literals) same conflict.2 k has))

pub assumed_then : (old now next : Standing) (c : Clause) → Opposes old now c → IsSound now → Propagates now next → IsSubset (assumed_of next) (map neg_ℤ c)
assumed_then old now next c h sound p l has =
    let same : assumed_of next ≡ assumed_of now = ap₂ assumed_in p.trail p.reasons ∙ assumed_grown now.trail.literals now.trail.reasons p.literals p.causes sound.paired in
    h.assumed l (subst (λ (xs : List ℤ). Contains xs l) same has)

-- ---- whether a clause follows

pub decided_follows : (live : List Clause) (c : Clause) → ¬ (¬ (IsRup live c)) → IsRup live c
decided_follows live c n = ⊎_elim (λ r. r) (λ no'. absurd (n no')) (rup_is_decided live c)

pub follows_where : {X E : Type 0} (live : List Clause) (c : Clause) (r : Result (Option X) E) → IfOk r (λ o. IsNone o ↔ ¬ (IsRup live c)) → IfOk r (λ o. IsSome o ↔ IsRup live c)
follows_where live c (Ok None) h = (λ s. absurd (cc), λ r. absurd (h.0 refl r))
follows_where live c (Ok (Some x)) h = (λ s. decided_follows live c (λ n. let f = h.1 n in absurd (cc)), λ r. refl)
follows_where live c (Err e) h = tt
