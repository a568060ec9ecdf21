-- The analysis of a conflict.
use Rattle.std.specs.Prelude.{◌≡◌, ℕ, zero, suc, ◌+◌, ◌<◌, ◌≤◌, ◌⊎◌, min, Bool, true, false, List, [], ◌∷◌, ◌++◌, map, length, take, ℤ, pos, neg_ℤ, slice_index_or}
use Rattle.std.specs.declared.option.Option.{Option}
use Rattle.std.specs.declared.option.Option.TheVariants.{Some}
use Rattle.std.specs.List.{All, Contains}
use Rattle.std.proofs.Common.{refl, sym, ap, subst, ◌∙◌, arith, inl, inr, ⊎_elim, set, replicate, true≢false, rules}
use Rattle.std.specs.Option.{IsSome}
use Rattle.std.proofs.Math.ListN.{length-set}
use Rattle.std.proofs.lemmas.Bool.{cases_lt, cases_eq, cases_Bool}
use Rattle.std.proofs.lemmas.List.{get_or-set_other, get_or-set_same, get_or-take, length-take-le}
use Rattle.std.proofs.lemmas.List.Elements.{Contains-append_left, Contains-push, Contains-push_cases}
use Rattle.clause_core.specs.Clause.{Clause}
use Rattle.clause_core.specs.UnitPropagation.{IsFalsified, IsRefuted, IsUnit}
use Rattle.clause_core.proofs.Decided.{contains_here, contains_there, contains_nil}
use Rattle.clause_core.proofs.Places.{below_suc, contains_at, at_contained, same_at}
use Rattle.unit_prop.specs.Standing.{IsReasonOf, at, reason_at}
use Rattle.cdcl_solver.proofs.Trails.{false_range, trail_of, IsTrail}
use Rattle.unit_prop.specs.Standing.{Standing, live_of, clause_at, IsConflict, IsSound}
use Rattle.cdcl_solver.proofs.Trails.{neg-neg, variable-neg}
use Rattle.cdcl_solver.proofs.Trails.{one_place}
use Rattle.cdcl_solver.proofs.Standings.{refuted_now, refuted_before, live_has}
use Rattle.cdcl_solver.specs.Search.{IsConflictAt}
use Rattle.cdcl_solver.specs.Analyses.{AnalysisView, IsSeen, IsAnalysis, IsLate, Sees, SeesEarly, SeesLate, SeesAll, IsFalseOrSeen, Refutes, IsResolved, AreNeeded, Follows, HasStanding, IsLemmaOf, place_of}
use Rattle.cdcl_solver.proofs.SearchLemmas.{IsLearnt, map_neg_has}
use Rattle.cdcl_solver.proofs.Stamps.{length-none, unmarked}
use Rattle.cdcl_solver.specs.Marks.{none_marked}
use Rattle.unit_prop.specs.Trail.{signed_variable}

-- what is seen in a list of flags with one more
pub seen_after : (seen : List Bool) (w v : ℕ) → slice_index_or (set seen w true) v false ≡ true → (v ≡ w) ⊎ (slice_index_or seen v false ≡ true)
seen_after seen w v e = ⊎_elim inl (λ n. inr (sym (get_or-set_other seen w v true false n) ∙ e)) (cases_eq v w)

seen_kept : (seen : List Bool) (w v : ℕ) → w < length seen → slice_index_or seen v false ≡ true → slice_index_or (set seen w true) v false ≡ true
seen_kept seen w v b e = ⊎_elim (λ s. subst (λ x. slice_index_or (set seen w true) x false ≡ true) (sym s) (get_or-set_same seen w true false b)) (λ n. get_or-set_other seen w v true false n ∙ e) (cases_eq v w)

at_front : (n : ℕ) (lits : List ℤ) (j : ℕ) → n ≤ length lits → j < n → Contains (take n lits) (at lits j)
at_front n lits j b low = subst (Contains (take n lits)) (get_or-take n lits j (pos 0) low) (contains_at (take n lits) j (omega (arith, length-take-le n lits b)))

front_at : (n : ℕ) (lits : List ℤ) (l : ℤ) → n ≤ length lits → Contains (take n lits) l → (j : ℕ) × (j < n) × (at lits j ≡ l)
front_at n lits l b has = let p = at_contained (take n lits) l has in let low : p.0 < n = omega (arith, p.1, length-take-le n lits b) in (p.0, low, sym (get_or-take n lits p.0 (pos 0) low) ∙ p.2)

-- one literal that is false is seen
module _ (s : Standing) (h : IsSound s) (a : AnalysisView) (an : IsAnalysis s a) (l : ℤ) (range : signed_variable l ≤ s.trail.greatest) (false' : Contains s.trail.literals (neg_ℤ l)) where
  place : (q : ℕ) × (q < length s.trail.literals) × (at s.trail.literals q ≡ neg_ℤ l)
  place = at_contained s.trail.literals (neg_ℤ l) false'

  size : signed_variable (at s.trail.literals place.0) ≡ signed_variable l
  size = ap signed_variable place.2 ∙ variable-neg l

  room : signed_variable l < length a.seen
  room = omega (arith, an.sizes.0)

  -- the trail has the variable at one place
  only : (j : ℕ) → j < length s.trail.literals → signed_variable (at s.trail.literals j) ≡ signed_variable l → j ≡ place.0
  only j b e = one_place s.trail (trail_of s h) j place.0 b place.1 (e ∙ sym size)

  early : (IsLate s.trail.literals a l → ⊥) → place.0 < a.level
  early e = ⊎_elim (λ k. k) (λ k. let f : place_of a l ≡ place.0 = ap (λ v. slice_index_or a.places v 0) (sym size) ∙ an.here place.0 k place.1 in
      absurd (e (omega (arith, f, k), (omega (arith, f, place.1), subst (λ p. signed_variable (at s.trail.literals p) ≡ signed_variable l) (sym f) size)))) (cases_lt place.0 a.level)

  by_early : (IsLate s.trail.literals a l → ⊥) → IsAnalysis s (record { level = a.level; seen = set a.seen (signed_variable l) true; places = a.places; lits = a.lits ++ l ∷ []; lowest = a.lowest })
  by_early e = record {
    sizes = (length-set a.seen (signed_variable l) true ∙ an.sizes.0, an.sizes.1);
    here = an.here;
    from = λ k has. ⊎_elim (an.from k) (λ f. subst (λ x. Contains (take a.level s.trail.literals) (neg_ℤ x)) f (subst (Contains (take a.level s.trail.literals)) place.2 (at_front a.level s.trail.literals place.0 an.low.1 (early e)))) (Contains-push_cases a.lits l k has);
    all = λ j low seen. ⊎_elim (λ f. let q = only j (omega (arith, an.low.1)) f in subst (Contains (a.lits ++ l ∷ [])) (sym (ap neg_ℤ (ap (at s.trail.literals) q ∙ place.2) ∙ neg-neg l)) (Contains-push a.lits l))
        (λ f. Contains-append_left a.lits (l ∷ []) (neg_ℤ (at s.trail.literals j)) (an.all j low f)) (seen_after a.seen (signed_variable l) (signed_variable (at s.trail.literals j)) seen);
    low = an.low;
    bound = λ j high b seen. ⊎_elim (λ f. absurd (omega (arith, only j b f, early e))) (an.bound j high b) (seen_after a.seen (signed_variable l) (signed_variable (at s.trail.literals j)) seen);
    lowest = λ b. seen_kept a.seen (signed_variable l) (signed_variable (at s.trail.literals a.lowest)) room (an.lowest b);
  }

  by_late : IsLate s.trail.literals a l → IsAnalysis s (record { level = a.level; seen = set a.seen (signed_variable l) true; places = a.places; lits = a.lits; lowest = min a.lowest (place_of a l) })
  by_late late = record {
    sizes = (length-set a.seen (signed_variable l) true ∙ an.sizes.0, an.sizes.1);
    here = an.here;
    from = an.from;
    all = λ j low seen. ⊎_elim (λ f. absurd (omega (arith, only j (omega (arith, an.low.1)) f, one, back.0))) (an.all j low) (seen_after a.seen (signed_variable l) (signed_variable (at s.trail.literals j)) seen);
    low = (omega (arith, an.low.0, back.0), an.low.1);
    bound = λ j high b seen. ⊎_elim (λ f. omega (arith, only j b f, one)) (λ f. omega (arith, an.bound j high b f)) (seen_after a.seen (signed_variable l) (signed_variable (at s.trail.literals j)) seen);
    lowest = λ b. ⊎_elim (λ k. subst IsSeenAfter (sym (smaller k)) (seen_kept a.seen (signed_variable l) (signed_variable (at s.trail.literals a.lowest)) room (an.lowest (omega (arith, back.1))))) (λ k. subst IsSeenAfter (sym (greater k)) (subst (λ v. slice_index_or (set a.seen (signed_variable l) true) v false ≡ true) (sym back.2) (get_or-set_same a.seen (signed_variable l) true false room))) (cases_lt a.lowest p);
  }
    where
      p : ℕ
      p = place_of a l

      back : (a.level ≤ p) × (p < length s.trail.literals) × (signed_variable (at s.trail.literals p) ≡ signed_variable l)
      back = (late.0, late.1.0, late.1.1)

      one : p ≡ place.0
      one = only p back.1 back.2

      IsSeenAfter : ℕ → Type 0
      IsSeenAfter n = slice_index_or (set a.seen (signed_variable l) true) (signed_variable (at s.trail.literals n)) false ≡ true

      smaller : a.lowest < p → min a.lowest p ≡ a.lowest
      smaller k = omega arith

      greater : p ≤ a.lowest → min a.lowest p ≡ p
      greater k = omega arith

seen_room : (seen : List Bool) (v : ℕ) → slice_index_or seen v false ≡ true → v < length seen
seen_room [] v e = absurd (true≢false (sym e))
seen_room (x ∷ seen) zero e = omega arith
seen_room (x ∷ seen) (suc v) e = let b = seen_room seen v e in omega arith

-- a literal that is false, or was seen, is over the variables
pub told_range : (s : Standing) (a : AnalysisView) (l : ℤ) → IsSound s → IsAnalysis s a → Contains s.trail.literals (neg_ℤ l) ⊎ IsSeen a (signed_variable l) → signed_variable l ≤ s.trail.greatest
told_range s a l h an (inl f) = (false_range s l h f).1
told_range s a l h an (inr seen) = omega (arith, seen_room a.seen (signed_variable l) seen, an.sizes.0)

-- what seeing one literal leaves
pub record SeesOne (s : Standing) (old new : AnalysisView) (l : ℤ) : Type 0 where
  pub analysis : IsAnalysis s new
  pub level : new.level ≡ old.level
  pub less : new.lowest ≤ old.lowest
  pub kept : (v : ℕ) → IsSeen old v → IsSeen new v
  pub seen : IsSeen new (signed_variable l)

pub sees_one : (s : Standing) (a new : AnalysisView) (l : ℤ) → IsSound s → IsAnalysis s a → signed_variable l ≤ s.trail.greatest → Contains s.trail.literals (neg_ℤ l) ⊎ IsSeen a (signed_variable l) → Sees s.trail.literals a new l → SeesOne s a new l
sees_one s a new l h an range told (inl e) = subst (λ (b : AnalysisView). SeesOne s a b l) (sym e.1) (record { analysis = an; level = refl; less = omega arith; kept = λ v k. k; seen = e.0 })
sees_one s a new l h an range (inr seen) (inr e) = absurd (true≢false (sym seen ∙ e.0))
sees_one s a new l h an range (inl false') (inr e) = ⊎_elim by_late_one by_early_one e.1
  where
    room : signed_variable l < length a.seen
    room = omega (arith, an.sizes.0)

    by_early_one : SeesEarly s.trail.literals a new l → SeesOne s a new l
    by_early_one f = subst (λ (b : AnalysisView). SeesOne s a b l) (sym f.1) (record {
      analysis = by_early s h a an l range false' f.0;
      level = refl;
      less = omega arith;
      kept = λ v k. seen_kept a.seen (signed_variable l) v room k;
      seen = get_or-set_same a.seen (signed_variable l) true false room;
    })

    by_late_one : SeesLate s.trail.literals a new l → SeesOne s a new l
    by_late_one f = subst (λ (b : AnalysisView). SeesOne s a b l) (sym f.1) (record {
      analysis = by_late s h a an l range false' f.0;
      level = refl;
      less = omega arith;
      kept = λ v k. seen_kept a.seen (signed_variable l) v room k;
      seen = get_or-set_same a.seen (signed_variable l) true false room;
    })

pub sees_none : (a : AnalysisView) (c : Clause) → SeesAll a a c 0
sees_none a c = record { level = refl; less = omega arith; kept = λ v k. k; seen = λ j b. absurd (omega arith) }

pub sees_more : (s : Standing) (old mid new : AnalysisView) (c : Clause) (n : ℕ) → SeesAll old mid c n → SeesOne s mid new (at c n) → SeesAll old new c (n + 1)
sees_more s old mid new c n h one = record {
  level = one.level ∙ h.level;
  less = omega (arith, one.less, h.less);
  kept = λ v k. one.kept v (h.kept v k);
  seen = λ j b. ⊎_elim (λ k. one.kept (signed_variable (at c j)) (h.seen j k)) (λ e. subst (λ i. IsSeen new (signed_variable (at c i))) (sym e) one.seen) (below_suc j n b);
}

-- ---- the places of the last level
pub record ArePlacesBelow (s : Standing) (level n : ℕ) (places : List ℕ) : Type 0 where
  pub size : length places ≡ suc s.trail.greatest
  pub here : (j : ℕ) → level ≤ j → j < n → slice_index_or places (signed_variable (at s.trail.literals j)) 0 ≡ j

pub unseen : (n v : ℕ) → slice_index_or (replicate n false) v false ≡ false
unseen zero v = refl
unseen (suc n) zero = refl
unseen (suc n) (suc v) = unseen n v

pub places_begin : (s : Standing) (level : ℕ) (places : List ℕ) → length places ≡ suc s.trail.greatest → ArePlacesBelow s level level places
places_begin s level places size = record {
  size = size;
  here = λ j a b. absurd (omega arith);
}

pub places_more : (s : Standing) (level n : ℕ) (places : List ℕ) → IsSound s → level ≤ n → n < length s.trail.literals → ArePlacesBelow s level n places → ArePlacesBelow s level (n + 1) (set places (signed_variable (at s.trail.literals n)) n)
places_more s level n places h low b a = record {
  size = length-set places (signed_variable (at s.trail.literals n)) n ∙ a.size;
  here = λ j high k. ⊎_elim (λ m. get_or-set_other places (signed_variable (at s.trail.literals n)) (signed_variable (at s.trail.literals j)) n 0 (λ e. let q = one_place s.trail (trail_of s h) j n (omega arith) b e in omega arith) ∙ a.here j high m)
      (λ e. ap (λ i. slice_index_or (set places (signed_variable (at s.trail.literals n)) n) (signed_variable (at s.trail.literals i)) 0) e ∙ get_or-set_same places (signed_variable (at s.trail.literals n)) n 0 room ∙ sym e) (below_suc j n k);
}
  where
    room : signed_variable (at s.trail.literals n) < length places
    room = omega (arith, a.size, ((trail_of s h).in_range n b).1)

-- an analysis that has seen nothing
pub analysis_begins : (s : Standing) (level n size : ℕ) (seen : List Bool) (places : List ℕ) → level ≤ length s.trail.literals → length s.trail.literals ≤ n → n ≤ length s.trail.literals → size ≡ suc s.trail.greatest → seen ≡ none_marked size → ArePlacesBelow s level n places →
    IsAnalysis s (record { level = level; seen = seen; places = places; lits = []; lowest = length s.trail.literals })
analysis_begins s level n size seen places low up down is none a = record {
  sizes = (ap length none ∙ length-none size ∙ is, a.size);
  here = λ j high b. a.here j high (omega arith);
  from = λ k has. absurd (contains_nil k has);
  all = λ j k e. absurd (true≢false (sym e ∙ nothing (signed_variable (at s.trail.literals j))));
  low = (low, low);
  bound = λ j high b e. absurd (true≢false (sym e ∙ nothing (signed_variable (at s.trail.literals j))));
  lowest = λ b. absurd (omega arith);
}
  where
    nothing : (v : ℕ) → slice_index_or seen v false ≡ false
    nothing v = ap (λ (xs : List Bool). slice_index_or xs v false) none ∙ unmarked size v

-- ---- resolving
-- a conflict refutes what was seen of its clause
pub refutes_conflict : (s : Standing) (a : AnalysisView) (r : ℕ) (c : Clause) → clause_at s.clauses r ≡ Some c → IsFalsified s.trail.literals c → ((j : ℕ) → j < length c → IsSeen a (signed_variable (at c j))) → Refutes s a (length s.trail.literals)
refutes_conflict s a r c e f seen standing cover = refuted_now (live_of s.clauses) standing c (live_has s.clauses r c e) (λ k has.
    let q = at_contained s.trail.literals (neg_ℤ k) (f k has) in
    let m = at_contained c k has in
    let size : signed_variable (at s.trail.literals q.0) ≡ signed_variable (at c m.0) = ap signed_variable q.2 ∙ variable-neg k ∙ sym (ap signed_variable m.2) in
    subst (Contains standing) q.2 (cover q.0 q.1 (subst (IsSeen a) (sym size) (seen m.0 m.1))))

-- some literal of a conflict came at the last level
pub conflict_inside : (s : Standing) (a : AnalysisView) (r level : ℕ) (c : Clause) → IsConflictAt s r level → a.level ≡ level → IsAnalysis s a → clause_at s.clauses r ≡ Some c → IsFalsified s.trail.literals c → ((j : ℕ) → j < length c → IsSeen a (signed_variable (at c j))) → a.lowest < length s.trail.literals
conflict_inside s a r level c at' same an e f seen = ⊎_elim (λ k. k) (λ k. absurd (at'.settled.no_conflict c (live_has s.clauses r c e) (early k))) (cases_lt a.lowest (length s.trail.literals))
  where
    early : length s.trail.literals ≤ a.lowest → IsFalsified (take level s.trail.literals) c
    early high k has =
        let q = at_contained s.trail.literals (neg_ℤ k) (f k has) in
        let m = at_contained c k has in
        let size : signed_variable (at s.trail.literals q.0) ≡ signed_variable (at c m.0) = ap signed_variable q.2 ∙ variable-neg k ∙ sym (ap signed_variable m.2) in
        let was = subst (IsSeen a) (sym size) (seen m.0 m.1) in
        ⊎_elim (λ low. subst (Contains (take level s.trail.literals)) q.2 (at_front level s.trail.literals q.0 (omega (arith, at'.below)) (omega (arith, same))))
        (λ late. let one : a.lowest ≤ q.0 = an.bound q.0 late q.1 was in let two : q.0 < length s.trail.literals = q.1 in absurd (omega arith)) (cases_lt q.0 a.level)

-- what wasn't seen at a place isn't needed there
pub refutes_unseen : (s : Standing) (a : AnalysisView) (i : ℕ) → slice_index_or a.seen (signed_variable (at s.trail.literals i)) false ≡ false → Refutes s a (i + 1) → Refutes s a i
refutes_unseen s a i not_seen h standing cover = h standing (λ j b seen. ⊎_elim (λ k. cover j k seen) (λ e. absurd (true≢false (sym seen ∙ ap (λ m. slice_index_or a.seen (signed_variable (at s.trail.literals m)) false) e ∙ not_seen))) (below_suc j i b))

-- what a reason forced at a place isn't needed, where all its variables were seen
reason_refutes : (s : Standing) (a : AnalysisView) (i r : ℕ) (c : Clause) (standing : List ℤ) → IsSound s → i < length s.trail.literals → reason_at s.trail.reasons i ≡ Some r → clause_at s.clauses r ≡ Some c → ((j : ℕ) → j < length c → IsSeen a (signed_variable (at c j)))
    → ((j : ℕ) → j < i → IsSeen a (signed_variable (at s.trail.literals j)) → Contains standing (at s.trail.literals j)) → IsRefuted (live_of s.clauses) (at s.trail.literals i ∷ standing) → IsRefuted (live_of s.clauses) standing
reason_refutes s a i r c standing h b reason e sees cover more =
    let why = h.forced i r b reason in
    let same : why.0 ≡ c = let f : Some why.0 ≡ Some c = sym why.1 ∙ e in cc in
    let unit = subst (λ (d : Clause). IsUnit (take i s.trail.literals) d (at s.trail.literals i)) same why.2 in
    refuted_before (live_of s.clauses) standing c (at s.trail.literals i) (live_has s.clauses r c e) (unit.0, λ k has. ⊎_elim inl (λ n. inr (stands unit k has n)) (unit.1 k has)) more
  where
    stands : IsUnit (take i s.trail.literals) c (at s.trail.literals i) → (k : ℤ) → Contains c k → Contains (take i s.trail.literals) (neg_ℤ k) → Contains standing (neg_ℤ k)
    stands unit k has n =
        let q = front_at i s.trail.literals (neg_ℤ k) (omega arith) n in
        let m = at_contained c k has in
        let size : signed_variable (at s.trail.literals q.0) ≡ signed_variable (at c m.0) = ap signed_variable q.2 ∙ variable-neg k ∙ sym (ap signed_variable m.2) in
        subst (Contains standing) q.2 (cover q.0 q.1 (subst (IsSeen a) (sym size) (sees m.0 m.1)))

-- what was seen at a place is resolved with its reason, once the reason's literals were seen
pub refutes_resolved : (s : Standing) (old new : AnalysisView) (i r : ℕ) (c : Clause) → IsSound s → i < length s.trail.literals → reason_at s.trail.reasons i ≡ Some r → clause_at s.clauses r ≡ Some c → SeesAll old new c (length c) → Refutes s old (i + 1) → Refutes s new i
refutes_resolved s old new i r c h b reason e sees more standing cover = reason_refutes s new i r c standing h b reason e sees.seen cover
    (more (at s.trail.literals i ∷ standing) (λ j k seen. ⊎_elim (λ low. contains_there (at s.trail.literals i) standing (at s.trail.literals j) (cover j low (sees.kept (signed_variable (at s.trail.literals j)) seen)))
    (λ f. subst (λ m. Contains (at s.trail.literals i ∷ standing) (at s.trail.literals m)) (sym f) (contains_here (at s.trail.literals i) standing)) (below_suc j i k)))

-- the literals of a reason are false, or the one that it forced was seen
pub reason_told_false : (s : Standing) (a : AnalysisView) (i r : ℕ) → IsSound s → i < length s.trail.literals → reason_at s.trail.reasons i ≡ Some r → IsSeen a (signed_variable (at s.trail.literals i)) → IsFalseOrSeen s a r
reason_told_false s a i r h b reason seen c e k has =
    let why = h.forced i r b reason in
    let same : why.0 ≡ c = let f : Some why.0 ≡ Some c = sym why.1 ∙ e in cc in
    let unit = subst (λ (d : Clause). IsUnit (take i s.trail.literals) d (at s.trail.literals i)) same why.2 in
    ⊎_elim (λ f. inr (subst (λ x. IsSeen a (signed_variable x)) (sym f) seen))
    (λ n. let q = front_at i s.trail.literals (neg_ℤ k) (omega arith) n in inl (subst (Contains s.trail.literals) q.2 (contains_at s.trail.literals q.0 (omega (arith, q.1))))) (unit.1 k has)

pub reason_place : (s : Standing) (p r : ℕ) → IsSound s → p < length s.trail.literals → IsReasonOf s.trail (signed_variable (at s.trail.literals p)) (Some r) → reason_at s.trail.reasons p ≡ Some r
reason_place s p r h b is = ap (reason_at s.trail.reasons) (sym (one_place s.trail (trail_of s h) is.0 p is.1 b is.2)) ∙ is.3

-- the variables of a clause that forced a literal stand
pub reason_stands : (s : Standing) (i r : ℕ) → IsSound s → i < length s.trail.literals → reason_at s.trail.reasons i ≡ Some r → HasStanding s r
reason_stands s i r h b reason c e k has =
    let why = h.forced i r b reason in
    let same : why.0 ≡ c = let f : Some why.0 ≡ Some c = sym why.1 ∙ e in cc in
    let unit = subst (λ (d : Clause). IsUnit (take i s.trail.literals) d (at s.trail.literals i)) same why.2 in
    ⊎_elim (λ f. (i, (b, sym (ap signed_variable f))))
    (λ n. let q = front_at i s.trail.literals (neg_ℤ k) (omega arith) n in (q.0, (omega (arith, q.1), ap signed_variable q.2 ∙ variable-neg k))) (unit.1 k has)

-- the variable of a literal of the lemma stands before the last level
pub early_false : (s : Standing) (a : AnalysisView) (l : ℤ) → IsAnalysis s a → Contains a.lits l → Contains s.trail.literals (neg_ℤ l)
early_false s a l an has = let q = front_at a.level s.trail.literals (neg_ℤ l) an.low.1 (an.from l has) in subst (Contains s.trail.literals) q.2 (contains_at s.trail.literals q.0 (omega (arith, q.1, an.low.1)))

-- those that are needed of the first n literals
pub record AreNeededOf (s : Standing) (a : AnalysisView) (lits : List ℤ) (n : ℕ) (needed : List ℤ) : Type 0 where
  pub within : (k : ℤ) → Contains needed k → Contains lits k
  pub rest : (j : ℕ) → j < n → Contains needed (at lits j) ⊎ Follows s a (at lits j)

pub needed_none : (s : Standing) (a : AnalysisView) (lits : List ℤ) → AreNeededOf s a lits 0 []
needed_none s a lits = record { within = λ k has. absurd (contains_nil k has); rest = λ j b. absurd (omega (arith, b)) }

pub needed_more : (s : Standing) (a : AnalysisView) (lits : List ℤ) (n : ℕ) (needed : List ℤ) → n < length lits → AreNeededOf s a lits n needed → AreNeededOf s a lits (n + 1) (needed ++ at lits n ∷ [])
needed_more s a lits n needed b h = record {
  within = λ k has. ⊎_elim (h.within k) (λ e. subst (Contains lits) e (contains_at lits n b)) (Contains-push_cases needed (at lits n) k has);
  rest = λ j k. ⊎_elim (λ low. ⊎_elim (λ has. inl (Contains-append_left needed (at lits n ∷ []) (at lits j) has)) inr (h.rest j low))
      (λ e. inl (subst (λ m. Contains (needed ++ at lits n ∷ []) (at lits m)) (sym e) (Contains-push needed (at lits n)))) (below_suc j n k);
}

pub needed_but_one : (s : Standing) (a : AnalysisView) (lits : List ℤ) (n : ℕ) (needed : List ℤ) → Follows s a (at lits n) → AreNeededOf s a lits n needed → AreNeededOf s a lits (n + 1) needed
needed_but_one s a lits n needed follows h = record {
  within = h.within;
  rest = λ j k. ⊎_elim (h.rest j) (λ e. inr (subst (λ m. Follows s a (at lits m)) (sym e) follows)) (below_suc j n k);
}

pub needed_all : (s : Standing) (a : AnalysisView) (n : ℕ) (needed : List ℤ) → length a.lits ≤ n → AreNeededOf s a a.lits n needed → AreNeeded s a needed
needed_all s a n needed b h = record {
  within = h.within;
  rest = λ k has. let p = at_contained a.lits k has in ⊎_elim (λ m. inl (subst (Contains needed) p.2 m)) (λ f. inr (subst (Follows s a) p.2 f)) (h.rest p.0 (omega (arith, p.1, b)));
}

-- ---- the lemma
-- What was seen up to the lowest place refutes, and so does what was seen below a place together with what the lemma has of the rest.
module _ (s : Standing) (h : IsSound s) (a : AnalysisView) (resolved : IsResolved s a) (needed : List ℤ) (are : AreNeeded s a needed) where
  abbrev pub lemma : List ℤ
  lemma = needed ++ neg_ℤ (at s.trail.literals a.lowest) ∷ []

  abbrev RefutesUpTo : ℕ → Type 0
  RefutesUpTo n = (standing : List ℤ) → ((j : ℕ) → j < n → IsSeen a (signed_variable (at s.trail.literals j)) → Contains standing (at s.trail.literals j))
      → ((j : ℕ) → Contains lemma (neg_ℤ (at s.trail.literals j)) → Contains standing (at s.trail.literals j)) → IsRefuted (live_of s.clauses) standing

  -- what was seen at a place is in the lemma, or follows
  in_lemma : (j : ℕ) → j < suc a.lowest → IsSeen a (signed_variable (at s.trail.literals j)) → Contains lemma (neg_ℤ (at s.trail.literals j)) ⊎ Follows s a (neg_ℤ (at s.trail.literals j))
  in_lemma j b seen = ⊎_elim
      (λ low. ⊎_elim (λ has. inl (Contains-append_left needed (neg_ℤ (at s.trail.literals a.lowest) ∷ []) (neg_ℤ (at s.trail.literals j)) has)) inr (are.rest (neg_ℤ (at s.trail.literals j)) (resolved.analysis.all j low seen)))
      (λ high. let one : a.lowest ≤ j = resolved.analysis.bound j high (omega (arith, resolved.inside)) seen in let same : a.lowest ≡ j = omega arith in
      inl (subst (λ m. Contains lemma (neg_ℤ (at s.trail.literals m))) same (Contains-push needed (neg_ℤ (at s.trail.literals a.lowest))))) (cases_lt j a.level)

  one_less : (n : ℕ) → n < suc a.lowest → RefutesUpTo (suc n) → RefutesUpTo n
  one_less n b more standing cover kept = ⊎_elim seen not_seen (cases_Bool (slice_index_or a.seen (signed_variable (at s.trail.literals n)) false))
    where
      with_it : (wider : List ℤ) → ((k : ℤ) → Contains standing k → Contains wider k) → (IsSeen a (signed_variable (at s.trail.literals n)) → Contains wider (at s.trail.literals n)) → IsRefuted (live_of s.clauses) wider
      with_it wider sub has = more wider (λ j k was. ⊎_elim (λ low. sub (at s.trail.literals j) (cover j low was)) (λ e. subst (λ m. Contains wider (at s.trail.literals m)) (sym e) (has (subst (λ m. IsSeen a (signed_variable (at s.trail.literals m))) e was))) (below_suc j n (omega (arith, k))))
          (λ j k. sub (at s.trail.literals j) (kept j k))

      not_seen : slice_index_or a.seen (signed_variable (at s.trail.literals n)) false ≡ false → IsRefuted (live_of s.clauses) standing
      not_seen e = with_it standing (λ k has. has) (λ was. absurd (true≢false (sym was ∙ e)))

      follows : Follows s a (neg_ℤ (at s.trail.literals n)) → IsRefuted (live_of s.clauses) standing
      follows f = reason_refutes s a n f.0 f.2.0 standing h below reason f.2.1 f.2.2 cover (with_it (at s.trail.literals n ∷ standing) (λ k has. contains_there (at s.trail.literals n) standing k has) (λ was. contains_here (at s.trail.literals n) standing))
        where
          below : n < length s.trail.literals
          below = omega (arith, resolved.inside)

          reason : reason_at s.trail.reasons n ≡ Some f.0
          reason = reason_place s n f.0 h below (subst (λ v. IsReasonOf s.trail v (Some f.0)) (variable-neg (at s.trail.literals n)) f.1)

      seen : IsSeen a (signed_variable (at s.trail.literals n)) → IsRefuted (live_of s.clauses) standing
      seen was = ⊎_elim (λ has. with_it standing (λ k there. there) (λ again. kept n has)) follows (in_lemma n b was)

  all_less : (n : ℕ) → n ≤ suc a.lowest → RefutesUpTo n → RefutesUpTo 0
  all_less zero b refutes = refutes
  all_less (suc n) b refutes = all_less n (omega (arith, b)) (one_less n (omega (arith, b)) refutes)

  -- the lemma of a resolved analysis
  pub learnt_by_needed : IsLearnt s a.level lemma
  learnt_by_needed = record {
    refuted = all_less (suc a.lowest) (omega arith) (λ standing cover kept. resolved.refutes standing cover) (map neg_ℤ lemma) (λ j b. absurd (omega (arith, b)))
        (λ j has. subst (Contains (map neg_ℤ lemma)) (neg-neg (at s.trail.literals j)) (map_neg_has lemma (neg_ℤ (at s.trail.literals j)) has));
    place = a.lowest;
    high = resolved.analysis.low.0;
    below = resolved.inside;
    rest = λ k has. ⊎_elim (λ m. inr (resolved.analysis.from k (are.within k m))) (λ e. inl (sym e)) (Contains-push_cases needed (neg_ℤ (at s.trail.literals a.lowest)) k has);
  }

pub learnt_by_analysis : (s : Standing) (a : AnalysisView) (lits : List ℤ) → IsSound s → IsResolved s a → IsLemmaOf s a lits → IsLearnt s a.level lits
learnt_by_analysis s a lits h resolved of = subst (IsLearnt s a.level) (sym of.2) (learnt_by_needed s h a resolved of.0 of.1)

pub live_reason : (s : Standing) (p r : ℕ) → IsSound s → p < length s.trail.literals → reason_at s.trail.reasons p ≡ Some r → IsSome (clause_at s.clauses r)
live_reason s p r h b e = let why = h.forced p r b e in subst IsSome (sym why.1) (some_is why.0)
  where
    some_is : (c : Clause) → IsSome (let o : Option Clause = Some c in o)
    some_is c = search rules

pub live_some : (s : Standing) (r : ℕ) (c : Clause) → clause_at s.clauses r ≡ Some c → IsSome (clause_at s.clauses r)
live_some s r c e = subst IsSome (sym e) (some_is c)
  where
    some_is : (d : Clause) → IsSome (let o : Option Clause = Some d in o)
    some_is d = search rules

pub false_conflict : (s : Standing) (a : AnalysisView) (r : ℕ) → IsConflict s r → IsFalseOrSeen s a r
false_conflict s a r h c e k has = let same : h.0 ≡ c = let f : Some h.0 ≡ Some c = sym h.1 ∙ e in cc in inl (subst (IsFalsified s.trail.literals) same h.2 k has)

-- the literals of the lemma are over the variables
pub learnt_in_range : (s : Standing) (level : ℕ) (lemma : List ℤ) → IsTrail s.trail → level ≤ length s.trail.literals → IsLearnt s level lemma → All (λ l. (0 < signed_variable l) × (signed_variable l ≤ s.trail.greatest)) lemma
learnt_in_range s level lemma h b learnt k d below =
    let l = slice_index_or lemma k d in
    ⊎_elim (λ e. told l (neg_ℤ (at s.trail.literals learnt.place)) e (here learnt.place learnt.below))
    (λ f. let q = front_at level s.trail.literals (neg_ℤ l) b f in told l (neg_ℤ (at s.trail.literals q.0)) (sym (neg-neg l) ∙ ap neg_ℤ (sym q.2)) (here q.0 (omega (arith, q.1))))
    (learnt.rest l (k, below, same_at lemma k l d below))
  where
    here : (j : ℕ) → j < length s.trail.literals → (0 < signed_variable (neg_ℤ (at s.trail.literals j))) × (signed_variable (neg_ℤ (at s.trail.literals j)) ≤ s.trail.greatest)
    here j k = let r = h.in_range j k in let size = variable-neg (at s.trail.literals j) in (omega (arith, r.0, size), omega (arith, r.1, size))

    told : (l m : ℤ) → l ≡ m → (0 < signed_variable m) × (signed_variable m ≤ s.trail.greatest) → (0 < signed_variable l) × (signed_variable l ≤ s.trail.greatest)
    told l m e r = subst (λ x. (0 < signed_variable x) × (signed_variable x ≤ s.trail.greatest)) (sym e) r
