-- The states of a search.
use Rattle.std.specs.Prelude.{◌≡◌, ◌≢◌, ℕ, zero, suc, ◌-◌, ◌<◌, ◌≤◌, ◌⊎◌, Bool, true, false, List, [], ◌∷◌, ◌++◌, map, length, take, ℤ, pos, negsuc, neg_ℤ, nat_abs, slice_index_or}
use Rattle.std.specs.declared.option.Option.{Option}
use Rattle.std.specs.declared.option.Option.TheVariants.{None, Some}
use Rattle.std.specs.List.{Contains}
use Rattle.std.proofs.Common.{refl, sym, ap, subst, ◌∙◌, arith, inl, inr, ⊎_elim, append_assoc, append-nil, length-append}
use Rattle.std.proofs.Math.ListN.{length-map}
use Rattle.std.proofs.lemmas.List.{take-append-le, take_at, get_or-take, length-take-le, get_or-map, get_or-append_right}
use Rattle.std.proofs.lemmas.Bool.{cases_lt}
use Rattle.std.proofs.lemmas.List.Elements.{All-contains, Contains-append_left, Contains-push}
use Rattle.clause_core.specs.Clause.{Clause, IsSubset}
use Rattle.clause_core.specs.UnitPropagation.{IsFixpoint, IsRefuted, IsChain, IsRup, IsTautology}
use Rattle.clause_core.specs.Clause.{IsClauseInRange}
use Rattle.clause_core.specs.Log.{IsLemma}
use Rattle.clause_core.proofs.Decided.{decided_int, decided_contains, contains_here, contains_there, contains_nil}
use Rattle.clause_core.proofs.RupSoundness.{contains_cases}
use Rattle.clause_core.proofs.Places.{below_suc, contains_at, at_contained, same_at}
use Rattle.unit_prop.specs.declared.assumed.Assumed.{Assumed}
use Rattle.unit_prop.specs.declared.assumed.Assumed.TheVariants.{Fresh, Known, Opposed}
use Rattle.unit_prop.specs.Standing.{at, reason_at}
use Rattle.cdcl_solver.proofs.Trails.{trail_of}
use Rattle.unit_prop.specs.Trail.{IsLiteralUpTo, IsOpen}
use Rattle.unit_prop.specs.Standing.{Standing, live_of, standing_with, back_at, IsMark, Propagates, IsConflict, IsFound, IsPropagated, IsSound, StandsAlone}
use Rattle.unit_prop.specs.Standing.{Assumes}
use Rattle.cdcl_solver.proofs.Trails.{neg-neg, variable-neg}
use Rattle.cdcl_solver.proofs.Trails.{consistent}
use Rattle.cdcl_solver.proofs.Standings.{sound_with, front, behind, covered, wider, refuted_now, refuted_along, refuted_by, live_has}
use Rattle.cdcl_solver.specs.Search.{GainsStanding, BeginsSearch, IsConflictAt, ExtendsStanding, DecidesOnce}
use Rattle.unit_prop.specs.Trail.{signed_variable}

-- ---- negated lists
pub map_neg_has : (ls : List ℤ) (l : ℤ) → Contains ls l → Contains (map neg_ℤ ls) (neg_ℤ l)
map_neg_has [] l h = absurd (contains_nil l h)
map_neg_has (k ∷ ls) l h = ⊎_elim (λ e. subst (λ x. Contains (neg_ℤ k ∷ map neg_ℤ ls) (neg_ℤ x)) e (contains_here (neg_ℤ k) (map neg_ℤ ls))) (λ m. contains_there (neg_ℤ k) (map neg_ℤ ls) (neg_ℤ l) (map_neg_has ls l m)) (contains_cases k ls l h)

pub map_neg_twice : (ls : List ℤ) → map neg_ℤ (map neg_ℤ ls) ≡ ls
map_neg_twice [] = refl
map_neg_twice (l ∷ ls) = let e = neg-neg l in let f = map_neg_twice ls in cc

-- the clause of negated literals follows where the literals are refuted
pub rup_by_refuted : (live : List Clause) (ls : List ℤ) → IsRefuted live ls → IsRup live (map neg_ℤ ls)
rup_by_refuted live ls r = inl (subst (IsRefuted live) (sym (map_neg_twice ls)) r)

-- a literal beside its negation
pub tautology_by_both : (c : Clause) (l : ℤ) → 0 < signed_variable l → Contains c l → Contains c (neg_ℤ l) → IsTautology c
tautology_by_both c (pos zero) sign a b = absurd (omega arith)
tautology_by_both c (pos (suc v)) sign a b = (suc v, omega arith, a, b)
tautology_by_both c (negsuc v) sign a b = (suc v, omega arith, b, a)

-- ---- the same live clauses, in another order or more often
pub refuted_wider : (live more : List Clause) (ls : List ℤ) → ((c : Clause) → Contains live c → Contains more c) → IsRefuted live ls → IsRefuted more ls
refuted_wider live more ls sub r = (r.0, (λ k d b. sub (slice_index_or r.0 k d) (r.1 k d b)), r.2)

pub rup_wider : (live more : List Clause) (c : Clause) → ((d : Clause) → Contains live d → Contains more d) → IsRup live c → IsRup more c
rup_wider live more c sub r = ⊎_elim (λ h. inl (refuted_wider live more (map neg_ℤ c) sub h)) inr r

-- ---- beginning
-- nothing was assumed but these
abbrev pub IsOnly : Standing → List ℤ → Type 0
IsOnly s assumptions = (i : ℕ) → i < length s.trail.literals → reason_at s.trail.reasons i ≡ None → Contains assumptions (at s.trail.literals i)

pub only_alone : (s : Standing) (assumptions : List ℤ) → StandsAlone s → IsOnly s assumptions
only_alone s assumptions h i b e = let p = h.0.by_unit i (omega (arith, h.1)) in absurd (let f : None ≡ Some p.0 = sym e ∙ p.1 in cc)

pub only_with : (s : Standing) (assumptions : List ℤ) (l : ℤ) → IsSound s → Contains assumptions l → IsOnly s assumptions → IsOnly (standing_with s l None) assumptions
only_with s assumptions l h has only i b e =
    ⊎_elim (λ k. subst (Contains assumptions) (sym (front s.trail.literals (l ∷ []) i (pos 0) k)) (only i k (sym (front s.trail.reasons (None ∷ []) i None (omega (arith, h.paired))) ∙ e)))
    (λ k. subst (Contains assumptions) (sym (behind s.trail.literals l (pos 0) i k)) has)
    (below_suc i (length s.trail.literals) (omega (arith, length-append s.trail.literals (l ∷ []))))

-- what propagation adds was forced
pub forced_behind : (old new : Standing) → length old.trail.reasons ≡ length old.trail.literals → IsSound new → Propagates old new → (i : ℕ) → length old.trail.literals ≤ i → i < length new.trail.literals → reason_at new.trail.reasons i ≢ None
forced_behind old new paired h p i low b e =
    let len = ap length p.trail in
    let more = length-append old.trail.literals p.literals in
    let k : i - length old.trail.literals < length p.causes = omega (arith, paired, h.paired, len, more, ap length p.reasons, length-append old.trail.reasons (map Some p.causes), length-map p.causes (λ (r : ℕ). Some r)) in
    absurd (let f : None ≡ Some (slice_index_or p.causes (i - length old.trail.literals) 0) = sym e ∙ there paired k in cc)
  where
    there : length old.trail.reasons ≡ length old.trail.literals → i - length old.trail.literals < length p.causes → reason_at new.trail.reasons i ≡ Some (slice_index_or p.causes (i - length old.trail.literals) 0)
    there paired k =
        ap (λ (xs : List (Option ℕ)). reason_at xs i) p.reasons
        ∙ get_or-append_right old.trail.reasons (map Some p.causes) (length old.trail.literals) i None paired low
        ∙ get_or-map Some p.causes (i - length old.trail.literals) 0 None k

pub only_kept : (old new : Standing) (assumptions : List ℤ) → length old.trail.reasons ≡ length old.trail.literals → IsSound new → Propagates old new → IsOnly old assumptions → IsOnly new assumptions
only_kept old new assumptions paired h p only i b e =
    ⊎_elim (λ k. subst (Contains assumptions) (sym (ap (λ (xs : List ℤ). at xs i) p.trail ∙ front old.trail.literals p.literals i (pos 0) k))
    (only i k (sym (ap (λ (xs : List (Option ℕ)). reason_at xs i) p.reasons ∙ front old.trail.reasons (map Some p.causes) i None (omega (arith, paired, k))) ∙ e)))
    (λ k. absurd (forced_behind old new paired h p i k b e)) (cases_lt i (length old.trail.literals))

pub stands_kept : (old new : Standing) → Propagates old new → IsSubset old.trail.literals new.trail.literals
stands_kept old new p l has = subst (λ (xs : List ℤ). Contains xs l) (sym p.trail) (Contains-append_left old.trail.literals p.literals l has)

pub first_covered : (lits standing : List ℤ) (n : ℕ) → n ≤ length lits → ((j : ℕ) → j < n → Contains standing (at lits j)) → IsSubset (take n lits) standing
first_covered lits standing n b f = covered (take n lits) standing (λ j k. let m = length-take-le n lits b in subst (Contains standing) (sym (get_or-take n lits j (pos 0) (omega arith))) (f j (omega arith)))

-- An assumption whose negation stands refutes the assumptions.
pub opposed_refuted : (s : Standing) (assumptions : List ℤ) (l : ℤ) → IsSound s → IsOnly s assumptions → 0 < signed_variable l → Contains assumptions l → Contains s.trail.literals (neg_ℤ l) → IsRup (live_of s.clauses) (map neg_ℤ assumptions)
opposed_refuted s assumptions l h only sign has opposed = by_reason (reason_at s.trail.reasons place.0) refl
  where
    place : (i : ℕ) × (i < length s.trail.literals) × (at s.trail.literals i ≡ neg_ℤ l)
    place = at_contained s.trail.literals (neg_ℤ l) opposed

    by_reason : (o : Option ℕ) → reason_at s.trail.reasons place.0 ≡ o → IsRup (live_of s.clauses) (map neg_ℤ assumptions)
    by_reason None e =
        let other = subst (Contains assumptions) place.2 (only place.0 place.1 e) in
        inr (tautology_by_both (map neg_ℤ assumptions) l sign (subst (Contains (map neg_ℤ assumptions)) (neg-neg l) (map_neg_has assumptions (neg_ℤ l) other)) (map_neg_has assumptions l has))
    by_reason (Some r) e =
        let why = h.forced place.0 r place.1 e in
        let low : place.0 ≤ length s.trail.literals = omega (arith, place.1) in
        rup_by_refuted (live_of s.clauses) assumptions
        (refuted_along s h assumptions place.0 low (λ i b f. only i (omega (arith, place.1)) f)
        (λ standing cover. refuted_now (live_of s.clauses) standing why.0 (live_has s.clauses r why.0 why.1)
        (λ k in'. ⊎_elim (λ same. subst (Contains standing) (sym (ap neg_ℤ (same ∙ place.2) ∙ neg-neg l)) (cover.rest l has))
        (λ f. first_covered s.trail.literals standing place.0 low cover.first (neg_ℤ k) f) (why.2.1 k in'))))

-- ---- learning
pub chain_wider : (a b : List ℤ) (chain : List Clause) → IsSubset a b → IsChain a chain → IsChain b chain
chain_wider a b [] sub h = h
chain_wider a b (c ∷ []) sub h = λ k has. sub (neg_ℤ k) (h k has)
chain_wider a b (c ∷ d ∷ ds) sub h = (h.0, wider a b c h.0 sub h.1, chain_wider (h.0 ∷ a) (h.0 ∷ b) (d ∷ ds) (λ l has. ⊎_elim (λ e. subst (Contains (h.0 ∷ b)) e (contains_here h.0 b)) (λ m. contains_there h.0 b l (sub l m)) (contains_cases h.0 a l has)) h.2)

pub refuted_more : (live : List Clause) (a b : List ℤ) → IsSubset a b → IsRefuted live a → IsRefuted live b
refuted_more live a b sub r = (r.0, r.1, chain_wider a b r.0 sub r.2)

map_neg_sub : (a b : List ℤ) → IsSubset a b → IsSubset (map neg_ℤ a) (map neg_ℤ b)
map_neg_sub a b sub l has = subst (Contains (map neg_ℤ b)) (neg-neg l) (map_neg_has b (neg_ℤ l) (sub (neg_ℤ l) (subst (λ (xs : List ℤ). Contains xs (neg_ℤ l)) (map_neg_twice a) (map_neg_has (map neg_ℤ a) l has))))

-- A clause that the conflict gives: its negation propagates to the conflict, and of what it negates one literal came at the last level.
pub record IsLearnt (s : Standing) (level : ℕ) (lemma : Clause) : Type 0 where
  pub refuted : IsRefuted (live_of s.clauses) (map neg_ℤ lemma)
  pub place : ℕ
  pub high : level ≤ place
  pub below : place < length s.trail.literals
  pub rest : (k : ℤ) → Contains lemma k → (k ≡ neg_ℤ (at s.trail.literals place)) ⊎ Contains (take level s.trail.literals) (neg_ℤ k)

pub learnt_same : (s : Standing) (level : ℕ) (a b : Clause) → IsSubset a b → IsSubset b a → IsLearnt s level a → IsLearnt s level b
learnt_same s level a b sub back h = record {
  refuted = refuted_more (live_of s.clauses) (map neg_ℤ a) (map neg_ℤ b) (map_neg_sub a b sub) h.refuted;
  place = h.place;
  high = h.high;
  below = h.below;
  rest = λ k has. h.rest k (back k has);
}

take_within : (n : ℕ) (xs : List ℤ) → n ≤ length xs → IsSubset (take n xs) xs
take_within n xs b = first_covered xs xs n b (λ j k. contains_at xs j (omega arith))

-- What the conflict gives is a lemma: no live clause is within it, since every consequence stood before the last level.
pub lemma_by_learnt : (s : Standing) (clause level : ℕ) (lemma : Clause) → IsConflictAt s clause level → IsLearnt s level lemma → IsLemma (live_of s.clauses) lemma
lemma_by_learnt s clause level lemma at' h = record {
  rup = inl h.refuted;
  no_tautology = λ t. consistent s.trail (trail_of s at'.sound) (neg_ℤ (pos t.0)) (false' (pos t.0) t.2) (false' (neg_ℤ (pos t.0)) t.3);
  new = λ k d b sub. within (slice_index_or (live_of s.clauses) k d) (k, b, same_at (live_of s.clauses) k (slice_index_or (live_of s.clauses) k d) d b) sub;
}
  where
    low : level ≤ length s.trail.literals
    low = omega (arith, at'.below)

    false' : (k : ℤ) → Contains lemma k → Contains s.trail.literals (neg_ℤ k)
    false' k has = ⊎_elim (λ e. subst (Contains s.trail.literals) (sym (ap neg_ℤ e ∙ neg-neg (at s.trail.literals h.place))) (contains_at s.trail.literals h.place h.below)) (take_within level s.trail.literals low (neg_ℤ k)) (h.rest k has)

    within : (d : Clause) → Contains (live_of s.clauses) d → IsSubset d lemma → ⊥
    within d has sub =
        ⊎_elim
        (λ in'. let stands = at'.settled.closed d (neg_ℤ (at s.trail.literals h.place)) has (in', λ k c. h.rest k (sub k c)) in
        consistent s.trail (trail_of s at'.sound) (at s.trail.literals h.place) (contains_at s.trail.literals h.place h.below) (take_within level s.trail.literals low (neg_ℤ (at s.trail.literals h.place)) stands))
        (λ out. at'.settled.no_conflict d has (λ k c. ⊎_elim (λ e. absurd (out (subst (Contains d) e c))) (λ m. m) (h.rest k (sub k c))))
        (decided_contains decided_int d (neg_ℤ (at s.trail.literals h.place)))

-- ---- growing
pub same_more : (a b c : Standing) → GainsStanding a b → GainsStanding b c → GainsStanding a c
same_more a b c p q = record {
  more = p.more ++ q.more;
  causes = p.causes ++ q.causes;
  clauses = q.clauses ∙ p.clauses;
  greatest = q.greatest ∙ p.greatest;
  units = q.units ∙ p.units;
  literals = q.literals ∙ ap (λ (xs : List ℤ). xs ++ q.more) p.literals ∙ append_assoc a.trail.literals p.more q.more;
  reasons = q.reasons ∙ ap (λ (xs : List (Option ℕ)). xs ++ q.causes) p.reasons ∙ append_assoc a.trail.reasons p.causes q.causes;
}

pub same_propagated : (a b : Standing) → Propagates a b → GainsStanding a b
same_propagated a b p = record { more = p.literals; causes = map Some p.causes; clauses = p.clauses; greatest = p.greatest; units = p.units; literals = p.trail; reasons = p.reasons }

-- going back to where it grew from
pub back_grown : (s t : Standing) (n : ℕ) → n ≡ length s.trail.literals → length s.trail.reasons ≡ length s.trail.literals → GainsStanding s t → back_at t n ≡ s
back_grown s t n len paired g = same_standing t.clauses s.clauses t.trail.greatest s.trail.greatest (take n t.trail.literals) s.trail.literals (take n t.trail.reasons) s.trail.reasons t.units s.units g.clauses g.greatest
    (ap (take n) g.literals ∙ take_at s.trail.literals g.more n (sym len)) (ap (take n) g.reasons ∙ take_at s.trail.reasons g.causes n (paired ∙ sym len)) g.units
  where
    same_standing : (c d : List (Option Clause)) (g h : ℕ) (ls ms : List ℤ) (rs ss : List (Option ℕ)) (u v : ℕ) → c ≡ d → g ≡ h → ls ≡ ms → rs ≡ ss → u ≡ v →
        (let one : Standing = record { clauses = c; trail = record { greatest = g; literals = ls; reasons = rs }; units = u } in let two : Standing = record { clauses = d; trail = record { greatest = h; literals = ms; reasons = ss }; units = v } in one ≡ two)
    same_standing c d g h ls ms rs ss u v a b e f i = rw (a, b, e, f, i) refl

-- a mark stays one as more stands
pub mark_grown : (s t : Standing) (n : ℕ) → IsMark s n → GainsStanding s t → IsMark t n
mark_grown s t n m g = (omega (arith, m.0, g.units), omega (arith, m.1, ap length g.literals, length-append s.trail.literals g.more))

-- ---- a decision
pub decided : (old mid new : Standing) (l : ℤ) (a : Assumed) (o : Option ℕ) → IsSound old → IsPropagated old → IsOpen old.trail.literals l → Assumes old l a mid → Propagates mid new → IsFound mid new o → IsSound new → DecidesOnce old new o
decided old mid new l Known o h settled free met p found sound = absurd (free.0 met.1)
decided old mid new l Opposed o h settled free met p found sound = absurd (free.1 met.1)
decided old mid new l Fresh o h settled free met p found sound = go o found
  where
    before : Propagates (standing_with old l None) new
    before = subst (λ (s : Standing). Propagates s new) met.0 p

    paired : length (old.trail.reasons ++ None ∷ []) ≡ length (old.trail.literals ++ l ∷ [])
    paired = omega (arith, h.paired, length-append old.trail.reasons (None ∷ []), length-append old.trail.literals (l ∷ []))

    extends : ExtendsStanding old new
    extends = (same_more old (standing_with old l None) new (record { more = l ∷ []; causes = None ∷ []; clauses = refl; greatest = refl; units = refl; literals = refl; reasons = refl }) (same_propagated (standing_with old l None) new before), λ k has. stands_kept (standing_with old l None) new before k (Contains-append_left old.trail.literals (l ∷ []) k has), sound)

    longer : length old.trail.literals < length new.trail.literals
    longer = omega (arith, ap length before.trail, length-append (old.trail.literals ++ l ∷ []) before.literals, length-append old.trail.literals (l ∷ []))

    first : take (length old.trail.literals) new.trail.literals ≡ old.trail.literals
    first = ap (take (length old.trail.literals)) before.trail ∙ take-append-le (length old.trail.literals) (old.trail.literals ++ l ∷ []) before.literals (omega (arith, length-append old.trail.literals (l ∷ []))) ∙ take_at old.trail.literals (l ∷ []) (length old.trail.literals) refl

    at' : (r : ℕ) → IsConflict new r → IsConflictAt new r (length old.trail.literals)
    at' r conflict = record {
      sound = sound;
      conflict = conflict;
      below = longer;
      settled = subst (IsFixpoint (live_of new.clauses)) (sym first) (subst (λ (cs : List (Option Clause)). IsFixpoint (live_of cs) old.trail.literals) (sym before.clauses) settled);
      decision = ap (λ (xs : List (Option ℕ)). reason_at xs (length old.trail.literals)) before.reasons ∙ front (old.trail.reasons ++ None ∷ []) (map Some before.causes) (length old.trail.literals) None (omega (arith, h.paired, length-append old.trail.reasons (None ∷ []))) ∙ behind old.trail.reasons None None (length old.trail.literals) (sym h.paired);
      forced = λ i high b. forced_behind (standing_with old l None) new paired sound before i (omega (arith, length-append old.trail.literals (l ∷ []))) b;
    }

    go : (q : Option ℕ) → IsFound mid new q → DecidesOnce old new q
    go None f = (extends, f.0, longer)
    go (Some r) f = (extends, at' r f.0)

pub extends_none : (s : Standing) → IsSound s → ExtendsStanding s s
extends_none s h = (record { more = []; causes = []; clauses = refl; greatest = refl; units = refl; literals = sym (append-nil s.trail.literals); reasons = sym (append-nil s.trail.reasons) }, λ l has. has, h)

pub extends_more : (a b c : Standing) → ExtendsStanding a b → ExtendsStanding b c → ExtendsStanding a c
extends_more a b c p q = (same_more a b c p.0 q.0, λ l has. q.1 l (p.1 l has), q.2)

-- ---- choosing

pub open_neg : (lits : List ℤ) (l : ℤ) → IsOpen lits l → IsOpen lits (neg_ℤ l)
open_neg lits l h = (h.1, λ c. h.0 (subst (Contains lits) (neg-neg l) c))

pub choice_of : (s : Standing) (v : ℕ) (l : ℤ) → 0 < v → v ≤ s.trail.greatest → IsOpen s.trail.literals (pos v) → (l ≡ pos v) ⊎ (l ≡ neg_ℤ (pos v)) → (0 < signed_variable l) × (signed_variable l ≤ s.trail.greatest) × IsOpen s.trail.literals l
choice_of s v l sign b free (inl e) = subst (λ x. (0 < signed_variable x) × (signed_variable x ≤ s.trail.greatest) × IsOpen s.trail.literals x) (sym e) (sign, b, free)
choice_of s v l sign b free (inr e) = subst (λ x. (0 < signed_variable x) × (signed_variable x ≤ s.trail.greatest) × IsOpen s.trail.literals x) (sym e)
    (let size : signed_variable (neg_ℤ (pos v)) ≡ v = variable-neg (pos v) in (omega (arith, size), omega (arith, size), open_neg s.trail.literals (pos v) free))

-- ---- the assumptions
pub only_assumed : (s new : Standing) (assumptions : List ℤ) (l : ℤ) (a : Assumed) → IsSound s → Contains assumptions l → IsOnly s assumptions → Assumes s l a new → IsOnly new assumptions
only_assumed s new assumptions l Fresh h has only met = subst (λ (t : Standing). IsOnly t assumptions) (sym met.0) (only_with s assumptions l h has only)
only_assumed s new assumptions l Known h has only met = subst (λ (t : Standing). IsOnly t assumptions) (sym met.0) only
only_assumed s new assumptions l Opposed h has only met = subst (λ (t : Standing). IsOnly t assumptions) (sym met.0) only

pub sound_assumed : (s new : Standing) (l : ℤ) (a : Assumed) → IsSound s → IsLiteralUpTo s.trail.greatest l → Assumes s l a new → IsSound new
sound_assumed s new l Fresh h within met = subst IsSound (sym met.0) (sound_with s l h within (met.1, met.2))
sound_assumed s new l Known h within met = subst IsSound (sym met.0) h
sound_assumed s new l Opposed h within met = subst IsSound (sym met.0) h

pub grows_not : (s : Standing) → GainsStanding s s
grows_not s = record { more = []; causes = []; clauses = refl; greatest = refl; units = refl; literals = sym (append-nil s.trail.literals); reasons = sym (append-nil s.trail.reasons) }

grows_with : (s : Standing) (l : ℤ) → GainsStanding s (standing_with s l None)
grows_with s l = record { more = l ∷ []; causes = None ∷ []; clauses = refl; greatest = refl; units = refl; literals = refl; reasons = refl }

pub same_assumed : (s new : Standing) (l : ℤ) (a : Assumed) → Assumes s l a new → GainsStanding s new × IsSubset s.trail.literals new.trail.literals
same_assumed s new l Fresh met = subst (λ (t : Standing). GainsStanding s t × IsSubset s.trail.literals t.trail.literals) (sym met.0) (grows_with s l, λ k has. Contains-append_left s.trail.literals (l ∷ []) k has)
same_assumed s new l Known met = subst (λ (t : Standing). GainsStanding s t × IsSubset s.trail.literals t.trail.literals) (sym met.0) (grows_not s, λ k has. has)
same_assumed s new l Opposed met = subst (λ (t : Standing). GainsStanding s t × IsSubset s.trail.literals t.trail.literals) (sym met.0) (grows_not s, λ k has. has)

pub stands_assumed : (s new : Standing) (l : ℤ) (a : Assumed) → (a ≡ Opposed → ⊥) → Assumes s l a new → Contains new.trail.literals l
stands_assumed s new l Fresh n met = subst (λ (t : Standing). Contains t.trail.literals l) (sym met.0) (Contains-push s.trail.literals l)
stands_assumed s new l Known n met = subst (λ (t : Standing). Contains t.trail.literals l) (sym met.0) met.1
stands_assumed s new l Opposed n met = absurd (n refl)

pub begins_true : (old mid new : Standing) (assumptions : List ℤ) → IsSound mid → GainsStanding old mid → IsOnly mid assumptions → ((i : ℕ) → i < length assumptions → Contains mid.trail.literals (at assumptions i)) → Propagates mid new → IsSound new → IsPropagated new → BeginsSearch old new assumptions true
begins_true old mid new assumptions before same only stand p sound settled = (
  same_more old mid new same (same_propagated mid new p),
  record {
    sound = sound;
    settled = settled;
    assumed = covered assumptions new.trail.literals (λ j b. stands_kept mid new p (at assumptions j) (stand j b));
    only = only_kept mid new assumptions before.paired sound p only;
  },
)

pub begins_false : (old mid new : Standing) (assumptions : List ℤ) (r : ℕ) → IsSound mid → GainsStanding old mid → IsOnly mid assumptions → Propagates mid new → IsSound new → IsConflict new r → BeginsSearch old new assumptions false
begins_false old mid new assumptions r before same only p sound conflict =
    let all = same_more old mid new same (same_propagated mid new p) in
    (all, subst (λ (cs : List (Option Clause)). IsRup (live_of cs) (map neg_ℤ assumptions)) all.clauses (rup_by_refuted (live_of new.clauses) assumptions (refuted_by new r assumptions sound conflict (only_kept mid new assumptions before.paired sound p only))))

pub begins_opposed : (old mid new : Standing) (assumptions : List ℤ) (l : ℤ) → GainsStanding old mid → IsSound mid → IsOnly mid assumptions → 0 < signed_variable l → Contains assumptions l → Assumes mid l Opposed new → BeginsSearch old new assumptions false
begins_opposed old mid new assumptions l same sound only sign has met = (
  same_more old mid new same (same_assumed mid new l Opposed met).0,
  subst (λ (cs : List (Option Clause)). IsRup (live_of cs) (map neg_ℤ assumptions)) same.clauses (opposed_refuted mid assumptions l sound only sign has met.1),
)

-- the same set has the same range
pub range_same : (a b : List ℤ) (max : ℕ) → IsSubset b a → IsClauseInRange max a → IsClauseInRange max b
range_same a b max sub h k d below = All-contains (λ l. (l ≢ pos 0) × (nat_abs l ≤ max)) a (slice_index_or b k d) h (sub (slice_index_or b k d) (k, below, same_at b k (slice_index_or b k d) d below))

pub begins_grows : (s t : Standing) (assumptions : List ℤ) (b : Bool) → BeginsSearch s t assumptions b → GainsStanding s t
begins_grows s t assumptions true h = h.0
begins_grows s t assumptions false h = h.0
