-- What propagation finds: a conflict with a chain from what was assumed, or a fixpoint, which leaves none.
use Rattle.std.proofs.Common.{◌≡◌, ◌≢◌, ◌<◌, ◌≤◌, ◌+◌, ◌*◌, ◌/◌, ◌++◌, ℕ, zero, suc, List, [], ◌∷◌, map, length, get_or, take, refl, inl, inr, ◌⊎◌, ⊎_elim, sym, ap, subst, ◌∙◌, arith, ℤ, pos, neg_ℤ, slice_index, min}
use Rattle.std.specs.declared.option.Option.{Option}
use Rattle.std.specs.declared.option.Option.TheVariants.{None, Some}
use Rattle.std.specs.List.{Contains, All}
use Rattle.std.proofs.lemmas.Bool.{cases_eq, cases_lt, ne_eqb, eq-eqb}
use Rattle.std.proofs.lemmas.List.{get_or_default, get_or-take, get_or-map, length-map, length-take, map-append, append-nil}
use Rattle.std.proofs.lemmas.List.Elements.{Contains-get_or, All-nil, All-cons, Contains-append_left}
use Rattle.clause_core.specs.Clause.{Clause}
use Rattle.clause_core.specs.UnitPropagation.{IsUnit, IsFalsified, IsChain, IsRefuted, IsFixpoint}
use Rattle.unit_prop.specs.Literals.{IsLiteral}
use Rattle.clause_core.proofs.CallerLemmas.{contains_cases, fixpoint_leaves_no_chain}
use Rattle.unit_prop.specs.Watches.{none, Hung}
use Rattle.unit_prop.specs.Trail.{Stood}
use Rattle.unit_prop.specs.Standing.{Standing, clause_at, at, reason_at, live_of, assumed_in, assumed_of, Propagates, IsFound}
use Rattle.unit_prop.specs.Visits.{watched_at, partner, IsVisitedUpTo, GainsLiterals, IsPropagating, IsFalse}
use Rattle.unit_prop.specs.Ground.{reason_clause, standing_of, IsGround}
use Rattle.unit_prop.proofs.TrailSteps.{once, map_same}
use Rattle.unit_prop.proofs.VisitSteps.{live_below}
use Rattle.unit_prop.proofs.Codes.{real}
use Rattle.unit_prop.proofs.Visiting.{partner_owner}

contains_here : {X : Type 0} (x : X) (xs : List X) → Contains (x ∷ xs) x
contains_here x xs = (0, omega arith, refl)

contains_there : {X : Type 0} (x : X) (xs : List X) (y : X) → Contains xs y → Contains (x ∷ xs) y
contains_there x xs y h = (suc h.0, (let b : h.0 < length xs = h.1 in omega arith), h.2)

contains_nil : {X : Type 0} (y : X) → Contains [] y → ⊥
contains_nil y h = let b : h.0 < 0 = h.1 in absurd (omega arith)

-- a live clause is one of the list
pub live_has : (clauses : List (Option Clause)) (r : ℕ) (c : Clause) → clause_at clauses r ≡ Some c → Contains (live_of clauses) c
live_has [] r c e = let f : ◌≡◌ {A = Option Clause} None (Some c) = e in absurd cc
live_has (None ∷ clauses) zero c e = let f : ◌≡◌ {A = Option Clause} None (Some c) = e in absurd cc
live_has (None ∷ clauses) (suc r) c e = live_has clauses r c e
live_has (Some d ∷ clauses) zero c e = let f : ◌≡◌ {A = Option Clause} (Some d) (Some c) = e in let g : d ≡ c = cc in subst (Contains (d ∷ live_of clauses)) g (contains_here d (live_of clauses))
live_has (Some d ∷ clauses) (suc r) c e = contains_there d (live_of clauses) c (live_has clauses r c e)

pub live_is : (clauses : List (Option Clause)) (c : Clause) → Contains (live_of clauses) c → (r : ℕ) × (clause_at clauses r ≡ Some c)
live_is [] c h = absurd (contains_nil c h)
live_is (None ∷ clauses) c h = let s = live_is clauses c h in (suc s.0, s.1)
live_is (Some d ∷ clauses) c h = ⊎_elim (λ e. (0, ap Some e)) (λ k. let s = live_is clauses c k in (suc s.0, s.1)) (contains_cases d (live_of clauses) c h)

-- what was assumed stands
pub assumed_stand : (lits : List ℤ) (rs : List (Option ℕ)) (l : ℤ) → Contains (assumed_in lits rs) l → Contains lits l
assumed_stand [] rs l h = h
assumed_stand (m ∷ lits) [] l h = absurd (contains_nil l h)
assumed_stand (m ∷ lits) (None ∷ rs) l h = ⊎_elim (λ e. subst (Contains (m ∷ lits)) e (contains_here m lits)) (λ k. contains_there m lits l (assumed_stand lits rs l k)) (contains_cases m (assumed_in lits rs) l h)
assumed_stand (m ∷ lits) (Some r ∷ rs) l h = contains_there m lits l (assumed_stand lits rs l h)

-- a literal without a reason was assumed
pub assumed_at : (lits : List ℤ) (rs : List (Option ℕ)) → length rs ≡ length lits → (i : ℕ) → i < length lits → reason_at rs i ≡ None → Contains (assumed_in lits rs) (at lits i)
assumed_at [] rs even i h e = absurd (omega arith)
assumed_at (m ∷ lits) [] even i h e = absurd (omega arith)
assumed_at (m ∷ lits) (None ∷ rs) even zero h e = contains_here m (assumed_in lits rs)
assumed_at (m ∷ lits) (None ∷ rs) even (suc i) h e = contains_there m (assumed_in lits rs) (at lits i) (assumed_at lits rs (omega arith) i (omega arith) e)
assumed_at (m ∷ lits) (Some r ∷ rs) even zero h e = let f : ◌≡◌ {A = Option ℕ} (Some r) None = e in absurd cc
assumed_at (m ∷ lits) (Some r ∷ rs) even (suc i) h e = assumed_at lits rs (omega arith) i (omega arith) e

-- what comes by clauses is not assumed
pub assumed_grown : (lits : List ℤ) (rs : List (Option ℕ)) (more : List ℤ) (causes : List ℕ) → length rs ≡ length lits → assumed_in (lits ++ more) (rs ++ map Some causes) ≡ assumed_in lits rs
assumed_grown [] [] more causes even = none_of more causes
  where
    none_of : (more : List ℤ) (causes : List ℕ) → assumed_in more (map Some causes) ≡ []
    none_of [] causes = refl
    none_of (m ∷ more) [] = refl
    none_of (m ∷ more) (r ∷ causes) = none_of more causes
assumed_grown [] (r ∷ rs) more causes even = absurd (omega arith)
assumed_grown (m ∷ lits) [] more causes even = absurd (omega arith)
assumed_grown (m ∷ lits) (None ∷ rs) more causes even = ap (λ (ls : List ℤ). m ∷ ls) (assumed_grown lits rs more causes (omega arith))
assumed_grown (m ∷ lits) (Some r ∷ rs) more causes even = assumed_grown lits rs more causes (omega arith)

pub cause_none : (r : ℕ) → r ≡ none → reason_clause r ≡ None
cause_none r e = rw (eq-eqb r none e) refl

pub cause_some : (r : ℕ) → r ≢ none → reason_clause r ≡ Some r
cause_some r e = rw (ne_eqb r none e) refl

pub causes_some : (rs : List ℕ) → All (λ r. r ≢ none) rs → map reason_clause rs ≡ map Some rs
causes_some rs all = map_same reason_clause Some rs (λ i d h. cause_some (get_or rs i d) (all i d h))

-- A chain from what was assumed to a clause that is false under what stands.
module _ (clauses : List (Option Clause)) (s : Stood) (head : ℕ) (kept : IsVisitedUpTo clauses s head) (c : Clause) (r : ℕ) (live : clause_at clauses r ≡ Some c) (falsified : IsFalsified s.lits c) where
  abbrev rs : List (Option ℕ)
  rs = map reason_clause s.reasons

  even : length rs ≡ length s.lits
  even = length-map s.reasons reason_clause ∙ kept.reasons

  abbrev Has : List ℤ → ℕ → Type 0
  Has acc n = ((i : ℕ) → i < n → Contains acc (at s.lits i)) × ((l : ℤ) → Contains (assumed_in s.lits rs) l → Contains acc l)

  abbrev Leads : List ℤ → Type 0
  Leads acc = (chain : List Clause) × All (Contains (live_of clauses)) chain × IsChain acc chain

  longer : (acc : List ℤ) (d : Clause) (l : ℤ) → Contains (live_of clauses) d → IsUnit acc d l → Leads (l ∷ acc) → Leads acc
  longer acc d l has unit (([]), all, chain) = absurd chain
  longer acc d l has unit ((e ∷ es), all, chain) = (d ∷ e ∷ es, All-cons (Contains (live_of clauses)) d (e ∷ es) has all, (l, unit, chain))

  in_prefix : (acc : List ℤ) (n : ℕ) → ((i : ℕ) → i < n → Contains acc (at s.lits i)) → (l : ℤ) → Contains (take n s.lits) l → Contains acc l
  in_prefix acc n has l h = ⊎_elim
      (λ b. subst (Contains acc) (sym (get_or-take n s.lits h.0 (pos 0) b) ∙ (get_or_default (take n s.lits) h.0 (pos 0) l h.1 ∙ h.2)) (has h.0 b))
      (λ b. absurd (past b)) (cases_lt h.0 n)
    where
      past : n ≤ h.0 → ⊥
      past b = let k : h.0 < length (take n s.lits) = h.1 in absurd (omega (arith, length-take n s.lits))

  leads : (k n : ℕ) → n + k ≡ length s.lits → (acc : List ℤ) → Has acc n → Leads acc
  leads zero n e acc has = (
    c ∷ [],
    All-cons (Contains (live_of clauses)) c [] (live_has clauses r c live) (All-nil (Contains (live_of clauses))),
    λ l h. let f = falsified l h in subst (Contains acc) (get_or_default s.lits f.0 (pos 0) (neg_ℤ l) f.1 ∙ f.2) (has.0 f.0 (let b : f.0 < length s.lits = f.1 in omega arith)),
  )
  leads (suc k) n e acc has = step (λ acc' has'. leads k (suc n) (omega arith) acc' has')
    where
      reason_is : reason_at rs n ≡ reason_clause (slice_index s.reasons n)
      reason_is = get_or-map reason_clause s.reasons n 0 None (omega (arith, kept.reasons))

      assumed : ((acc' : List ℤ) → Has acc' (suc n) → Leads acc') → slice_index s.reasons n ≡ none → Leads acc
      assumed next none_is = next acc (λ i b. ⊎_elim (λ f. has.0 i f) (λ f. let same : n ≡ i = omega arith in subst (λ (j : ℕ). Contains acc (at s.lits j)) same (has.1 (at s.lits n) (assumed_at s.lits rs even n (omega arith) (reason_is ∙ cause_none (slice_index s.reasons n) none_is)))) (cases_lt i n), has.1)

      forced : ((acc' : List ℤ) → Has acc' (suc n) → Leads acc') → slice_index s.reasons n ≢ none → Leads acc
      forced next some =
          let why = kept.forced n (omega arith) some in
          let unit : IsUnit acc why.0 (at s.lits n) = (why.2.0, λ l h. ⊎_elim inl (λ f. inr (in_prefix acc n has.0 (neg_ℤ l) f)) (why.2.1 l h)) in
          longer acc why.0 (at s.lits n) (live_has clauses (slice_index s.reasons n) why.0 why.1) unit
          (next (at s.lits n ∷ acc) (
            λ i b. ⊎_elim (λ f. contains_there (at s.lits n) acc (at s.lits i) (has.0 i f))
                (λ f. let same : n ≡ i = omega arith in subst (λ (j : ℕ). Contains (at s.lits n ∷ acc) (at s.lits j)) same (contains_here (at s.lits n) acc)) (cases_lt i n),
            λ l h. contains_there (at s.lits n) acc l (has.1 l h),
          ))

      step : ((acc' : List ℤ) → Has acc' (suc n) → Leads acc') → Leads acc
      step next = ⊎_elim (assumed next) (forced next) (cases_eq (slice_index s.reasons n) none)

  pub refuted_by : IsRefuted (live_of clauses) (assumed_in s.lits rs)
  refuted_by = leads (length s.lits) 0 (omega arith) (assumed_in s.lits rs) (λ i b. absurd (omega arith), λ l h. h)

-- Where each literal has been visited without a conflict, every consequence stands.
module _ (clauses : List (Option Clause)) (hung : Hung) (s : Stood) (p : IsPropagating clauses hung s (length s.lits))
    (short : (r : ℕ) (c : Clause) → clause_at clauses r ≡ Some c → length c < 2 → (l : ℤ) × (c ≡ l ∷ []) × Contains s.lits l) where
  -- not both stand
  not_both : (l : ℤ) → IsLiteral l → Contains s.lits l → Contains s.lits (neg_ℤ l) → ⊥
  not_both l real = once s.lits l real p.kept.apart

  -- a watched literal that is false has a true one beside it
  beside : (n : ℕ) (c : Clause) → clause_at clauses (n / 2) ≡ Some c → 2 ≤ length c → Contains s.lits (neg_ℤ (watched_at hung.places n)) → (m : ℤ) × Contains c m × Contains s.lits m
  beside n c live long h =
      let w = p.watching.watches n c live long in
      let real = ((p.sound (n / 2) c live).1 (watched_at hung.places n) w.0).0 in
      let served = p.served n h.0 h.1 (get_or_default s.lits h.0 (pos 0) (neg_ℤ (watched_at hung.places n)) h.1 ∙ h.2) (nonzero (watched_at hung.places n) real) c live in
      (at s.lits served.0, served.2, Contains-get_or s.lits served.0 (pos 0) served.1)
    where
      nonzero : (l : ℤ) → IsLiteral l → l ≢ pos 0
      nonzero l h = real l h

  node_of : (r : ℕ) → (2 * r) / 2 ≡ r
  node_of r = omega arith

  settled_none : (c : Clause) → Contains (live_of clauses) c → IsFalsified s.lits c → ⊥
  settled_none c h falsified = by_length (cases_lt (length c) 2)
    where
      l : (r : ℕ) × (clause_at clauses r ≡ Some c)
      l = live_is clauses c h

      by_length : (length c < 2) ⊎ (2 ≤ length c) → ⊥
      by_length (inl few) =
          let u = short l.0 c l.1 few in
          let has : Contains c u.0 = subst (λ d. Contains d u.0) (sym u.1) (contains_here u.0 []) in
          not_both u.0 ((p.sound l.0 c l.1).1 u.0 has).0 u.2 (falsified u.0 has)
      by_length (inr many) =
          let live = subst (λ (r : ℕ). clause_at clauses r ≡ Some c) (sym (node_of l.0)) l.1 in
          let w = p.watching.watches (2 * l.0) c live many in
          let m = beside (2 * l.0) c live many (falsified (watched_at hung.places (2 * l.0)) w.0) in
          not_both m.0 ((p.sound l.0 c l.1).1 m.0 m.1).0 m.2 (falsified m.0 m.1)

  settled_closed : (c : Clause) (l : ℤ) → Contains (live_of clauses) c → IsUnit s.lits c l → Contains s.lits l
  settled_closed c k h unit = by_length (cases_lt (length c) 2)
    where
      l : (r : ℕ) × (clause_at clauses r ≡ Some c)
      l = live_is clauses c h

      -- a true literal of the clause is the one that isn't false
      it_is : (m : ℤ) → Contains c m → Contains s.lits m → Contains s.lits k
      it_is m has stands = ⊎_elim (λ e. subst (Contains s.lits) e stands) (λ f. absurd (not_both m ((p.sound l.0 c l.1).1 m has).0 stands f)) (unit.1 m has)

      by_length : (length c < 2) ⊎ (2 ≤ length c) → Contains s.lits k
      by_length (inl few) = let u = short l.0 c l.1 few in it_is u.0 (subst (λ d. Contains d u.0) (sym u.1) (contains_here u.0 [])) u.2
      by_length (inr many) =
          ⊎_elim (λ e. ⊎_elim (λ f. absurd (w.1 (e ∙ sym f))) (λ f. let m = beside (partner (2 * l.0)) c live' many f in it_is m.0 m.1 m.2) (unit.1 (watched_at hung.places (partner (2 * l.0))) w'.0))
          (λ f. let m = beside (2 * l.0) c live many f in it_is m.0 m.1 m.2) (unit.1 (watched_at hung.places (2 * l.0)) w.0)
        where
          live : clause_at clauses ((2 * l.0) / 2) ≡ Some c
          live = subst (λ (r : ℕ). clause_at clauses r ≡ Some c) (sym (node_of l.0)) l.1

          live' : clause_at clauses (partner (2 * l.0) / 2) ≡ Some c
          live' = subst (λ (r : ℕ). clause_at clauses r ≡ Some c) (sym (partner_owner (2 * l.0))) live

          w : Contains c (watched_at hung.places (2 * l.0)) × (watched_at hung.places (2 * l.0) ≢ watched_at hung.places (partner (2 * l.0)))
          w = p.watching.watches (2 * l.0) c live many

          w' : Contains c (watched_at hung.places (partner (2 * l.0))) × (watched_at hung.places (partner (2 * l.0)) ≢ watched_at hung.places (partner (partner (2 * l.0))))
          w' = p.watching.watches (partner (2 * l.0)) c live' many

  pub settled : IsFixpoint (live_of clauses) s.lits
  settled = record { no_conflict = settled_none; closed = settled_closed }

  pub no_chain : IsRefuted (live_of clauses) (assumed_in s.lits (map reason_clause s.reasons)) → ⊥
  no_chain h = fixpoint_leaves_no_chain (live_of clauses) s.lits (assumed_in s.lits (map reason_clause s.reasons)) h.0 settled (λ l k. assumed_stand s.lits (map reason_clause s.reasons) l k) h.1 h.2

pub from_front : {X : Type 0} (n : ℕ) (xs : List X) (x : X) → Contains (take n xs) x → Contains xs x
from_front n xs x h = (h.0, before, sym (get_or-take n xs h.0 x under) ∙ h.2)
  where
    within : h.0 < min n (length xs)
    within = rw length-take at h.1

    before : h.0 < length xs
    before = omega (arith, within)

    under : h.0 < n
    under = omega (arith, within)

pub propagates_not : (s : Standing) → Propagates s s
propagates_not s = record { literals = []; causes = []; clauses = refl; greatest = refl; units = refl; trail = sym (append-nil s.trail.literals); reasons = sym (append-nil s.trail.reasons) }

pub causes_grown : (a b : Stood) (g : GainsLiterals a b) → map reason_clause b.reasons ≡ map reason_clause a.reasons ++ map Some g.causes
causes_grown a b g = ap (map reason_clause) g.reasons ∙ (map-append reason_clause a.reasons g.causes ∙ ap (λ rs. map reason_clause a.reasons ++ rs) (causes_some g.causes g.caused))

module _ (clauses : List (Option Clause)) (a b : Stood) (units : ℕ) (seen : Standing) (view : standing_of clauses a units ≡ seen) (g : GainsLiterals a b) (even : length a.reasons ≡ length a.lits) where
  pub propagates_by : Propagates seen (standing_of clauses b units)
  propagates_by = subst (λ (s : Standing). Propagates s (standing_of clauses b units)) view (record {
    literals = g.more;
    causes = g.causes;
    clauses = refl;
    greatest = g.max;
    units = refl;
    trail = g.lits;
    reasons = causes_grown a b g;
  })

  assumed_same : assumed_in b.lits (map reason_clause b.reasons) ≡ assumed_of seen
  assumed_same = ap (λ (ls : List ℤ). assumed_in ls (map reason_clause b.reasons)) g.lits ∙ (ap (assumed_in (a.lits ++ g.more)) (causes_grown a b g)
      ∙ (assumed_grown a.lits (map reason_clause a.reasons) g.more g.causes (length-map a.reasons reason_clause ∙ even) ∙ ap assumed_of view))

  pub found_some : (hung : Hung) (head r : ℕ) → IsPropagating clauses hung b head → IsFalse clauses b.lits r → IsFound seen (standing_of clauses b units) (Some r)
  found_some hung head r p f = (
    f,
    subst (λ (cs : List (Option Clause)). IsRefuted (live_of cs) (assumed_of seen)) (ap (λ (s : Standing). s.clauses) view)
        (subst (IsRefuted (live_of clauses)) assumed_same (refuted_by clauses b head p.kept f.0 r f.1 f.2)),
  )

  pub found_none : (hung : Hung) → IsPropagating clauses hung b (length b.lits) → IsGround clauses (length clauses) (take units a.lits) (take units a.reasons) None → IsFound seen (standing_of clauses b units) None
  found_none hung p ground = (
    settled clauses hung b p short,
    λ h. no_chain clauses hung b p short
        (subst (IsRefuted (live_of clauses)) (sym assumed_same) (subst (λ (cs : List (Option Clause)). IsRefuted (live_of cs) (assumed_of seen)) (sym (ap (λ (s : Standing). s.clauses) view)) h)),
  )
    where
      short : (r : ℕ) (c : Clause) → clause_at clauses r ≡ Some c → length c < 2 → (l : ℤ) × (c ≡ l ∷ []) × Contains b.lits l
      short r c live few = let u = ground.verdict r c (live_below clauses r c live) live few in (u.0, u.1, subst (λ (ls : List ℤ). Contains ls u.0) (sym g.lits) (Contains-append_left a.lits g.more u.0 (from_front units a.lits u.0 u.2)))

-- a clause that is false under the first literals is false under all
pub false_front : (clauses : List (Option Clause)) (n : ℕ) (lits : List ℤ) (r : ℕ) → IsFalse clauses (take n lits) r → IsFalse clauses lits r
false_front clauses n lits r f = (f.0, f.1, λ k h. from_front n lits (neg_ℤ k) (f.2 k h))

pub ground_some : (clauses : List (Option Clause)) (bound : ℕ) (front : List ℤ) (causes : List ℕ) (refuted : Option ℕ) (r : ℕ) → refuted ≡ Some r → IsGround clauses bound front causes refuted → IsFalse clauses front r
ground_some clauses bound front causes refuted r e g = let v = (subst (λ (o : Option ℕ). IsGround clauses bound front causes o) e g).verdict in (v.0, v.1, v.2)

pub ground_none : (clauses : List (Option Clause)) (bound : ℕ) (front : List ℤ) (causes : List ℕ) (refuted : Option ℕ) → refuted ≡ None → IsGround clauses bound front causes refuted → IsGround clauses bound front causes None
ground_none clauses bound front causes refuted e g = subst (λ (o : Option ℕ). IsGround clauses bound front causes o) e g
