-- A walk along a literal's chain, which looks at the partner of each node; and what it says of clauses.
use Rattle.std.specs.Prelude.{◌≡◌, ◌≢◌, ◌⊎◌, ◌*◌, ◌/◌, ◌<◌, ◌≤◌, ℕ, true, List, [], ◌∷◌, length, map, slice_index, take, ℤ, pos}
use Rattle.std.specs.declared.option.Option.{Option}
use Rattle.std.specs.declared.option.Option.TheVariants.{None, Some}
use Rattle.std.specs.List.{Contains}
use Rattle.std.specs.Option.{MatchOption}
use Rattle.std.proofs.Common.{arith, ap, get_or, inl, inr, sym, subst, ◌∙◌, ⊎_elim}
use Rattle.std.proofs.lemmas.Bool.{cases_lt, false≢true}
use Rattle.std.proofs.lemmas.List.{get_or_read}
use Rattle.clause_core.specs.Clause.{Clause, IsSubset}
use Rattle.clause_core.proofs.CallerLemmas.{contains_cases, contains_here, contains_nil}
use Rattle.unit_prop.specs.declared.watches.Node.{Node}
use Rattle.unit_prop.specs.Ground.{IsFalseShort, IsPropagator}
use Rattle.unit_prop.specs.Standing.{clause_at, live_of}
use Rattle.unit_prop.specs.Near.{HasNoPair}
use Rattle.unit_prop.specs.Trail.{IsOpen, Stood}
use Rattle.unit_prop.specs.Visits.{partner, watched_at}
use Rattle.unit_prop.specs.Watches.{AreChains, Hung, IsWatchChain, chain, code, follower, has_node, none, watched}
use Rattle.unit_prop.proofs.ChainSteps.{has_cons}
use Rattle.unit_prop.proofs.Findings.{from_front, live_is}
use Rattle.unit_prop.proofs.HungViews.{as_many, place_is, seen_of}
use Rattle.unit_prop.proofs.VisitSteps.{live_below}
use Rattle.unit_prop.proofs.Visiting.{partner_owner, partner_twice}

-- none is behind the end
pub none_behind : (nodes : List Node) (place : ℕ) (other : ℤ) → none ≤ place → length nodes ≤ none → HasNoPair nodes place other
none_behind nodes place other last small [] c n has = absurd (false≢true has)
none_behind nodes place other last small (m ∷ ms) (same, below, more) n has = absurd (omega arith)

-- a node whose partner doesn't watch the literal
pub passes : (nodes : List Node) (place : ℕ) (other : ℤ) → watched nodes (partner place) ≢ other → HasNoPair nodes (follower nodes place) other → HasNoPair nodes place other
passes nodes place other apart behind [] c n has = absurd (false≢true has)
passes nodes place other apart behind (m ∷ ms) (same, below, more) n has =
    ⊎_elim (λ e. subst (λ (j : ℕ). watched nodes (partner j) ≢ other) (same ∙ sym e) apart)
    (λ k. behind ms (subst (λ (j : ℕ). IsWatchChain nodes (follower nodes j) ms) (sym same) more) n k) (has_cons m n ms has)

-- all nodes of a literal
pub none_pairs : (heads : List ℕ) (nodes : List Node) (hand : ℕ) (one other : ℤ) → AreChains heads nodes hand → chain nodes hand ≡ [] → one ≢ pos 0 → code one < length heads → HasNoPair nodes (slice_index heads (code one)) other
    → (n : ℕ) → n < length nodes → watched nodes n ≡ one → watched nodes (partner n) ≢ other
none_pairs heads nodes hand one other are idle real below apart n within is =
    let its = are.listed one real below in
    apart its.members its.chained n (⊎_elim (λ h. h) (λ h. absurd (false≢true (subst (λ (ns : List ℕ). has_node ns n ≡ true) idle h))) (its.all n within is))

-- the same, as the callers of the watches see it
pub pairs_none : (heads : List ℕ) (nodes : List Node) (hand : ℕ) (seen : Hung) → seen_of heads nodes hand ≡ seen → AreChains heads nodes hand → (one other : ℤ) (list x : ℕ) → list ≡ code one → x ≡ get_or heads list x → code one < seen.chains → seen.hand ≡ []
    → one ≢ pos 0 → HasNoPair nodes x other → (n : ℕ) → n < length seen.places → watched_at seen.places n ≡ one → watched_at seen.places (partner n) ≢ other
pairs_none heads nodes hand seen view are one other list x l read chosen idle real apart n within is e =
    let places : map (λ (m : Node). m.lit) nodes ≡ seen.places = ap (λ (h : Hung). h.places) view in
    let chains : length heads ≡ seen.chains = ap (λ (h : Hung). h.chains) view in
    let handed : chain nodes hand ≡ seen.hand = ap (λ (h : Hung). h.hand) view in
    let below : code one < length heads = omega (arith, chains) in
    let start : x ≡ slice_index heads (code one) = get_or_read heads list x (omega (arith, below)) read 0 ∙ ap (slice_index heads) l in
    none_pairs heads nodes hand one other are (handed ∙ idle) real below (subst (λ (p : ℕ). HasNoPair nodes p other) start apart) n (omega (arith, as_many nodes seen.places places)) (sym (place_is nodes seen.places n places) ∙ is)
    (sym (place_is nodes seen.places (partner n) places) ∙ e)

-- Where two literals are open, and no clause watches both, no live clause is within the clause of both.
module _ (clauses : List (Option Clause)) (shorts : List ℕ) (hung : Hung) (stood : Stood) (head units : ℕ) (refuted : Option ℕ)
    (is : IsPropagator clauses shorts hung stood head units refuted) (none_false : refuted ≡ None) (one other : ℤ) (a : IsOpen stood.lits one) (b : IsOpen stood.lits other)
    (apart : (n : ℕ) → n < length hung.places → watched_at hung.places n ≡ one → watched_at hung.places (partner n) ≢ other) where
  either : (l : ℤ) → Contains (one ∷ other ∷ []) l → (one ≡ l) ⊎ (other ≡ l)
  either l h = ⊎_elim inl (λ k. ⊎_elim inr (λ n. absurd (contains_nil l n)) (contains_cases other [] l k)) (contains_cases one (other ∷ []) l h)

  pub none_within : (c : Clause) → Contains (live_of clauses) c → IsSubset c (one ∷ other ∷ []) → ⊥
  none_within c has sub = by_length (cases_lt (length c) 2)
    where
      r : (r : ℕ) × (clause_at clauses r ≡ Some c)
      r = live_is clauses c has

      below : r.0 < length clauses
      below = live_below clauses r.0 c r.1

      by_length : (length c < 2) ⊎ (2 ≤ length c) → ⊥
      by_length (inl few) =
          let verdict = subst (λ (o : Option ℕ). MatchOption o ((q : ℕ) (d : Clause) → q < length clauses → clause_at clauses q ≡ Some d → length d < 2 → (l : ℤ) × (d ≡ l ∷ []) × Contains (take units stood.lits) l) (λ q. IsFalseShort clauses (take units stood.lits) q)) none_false is.ground.verdict in
          let u = verdict r.0 c below r.1 few in
          let stands = from_front units stood.lits u.0 u.2 in
          ⊎_elim (λ e. a.0 (subst (Contains stood.lits) (sym e) stands)) (λ e. b.0 (subst (Contains stood.lits) (sym e) stands))
          (either u.0 (sub u.0 (subst (λ (d : Clause). Contains d u.0) (sym u.1) (contains_here u.0 []))))
      by_length (inr many) =
          ⊎_elim (λ e. ⊎_elim (λ f. w.1 (sym e ∙ f)) (λ f. apart n in_places (sym e) (sym f)) (either (watched_at hung.places (partner n)) (sub (watched_at hung.places (partner n)) w'.0)))
          (λ e. ⊎_elim (λ f. apart (partner n) in_places' (sym f) (sym (subst (λ (k : ℕ). other ≡ watched_at hung.places k) (sym (partner_twice n)) e))) (λ f. w.1 (sym e ∙ f)) (either (watched_at hung.places (partner n)) (sub (watched_at hung.places (partner n)) w'.0)))
          (either (watched_at hung.places n) (sub (watched_at hung.places n) w.0))
        where
          n : ℕ
          n = 2 * r.0

          live : clause_at clauses (n / 2) ≡ Some c
          live = subst (λ (k : ℕ). clause_at clauses k ≡ Some c) (omega arith) r.1

          live' : clause_at clauses (partner n / 2) ≡ Some c
          live' = subst (λ (k : ℕ). clause_at clauses k ≡ Some c) (sym (partner_owner n)) live

          w : Contains c (watched_at hung.places n) × (watched_at hung.places n ≢ watched_at hung.places (partner n))
          w = is.propagating.watching.watches n c live many

          w' : Contains c (watched_at hung.places (partner n)) × (watched_at hung.places (partner n) ≢ watched_at hung.places (partner (partner n)))
          w' = is.propagating.watching.watches (partner n) c live' many

          in_places : n < length hung.places
          in_places = omega (arith, is.propagating.watching.nodes, below)

          in_places' : partner n < length hung.places
          in_places' = let o = partner_owner n in omega (arith, is.propagating.watching.nodes, below, o)
