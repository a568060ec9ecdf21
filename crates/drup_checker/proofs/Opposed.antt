-- Where the negations of a clause's literals are assumed, a conflict shows that it follows, and a fixpoint that it doesn't.
use Rattle.std.specs.Prelude.{◌≡◌, ◌≢◌, ◌↔◌, ℕ, zero, suc, ◌+◌, ◌<◌, ◌^◌, true, List, [], ◌∷◌, ◌++◌, map, length, take, ℤ, pos, negsuc, neg_ℤ, nat_abs, is_some}
use Rattle.std.specs.declared.option.Option.{Option}
use Rattle.std.specs.declared.option.Option.TheVariants.{None, Some}
use Rattle.std.specs.List.{All, Contains}
use Rattle.std.proofs.Common.{refl, sym, ap, subst, ◌∙◌, arith, inl, inr, ⊎_elim, append_assoc, length-append}
use Rattle.std.proofs.lemmas.List.Elements.{Contains-append_left, Contains-append_right}
use Rattle.clause_core.specs.Clause.{Clause}
use Rattle.clause_core.specs.UnitPropagation.{IsRefuted, IsRup, IsTautology}
use Rattle.clause_core.proofs.CallerLemmas.{at, at_contained, below_suc, contains_at, contains_cases, contains_here, contains_map, contains_nil, contains_there, fixpoint_leaves_no_chain, refuted_more}
use Rattle.drup_checker.specs.Opposing.{IsClauseMet, IsLiteralOf, Opposes, OpposesFirst, StandsMore}
use Rattle.unit_prop.specs.Trail.{IsLiteralUpTo}
use Rattle.unit_prop.specs.Standing.{Assumes, HasNoAssumption, IsFound, IsMark, IsSound, Propagates, Standing, assumed_of, back_at, live_of, standing_with}
use Rattle.unit_prop.specs.declared.assumed.Assumed.{Assumed}
use Rattle.unit_prop.specs.declared.assumed.Assumed.TheVariants.{Fresh, Known, Opposed}
use Rattle.unit_prop.proofs.CallerLemmas.{assumed_with, consistent, follows, free_assumes_none}

pub neg_neg : (l : ℤ) → neg_ℤ (neg_ℤ l) ≡ l
neg_neg (pos zero) = refl
neg_neg (pos (suc v)) = refl
neg_neg (negsuc v) = refl

pub within_neg : (max : ℕ) (l : ℤ) → nat_abs l < 2 ^ 31 → IsLiteralOf max (neg_ℤ l) → IsLiteralUpTo max (neg_ℤ l)
within_neg max (pos zero) small h = absurd (h.0 refl)
within_neg max (pos (suc v)) small h = let most = h.1 in (omega arith, omega arith)
within_neg max (negsuc v) small h = let most = h.1 in ((omega arith, omega arith), omega arith)

-- an image has its origin
pub origin : (c : List ℤ) (y : ℤ) → Contains (map neg_ℤ c) y → (x : ℤ) × Contains c x × (neg_ℤ x ≡ y)
origin [] y h = absurd (contains_nil y h)
origin (x ∷ c) y h = ⊎_elim (λ e. (x, contains_here x c, e)) (λ r. let o = origin c y r in (o.0, contains_there x c o.0 o.1, o.2)) (contains_cases (neg_ℤ x) (map neg_ℤ c) y h)

-- a literal and its negation make a tautology
pub tautology : (c : Clause) (l : ℤ) → l ≢ pos 0 → Contains c l → Contains c (neg_ℤ l) → IsTautology c
tautology c (pos zero) n h k = absurd (n refl)
tautology c (pos (suc v)) n h k = (suc v, omega arith, h, k)
tautology c (negsuc v) n h k = (suc v, omega arith, k, h)

-- ---- what stood before

append_none : {X : Type 0} (xs : List X) → xs ++ [] ≡ xs
append_none [] = refl
append_none (x ∷ xs) = ap (λ ys. x ∷ ys) (append_none xs)

pub begins_now : (s : Standing) → StandsMore s s
begins_now s = record { literals = []; causes = []; clauses = refl; greatest = refl; units = refl; trail = sym (append_none s.trail.literals); reasons = sym (append_none s.trail.reasons) }

pub begins_same : (old now next : Standing) → next ≡ now → StandsMore old now → StandsMore old next
begins_same old now next e h = subst (StandsMore old) (sym e) h

begins_with : (old now : Standing) (l : ℤ) → StandsMore old now → StandsMore old (standing_with now l None)
begins_with old now l h = record {
  literals = h.literals ++ l ∷ [];
  causes = h.causes ++ None ∷ [];
  clauses = h.clauses;
  greatest = h.greatest;
  units = h.units;
  trail = ap (λ ls. ls ++ l ∷ []) h.trail ∙ append_assoc old.trail.literals h.literals (l ∷ []);
  reasons = ap (λ rs. rs ++ None ∷ []) h.reasons ∙ append_assoc old.trail.reasons h.causes (None ∷ []);
}

pub begins_more : (old now next : Standing) → StandsMore old now → Propagates now next → StandsMore old next
begins_more old now next h p = record {
  literals = h.literals ++ p.literals;
  causes = h.causes ++ map Some p.causes;
  clauses = p.clauses ∙ h.clauses;
  greatest = p.greatest ∙ h.greatest;
  units = p.units ∙ h.units;
  trail = p.trail ∙ ap (λ ls. ls ++ p.literals) h.trail ∙ append_assoc old.trail.literals h.literals p.literals;
  reasons = p.reasons ∙ ap (λ rs. rs ++ map Some p.causes) h.reasons ∙ append_assoc old.trail.reasons h.causes (map Some p.causes);
}

take_front : {X : Type 0} (xs ys : List X) (n : ℕ) → n ≡ length xs → take n (xs ++ ys) ≡ xs
take_front [] ys zero e = refl
take_front [] ys (suc n) e = absurd (omega arith)
take_front (x ∷ xs) ys zero e = absurd (omega arith)
take_front (x ∷ xs) ys (suc n) e = ap (λ zs. x ∷ zs) (take_front xs ys n (omega arith))

-- so going back to it gives it
pub back_is : (old now : Standing) (mark : ℕ) → IsSound old → mark ≡ length old.trail.literals → StandsMore old now → back_at now mark ≡ old
back_is old now mark sound count h =
    let lits : take mark now.trail.literals ≡ old.trail.literals = ap (take mark) h.trail ∙ take_front old.trail.literals h.literals mark count in
    let reasons : take mark now.trail.reasons ≡ old.trail.reasons = ap (take mark) h.reasons ∙ take_front old.trail.reasons h.causes mark (count ∙ sym sound.paired) in
    λ i. record { clauses = h.clauses i; trail = record { greatest = h.greatest i; literals = lits i; reasons = reasons i }; units = h.units i }

pub still_mark : (old now : Standing) (mark : ℕ) → IsMark old mark → StandsMore old now → IsMark now mark
still_mark old now mark is h =
    let low = is.0 in
    let high = is.1 in
    let same = h.units in
    let more : length now.trail.literals ≡ length old.trail.literals + length h.literals = ap length h.trail ∙ length-append old.trail.literals h.literals in
    (omega arith, omega arith)

-- ---- one literal after the other

pub opposes_none : (s : Standing) (c : Clause) → HasNoAssumption s → OpposesFirst s s c 0
opposes_none s c free = record {
  begins = begins_now s;
  assumed = λ l h. absurd (contains_nil l (subst (λ (xs : List ℤ). Contains xs l) (free_assumes_none s free) h));
  standing = λ i h. absurd (omega arith);
}

module _ (old now next : Standing) (c : Clause) (n : ℕ) (h : OpposesFirst old now c n) (sound : IsSound now) (below : n < length c) where
  has : Contains c (at c n)
  has = contains_at c n below

  fresh : Assumes now (neg_ℤ (at c n)) Fresh next → OpposesFirst old next c (n + 1)
  fresh a = subst (λ s. OpposesFirst old s c (n + 1)) (sym a.0) record {
    begins = begins_with old now (neg_ℤ (at c n)) h.begins;
    assumed = λ l k. ⊎_elim (h.assumed l) (λ e. subst (Contains (map neg_ℤ c)) (sym e) (contains_map c (at c n) has)) (assumed_with now.trail.literals now.trail.reasons (neg_ℤ (at c n)) l sound.paired k);
    standing = λ i b. ⊎_elim (λ k. Contains-append_left now.trail.literals (neg_ℤ (at c n) ∷ []) (neg_ℤ (at c i)) (h.standing i k))
        (λ e. subst (λ j. Contains (now.trail.literals ++ neg_ℤ (at c n) ∷ []) (neg_ℤ (at c j))) (sym e) (Contains-append_right now.trail.literals (neg_ℤ (at c n) ∷ []) (neg_ℤ (at c n)) (contains_here (neg_ℤ (at c n)) [])))
        (below_suc i n b);
  }

  known : Assumes now (neg_ℤ (at c n)) Known next → OpposesFirst old next c (n + 1)
  known a = subst (λ s. OpposesFirst old s c (n + 1)) (sym a.0) record {
    begins = h.begins;
    assumed = h.assumed;
    standing = λ i b. ⊎_elim (λ k. h.standing i k) (λ e. subst (λ j. Contains now.trail.literals (neg_ℤ (at c j))) (sym e) a.1) (below_suc i n b);
  }

  -- the literal stands: it follows from what was assumed, or it was assumed, and then the clause has its negation
  pub opposed_rup : at c n ≢ pos 0 → Assumes now (neg_ℤ (at c n)) Opposed next → IsRup (live_of old.clauses) c
  opposed_rup sign a =
      let stands : Contains now.trail.literals (at c n) = subst (Contains now.trail.literals) (neg_neg (at c n)) a.1 in
      ⊎_elim assumed_too refuted (follows now sound (at c n) stands)
    where
      assumed_too : Contains (assumed_of now) (at c n) → IsRup (live_of old.clauses) c
      assumed_too k =
          let o = origin c (at c n) (h.assumed (at c n) k) in
          inr (tautology c (at c n) sign has (subst (Contains c) (sym (neg_neg o.0) ∙ ap neg_ℤ o.2) o.1))

      refuted : IsRefuted (live_of now.clauses) (neg_ℤ (at c n) ∷ assumed_of now) → IsRup (live_of old.clauses) c
      refuted r =
          inl (subst (λ z. IsRefuted (live_of z) (map neg_ℤ c)) h.begins.clauses
          (refuted_more (live_of now.clauses) (neg_ℤ (at c n) ∷ assumed_of now) (map neg_ℤ c)
          (λ k i. ⊎_elim (λ e. subst (Contains (map neg_ℤ c)) e (contains_map c (at c n) has)) (h.assumed k) (contains_cases (neg_ℤ (at c n)) (assumed_of now) k i)) r))

-- one literal more is opposed, unless it stands
pub opposes_more : (old now next : Standing) (c : Clause) (n : ℕ) (answer : Assumed) → OpposesFirst old now c n → IsSound now → n < length c → answer ≢ Opposed → Assumes now (neg_ℤ (at c n)) answer next →
    OpposesFirst old next c (n + 1)
opposes_more old now next c n Fresh h sound below other a = fresh old now next c n h sound below a
opposes_more old now next c n Known h sound below other a = known old now next c n h sound below a
opposes_more old now next c n Opposed h sound below other a = absurd (other refl)

-- one that stands is met
pub opposed_met : (old now next : Standing) (c : Clause) (n : ℕ) → OpposesFirst old now c n → IsSound now → n < length c → Assumes now (neg_ℤ (at c n)) Opposed next → IsClauseMet next c (at c n)
opposed_met old now next c n h sound below a = subst (λ (s : Standing). IsClauseMet s c (at c n)) (sym a.0) (record {
  sound = sound;
  assumed = h.assumed;
  has = contains_at c n below;
  stands = subst (Contains now.trail.literals) (neg_neg (at c n)) a.1;
})

-- ---- after propagation

negated_stand : (old now : Standing) (c : Clause) → Opposes old now c → (l : ℤ) → Contains c l → Contains now.trail.literals (neg_ℤ l)
negated_stand old now c h l has = let p = at_contained c l has in subst (λ k. Contains now.trail.literals (neg_ℤ k)) p.2 (h.standing p.0 p.1)

stand_then : (old now next : Standing) (c : Clause) → Opposes old now c → Propagates now next → (l : ℤ) → Contains c l → Contains next.trail.literals (neg_ℤ l)
stand_then old now next c h p l has = subst (λ ls. Contains ls (neg_ℤ l)) (sym p.trail) (Contains-append_left now.trail.literals p.literals (neg_ℤ l) (negated_stand old now c h l has))

-- all literals of a tautology can't be opposed
pub opposed_proper : (old now next : Standing) (c : Clause) → Opposes old now c → Propagates now next → IsSound next → IsTautology c → ⊥
opposed_proper old now next c h p sound t =
    consistent next sound (neg_ℤ (pos t.0)) (stand_then old now next c h p (pos t.0) t.2) (stand_then old now next c h p (neg_ℤ (pos t.0)) t.3)

pub found_rup : (old now next : Standing) (c : Clause) (found : Option ℕ) → Opposes old now c → Propagates now next → IsFound now next found → IsSound next → (is_some found ≡ true) ↔ IsRup (live_of old.clauses) c
found_rup old now next c (Some r) h p f sound = (
  λ t. inl (subst (λ z. IsRefuted (live_of z) (map neg_ℤ c)) h.begins.clauses (refuted_more (live_of now.clauses) (assumed_of now) (map neg_ℤ c) h.assumed f.1)),
  λ rup. refl,
)
found_rup old now next c None h p f sound = (λ t. absurd (cc), λ rup. absurd (⊎_elim no_chain (opposed_proper old now next c h p sound) rup))
  where
    no_chain : IsRefuted (live_of old.clauses) (map neg_ℤ c) → ⊥
    no_chain r =
        fixpoint_leaves_no_chain (live_of next.clauses) next.trail.literals (map neg_ℤ c) r.0 f.0
        (λ y k. let o = origin c y k in subst (Contains next.trail.literals) o.2 (stand_then old now next c h p o.0 o.1))
        (subst (λ z. All (Contains (live_of z)) r.0) (sym (p.clauses ∙ h.begins.clauses)) r.1) r.2
