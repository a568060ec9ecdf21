-- What a checker keeps, as a clause is added or removed.
use Rattle.std.specs.Prelude.{◌≡◌, ℕ, suc, ◌++◌, ◌∷◌, [], Bool, List, length}
use Rattle.std.specs.List.{All, AllByRecursion}
use Rattle.std.proofs.Common.{refl, sym, ap, ap₂, subst, ◌∙◌, arith, ⊎_elim}
use Rattle.std.proofs.lemmas.Bool.{cases_lt}
use Rattle.std.proofs.lemmas.List.{get_or_append_left, get_or_push, length_push}
use Rattle.std.proofs.lemmas.List.Elements.{All-append, All-cons, All-from_recursion, All-nil, recursion_from_All}
use Rattle.graph_core.specs.declared.gate.Gate.{Gate}
use Rattle.clause_core.specs.Clause.{Clause, HasSigns, IsClauseInRange}
use Rattle.clause_core.specs.ClauseLines.{Removes}
use Rattle.clause_core.specs.Facts.{IsClauseFact}
use Rattle.clause_core.specs.GateClauses.{gate_clauses}
use Rattle.clause_core.specs.Likeness.{AreSameSets}
use Rattle.clause_core.specs.UnitPropagation.{IsRup}
use Rattle.clause_core.proofs.CallerLemmas.{as_many, facts_stay, same_flip, tight_chains_go_on}
use Rattle.clause_core.specs.KeptClauses.{AreBelow, AreEarlier}
use Rattle.drup_checker.specs.Checking.{AddsRup, AreChained, Deletes, Held, IsTightChainOf, KeepsClauses, LosesOne, Numbered, ShowsBy, Starts, checking, held_with, kept, kept_uses, more, unnumbered}
use Rattle.drup_checker.specs.declared.keeps.Keeps.{Keeps}
use Rattle.drup_checker.specs.declared.keeps.Keeps.TheVariants as keep
use Rattle.drup_checker.proofs.Tags.{AreTagged, chain_of_tagged, numbers_below, tagged_fewer, tagged_first, tagged_more}
use Rattle.miter_encoder.specs.declared.goal.Goal.{Goal}

-- of one clause what is kept is that clause, or nothing
one_or_none : (P : Clause → Type 0) (keeps : Keeps) (c : Clause) → P c → All P (kept keeps (c ∷ []))
one_or_none P keep.Nothing c h = All-nil P
one_or_none P keep.Clauses c h = All-cons P c [] h (All-nil P)
one_or_none P keep.Chains c h = All-cons P c [] h (All-nil P)

no_uses : (keeps : Keeps) (uses : List (List ℕ)) → (keeps ≡ keep.Chains → ⊥) → kept_uses keeps uses ≡ []
no_uses keep.Nothing uses other = refl
no_uses keep.Clauses uses other = refl
no_uses keep.Chains uses other = absurd (other refl)

-- ---- chains

earlier_more : (uses : List (List ℕ)) (named : List ℕ) → AreEarlier uses → AreBelow (length uses) named → AreEarlier (uses ++ named ∷ [])
earlier_more uses named h low i within = ⊎_elim
    (λ before. subst (AreBelow i) (sym (get_or_append_left uses (named ∷ []) [] i before)) (h i before))
    (λ behind. let last : i ≡ length uses = omega (arith, length_push uses named) in
    subst (AreBelow i) (sym (get_or_push uses named [] i (sym last))) (subst (λ (n : ℕ). AreBelow n named) (sym last) low))
    (cases_lt i (length uses))

module _ (gates : List Gate) (numbered : List Numbered) (added : List Clause) (uses : List (List ℕ)) (count : ℕ) (h : AreChained gates numbered added uses count) where
  chained_more : (c : Clause) (named : List ℕ) (number : ℕ) → IsTightChainOf numbered c named → number ≡ suc count →
      AreChained gates (numbered ++ record { clause = c; number = number } ∷ []) (added ++ c ∷ []) (uses ++ named ∷ []) number
  chained_more c named number t next =
      let same : length uses ≡ length added = as_many (gate_clauses gates) [] added uses h.chains in
      let counted = h.counted in record {
        chains = tight_chains_go_on (gate_clauses gates) added uses c named h.chains (chain_of_tagged (gate_clauses gates) added numbered h.tagged c named t);
        earlier = earlier_more uses named h.earlier (subst (λ (n : ℕ). AreBelow n named) (sym same) (numbers_below (gate_clauses gates) added numbered h.tagged c named t));
        tagged = tagged_more (gate_clauses gates) added c numbered number (next ∙ ap suc counted) h.tagged;
        counted = omega (arith, length_push added c);
      }

  chained_fewer : (c : Clause) (new : List Numbered) → LosesOne c numbered new → AreChained gates new added uses count
  chained_fewer c new loses =
      record { chains = h.chains; earlier = h.earlier; tagged = tagged_fewer (gate_clauses gates) added c numbered new loses h.tagged; counted = h.counted }

-- whatever is used comes before, where nothing is kept too
pub are_earlier : (gates : List Gate) (h : Held) (goals : List Goal) (shown : List Bool) (keeps : Keeps) (added : List Clause) (uses : List (List ℕ)) (count : ℕ) → KeepsClauses gates h goals shown keeps added uses count → AreEarlier uses
are_earlier gates h goals shown keep.Nothing added uses count k = subst AreEarlier (sym (k.none_used (λ e. absurd (cc)))) (λ i low. absurd (omega arith))
are_earlier gates h goals shown keep.Clauses added uses count k = subst AreEarlier (sym (k.none_used (λ e. absurd (cc)))) (λ i low. absurd (omega arith))
are_earlier gates h goals shown keep.Chains added uses count k = (k.chained refl).earlier

-- ---- one line

module _ (gates : List Gate) (s u : Held) (goals : List Goal) (shown : List Bool) (keeps : Keeps) (added : List Clause) (uses : List (List ℕ)) (count : ℕ) (c : Clause)
    (before : KeepsClauses gates s goals shown keeps added uses count) where
  module _ (new : List Bool) (named : List ℕ) (number : ℕ) (adds : u ≡ held_with s c number) (rup : IsRup s.live c) where
    abbrev more_added : List Clause
    more_added = added ++ kept keeps (c ∷ [])

    abbrev more_uses : List (List ℕ)
    more_uses = uses ++ kept_uses keeps (named ∷ [])

    chained : keeps ≡ keep.Chains → IsTightChainOf s.numbered c named → number ≡ suc count → AreChained gates u.numbered more_added more_uses number
    chained is tight next =
        subst (λ (k : Keeps). AreChained gates u.numbered (added ++ kept k (c ∷ [])) (uses ++ kept_uses k (named ∷ [])) number) (sym is)
        (subst (λ (h : Held). AreChained gates h.numbered (added ++ c ∷ []) (uses ++ named ∷ []) number) (sym adds)
        (chained_more gates s.numbered added uses count (before.chained is) c named number tight next))

    -- a clause that follows is a fact beside the others
    pub kept_added : (max : ℕ) → IsClauseInRange max c → length new ≡ length shown → (keeps ≡ keep.Chains → IsTightChainOf s.numbered c named) → (keeps ≡ keep.Chains → number ≡ suc count) →
        KeepsClauses gates u goals new keeps more_added more_uses number
    kept_added max in_range same tight next = record {
      facts = subst (λ (h : Held). All (IsClauseFact gates) h.live) (sym adds) (All-append (IsClauseFact gates) s.live (c ∷ []) before.facts (All-cons (IsClauseFact gates) c [] fact (All-nil (IsClauseFact gates))));
      places = same ∙ before.places;
      added_facts = All-append (IsClauseFact gates) added (kept keeps (c ∷ [])) before.added_facts (one_or_none (IsClauseFact gates) keeps c fact);
      none_added = λ is. ap₂ ◌++◌ (before.none_added is) (ap (λ (k : Keeps). kept k (c ∷ [])) is);
      none_used = λ other. ap₂ ◌++◌ (before.none_used other) (no_uses keeps (named ∷ []) other);
      chained = λ is. chained is (tight is) (next is);
    }
      where
        signs : HasSigns c
        signs = λ k d h. (in_range k d h).0

        fact : IsClauseFact gates c
        fact = facts_stay.added gates s.live c before.facts signs rup

    pub is_added : number ≡ more count → ShowsBy c goals shown new → AddsRup c (checking gates s goals shown keeps added uses count) (checking gates u goals new keeps more_added more_uses number)
    is_added next shows = record {
      follows = rup;
      live = ap (λ (h : Held). h.live) adds;
      shown = shows;
      gates = refl;
      max = ap (λ (h : Held). h.max) adds;
      goals = refl;
      keeps = refl;
      added = refl;
      uses = (named, refl);
      numbered = ap (λ (h : Held). h.numbered) adds;
      count = next;
    }

  pub kept_removed : Removes s.live c u.live → LosesOne c s.numbered u.numbered → KeepsClauses gates u goals shown keeps added uses count
  kept_removed removes loses = record {
    facts = facts_stay.removed gates s.live c u.live before.facts removes;
    places = before.places;
    added_facts = before.added_facts;
    none_added = before.none_added;
    none_used = before.none_used;
    chained = λ is. chained_fewer gates s.numbered added uses count (before.chained is) c u.numbered loses;
  }

  pub is_deleted : Removes s.live c u.live → LosesOne c s.numbered u.numbered → u.max ≡ s.max → Deletes c (checking gates s goals shown keeps added uses count) (checking gates u goals shown keeps added uses count)
  is_deleted removes loses max = record { removes = removes; shown = refl; gates = refl; max = max; goals = refl; keeps = refl; added = refl; uses = refl; numbered = loses; count = refl }

-- ---- the clauses of the gates

facts_same : (gates : List Gate) (cs ds : List Clause) → AreSameSets cs ds → AllByRecursion (IsClauseFact gates) ds → AllByRecursion (IsClauseFact gates) cs
facts_same gates [] [] same h = tt
facts_same gates [] (d ∷ ds) same h = absurd same
facts_same gates (c ∷ cs) [] same h = absurd same
facts_same gates (c ∷ cs) (d ∷ ds) same h = (facts_stay.same gates d c (same_flip c d same.0) h.0, facts_same gates cs ds same.1 h.1)

abbrev pub held_first_of : ℕ → List Clause → Held
held_first_of max cs = record { max = max; live = cs; numbered = unnumbered cs }

pub kept_first : (gates : List Gate) (max : ℕ) (new : Held) (cs : List Clause) (goals : List Goal) (shown : List Bool) → new ≡ held_first_of max cs → AreSameSets cs (gate_clauses gates) → length shown ≡ length goals → (keeps : Keeps) → KeepsClauses gates new goals shown keeps [] [] 0
kept_first gates max new cs goals shown is same places keeps = record {
  facts = subst (λ (h : Held). All (IsClauseFact gates) h.live) (sym is)
      (All-from_recursion (IsClauseFact gates) cs (facts_same gates cs (gate_clauses gates) same (recursion_from_All (IsClauseFact gates) (gate_clauses gates) (facts_stay.gates_are gates))));
  places = places;
  added_facts = All-nil (IsClauseFact gates);
  none_added = λ other. refl;
  none_used = λ other. refl;
  chained = λ chains. record {
    chains = tt;
    earlier = λ i low. absurd (omega arith);
    tagged = subst (λ (h : Held). AreTagged (gate_clauses gates) [] h.numbered) (sym is) (tagged_first (gate_clauses gates) cs same);
    counted = refl;
  };
}

-- what a new checker has
pub starts : (gates : List Gate) (max : ℕ) (new : Held) (cs : List Clause) (goals : List Goal) (shown : List Bool) (keeps : Keeps) → new ≡ held_first_of max cs → Starts gates max cs goals keeps (checking gates new goals shown keeps [] [] 0)
starts gates max new cs goals shown keeps is = record {
  keeps_is = refl;
  added_is = refl;
  uses_are = refl;
  count_is = refl;
  gates_are = refl;
  max_is = ap (λ (h : Held). h.max) is;
  live_is = ap (λ (h : Held). h.live) is;
  numbered_are = ap (λ (h : Held). h.numbered) is;
  goals_are = refl;
}
