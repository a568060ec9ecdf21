-- A checker's steps are lawful lines, and its marks are right.
use Rattle.std.specs.Prelude.{◌≡◌, ◌↔◌, ◌<◌, ◌⊎◌, true, List, [], ◌∷◌, ◌++◌, length}
use Rattle.std.specs.List.{Any}
use Rattle.std.proofs.Common.{refl, sym, ap, subst, ◌∙◌, arith, inl, inr, ⊎_elim}
use Rattle.std.proofs.lemmas.List.Quantifiers.{Any-push}
use Rattle.graph_core.proofs.OfGraphs.CallerLemmas.{any_cases, any_front, any_here, any_nil, any_there}
use Rattle.clause_core.specs.Clause.{Clause, IsSubset, SameSet}
use Rattle.clause_core.specs.ClauseLines.{ClauseLine, added}
use Rattle.clause_core.specs.Likeness.{AreSameSets, HaveSameCopies}
use Rattle.clause_core.specs.declared.line.Line.TheVariants.{Add, Delete}
use Rattle.clause_core.proofs.CallerLemmas.{alike_adds, alike_any, alike_flip, alike_joins, alike_removes, alike_rup, removes_any, removes_some, same_alike, same_flip}
use Rattle.drup_checker.specs.Checking.{AddsRup, Checking, Deletes, goal_at, kept, shown_at}
use Rattle.drup_checker.specs.declared.keeps.Keeps.{Keeps}
use Rattle.drup_checker.specs.declared.keeps.Keeps.TheVariants as keep
use Rattle.drup_checker.specs.Steps.{AddedAreRight, HasAdded, HasShown, MarksAreRight, StepsAreLawful}

-- a clause at the end, or at the front
alike_end : (live : List Clause) (c : Clause) → HaveSameCopies (live ++ c ∷ []) (c ∷ live)
alike_end [] c k = refl
alike_end (d ∷ live) c k = let more = alike_end live c k in omega (arith, more)

pub steps_are_lawful : StepsAreLawful
steps_are_lawful = record {
  begins = λ k cs given is same. subst (λ xs. HaveSameCopies xs given) (sym is) (same_alike cs given same);
  adds = λ c d old new live alike same a. (
    alike_rup old.live live c d alike same a.follows,
    subst (λ xs. HaveSameCopies xs (d ∷ live)) (sym a.live) (alike_joins (old.live ++ c ∷ []) (c ∷ old.live) (d ∷ live) (alike_end old.live c) (alike_adds old.live live c d alike same)),
  );
  not_implied = λ c d old live alike same n rup. n (alike_rup live old.live d c (alike_flip old.live live alike) (same_flip c d same) rup);
  deletes = λ c d old new live alike same r.
      let some = removes_some live d (alike_any old.live live c d alike same (removes_any old.live c new.live r.removes)) in
      (some.0, some.1, alike_removes old.live live c d new.live some.0 alike same r.removes some.1);
  nowhere = λ c d old live alike same n some. n (alike_any live old.live d c (alike_flip old.live live alike) (same_flip c d same) some);
}

-- ---- marks

added_more : (lines : List ClauseLine) (c : Clause) → added (lines ++ Add c ∷ []) ≡ added lines ++ c ∷ []
added_more [] c = refl
added_more (Add d ∷ lines) c = ap (λ (xs : List Clause). d ∷ xs) (added_more lines c)
added_more (Delete d ∷ lines) c = added_more lines c

added_same : (lines : List ClauseLine) (c : Clause) → added (lines ++ Delete c ∷ []) ≡ added lines
added_same [] c = refl
added_same (Add d ∷ lines) c = ap (λ (xs : List Clause). d ∷ xs) (added_same lines c)
added_same (Delete d ∷ lines) c = added_same lines c

any_end : (P : Clause → Type 0) (xs : List Clause) (c : Clause) → Any P (xs ++ c ∷ []) → Any P xs ⊎ P c
any_end P [] c h = ⊎_elim inr (λ n. absurd (any_nil P n)) (any_cases P c [] h)
any_end P (x ∷ xs) c h = ⊎_elim (λ p. inl (any_here P x xs p)) (λ r. ⊎_elim (λ a. inl (any_there P x xs a)) inr (any_end P xs c r)) (any_cases P x (xs ++ c ∷ []) h)

marks_added : (c d : Clause) (old new : Checking) (lines : List ClauseLine) → HasShown old lines → SameSet c d → AddsRup c old new → HasShown new (lines ++ Add d ∷ [])
marks_added c d old new lines h same a i below =
    let low : i < length old.goals = subst (λ gs. i < length gs) a.goals below in
    let before = h i low in
    let told = a.shown i (record { column = 0; clause = []; met = true }) low in
    let goal = (goal_at old.goals i).clause in
    subst (λ gs. (shown_at new.shown i ≡ true) ↔ Any (λ x. IsSubset x (goal_at gs i).clause) (added (lines ++ Add d ∷ []))) (sym a.goals)
    (subst (λ xs. (shown_at new.shown i ≡ true) ↔ Any (λ x. IsSubset x goal) xs) (sym (added_more lines d)) (
      λ t. ⊎_elim (λ o. any_front (λ x. IsSubset x goal) (added lines) (d ∷ []) (before.0 o)) (λ s. Any-push (λ x. IsSubset x goal) (added lines) d (λ l k. s l (same.1 l k))) (told.0 t),
      λ s. told.1 (⊎_elim (λ o. inl (before.1 o)) (λ k. inr (λ l m. k l (same.0 l m))) (any_end (λ x. IsSubset x goal) (added lines) d s)),
    ))

marks_kept : (c d : Clause) (old new : Checking) (lines : List ClauseLine) → HasShown old lines → Deletes c old new → HasShown new (lines ++ Delete d ∷ [])
marks_kept c d old new lines h r i below =
    let low : i < length old.goals = subst (λ gs. i < length gs) r.goals below in
    subst (λ gs. (shown_at new.shown i ≡ true) ↔ Any (λ x. IsSubset x (goal_at gs i).clause) (added (lines ++ Delete d ∷ []))) (sym r.goals)
    (subst (λ marks. (shown_at marks i ≡ true) ↔ Any (λ x. IsSubset x (goal_at old.goals i).clause) (added (lines ++ Delete d ∷ []))) (sym r.shown)
    (subst (λ xs. (shown_at old.shown i ≡ true) ↔ Any (λ x. IsSubset x (goal_at old.goals i).clause) xs) (sym (added_same lines d)) (h i low)))

pub marks_are_right : MarksAreRight
marks_are_right = record { adds = marks_added; deletes = marks_kept }

-- ---- clauses that are kept

same_append : (cs ds es fs : List Clause) → AreSameSets cs ds → AreSameSets es fs → AreSameSets (cs ++ es) (ds ++ fs)
same_append [] [] es fs h k = k
same_append [] (d ∷ ds) es fs h k = absurd h
same_append (c ∷ cs) [] es fs h k = absurd h
same_append (c ∷ cs) (d ∷ ds) es fs h k = (h.0, same_append cs ds es fs h.1 k)

one_kept : (keeps : Keeps) (c d : Clause) → SameSet c d → AreSameSets (kept keeps (c ∷ [])) (kept keeps (d ∷ []))
one_kept keep.Nothing c d same = tt
one_kept keep.Clauses c d same = (same, tt)
one_kept keep.Chains c d same = (same, tt)

kept_more : (keeps : Keeps) (cs : List Clause) (d : Clause) → kept keeps (cs ++ d ∷ []) ≡ kept keeps cs ++ kept keeps (d ∷ [])
kept_more keep.Nothing cs d = refl
kept_more keep.Clauses cs d = refl
kept_more keep.Chains cs d = refl

more_added : (c d : Clause) (old new : Checking) (lines : List ClauseLine) → HasAdded old lines → SameSet c d → AddsRup c old new → HasAdded new (lines ++ Add d ∷ [])
more_added c d old new lines h same a =
    let all : kept old.keeps (added lines) ++ kept old.keeps (d ∷ []) ≡ kept new.keeps (added (lines ++ Add d ∷ [])) =
    sym (kept_more old.keeps (added lines) d) ∙ ap (kept old.keeps) (sym (added_more lines d)) ∙ ap (λ (k : Keeps). kept k (added (lines ++ Add d ∷ []))) (sym a.keeps) in
    subst (λ xs. AreSameSets xs (kept new.keeps (added (lines ++ Add d ∷ [])))) (sym a.added)
    (subst (AreSameSets (old.added ++ kept old.keeps (c ∷ []))) all
    (same_append old.added (kept old.keeps (added lines)) (kept old.keeps (c ∷ [])) (kept old.keeps (d ∷ [])) h (one_kept old.keeps c d same)))

same_added : (c d : Clause) (old new : Checking) (lines : List ClauseLine) → HasAdded old lines → Deletes c old new → HasAdded new (lines ++ Delete d ∷ [])
same_added c d old new lines h r =
    subst (λ xs. AreSameSets xs (kept new.keeps (added (lines ++ Delete d ∷ [])))) (sym r.added)
    (subst (AreSameSets old.added) (ap (kept old.keeps) (sym (added_same lines d)) ∙ ap (λ (k : Keeps). kept k (added (lines ++ Delete d ∷ []))) (sym r.keeps)) h)

pub added_are_right : AddedAreRight
added_are_right = record { adds = more_added; deletes = same_added }
