-- The first clauses that show goals are marked.
use Rattle.std.specs.Prelude.{◌≡◌, ℕ, ◌<◌, ◌≤◌, Bool, true, false, not, cond, List, [], ◌∷◌, ◌++◌, length, map, slice_index_or}
use Rattle.std.specs.List.{filter}
use Rattle.std.proofs.Common.{sym, ap, subst, ◌∙◌, arith, inl, inr, ⊎_elim}
use Rattle.std.proofs.lemmas.List.{append-nil, get_or_default, map-append}
use Rattle.std.proofs.lemmas.List.Elements.{All-push, filter-append}
use Rattle.std.proofs.lemmas.List.Quantifiers.{Any-push}
use Rattle.graph_core.proofs.OfGraphs.CallerLemmas.{any_front}
use Rattle.clause_core.specs.Clause.{Clause, IsSubset}
use Rattle.miter_encoder.specs.declared.goal.Goal.{Goal}
use Rattle.clause_core.specs.KeptClauses.{IsFirstShowing}
use Rattle.pair_trim.specs.Marking.{IsSet, IsShownIn, MarksFirst, MarksRoots, unmet}

-- none of the first clauses shows the goal
abbrev pub NoneShows : List Clause → Clause → ℕ → Type 0
NoneShows clauses goal n = (j : ℕ) → j < n → IsSubset (slice_index_or clauses j []) goal → ⊥

pub none_found : (clauses : List Clause) (goal : Clause) (n : ℕ) → NoneShows clauses goal n → length clauses ≤ n → IsShownIn clauses goal → ⊥
none_found clauses goal n none end (j, c, low, is, sub) =
    none j (omega arith) (subst (λ (d : Clause). IsSubset d goal) (sym (get_or_default clauses j [] c low ∙ is)) sub)

-- ---- all goals

pub roots_more : (goals clauses : List Clause) (g : Clause) (old mid new : List Bool) → MarksRoots goals clauses old mid → MarksFirst g clauses mid new → MarksRoots (goals ++ g ∷ []) clauses old new
roots_more goals clauses g old mid new h m = record {
  places = m.places ∙ h.places;
  still = λ i s. m.still i (h.still i s);
  each = All-push (λ x. IsShownIn clauses x → (i : ℕ) × IsSet new i × IsFirstShowing clauses i x) goals g
      (λ k d low shown. let r = h.each k d low shown in (r.0, m.still r.0 r.1, r.2)) m.marked;
  only = λ i s. ⊎_elim (λ o. ⊎_elim inl (λ a. inr (any_front (IsFirstShowing clauses i) goals (g ∷ []) a)) (h.only i o)) (λ f. inr (Any-push (IsFirstShowing clauses i) goals g f)) (m.only i s);
}

unmet_push : (goals : List Goal) (g : Goal) → unmet (goals ++ g ∷ []) ≡ unmet goals ++ map (λ (x : Goal). x.clause) (cond (not g.met) (g ∷ []) [])
unmet_push goals g =
    ap (map (λ (x : Goal). x.clause)) (filter-append (λ (x : Goal). not x.met) goals (g ∷ [])) ∙ map-append (λ (x : Goal). x.clause) (filter (λ (x : Goal). not x.met) goals) (cond (not g.met) (g ∷ []) [])

pub unmet_met : (goals : List Goal) (g : Goal) → g.met ≡ true → unmet (goals ++ g ∷ []) ≡ unmet goals
unmet_met goals g e = unmet_push goals g ∙ ap (λ (b : Bool). unmet goals ++ map (λ (x : Goal). x.clause) (cond (not b) (g ∷ []) [])) e ∙ append-nil (unmet goals)

pub unmet_more : (goals : List Goal) (g : Goal) → g.met ≡ false → unmet (goals ++ g ∷ []) ≡ unmet goals ++ g.clause ∷ []
unmet_more goals g e = unmet_push goals g ∙ ap (λ (b : Bool). unmet goals ++ map (λ (x : Goal). x.clause) (cond (not b) (g ∷ []) [])) e
