-- What a solver that keeps its clauses does, over the clauses that it began with.
use Rattle.std.specs.Prelude.{◌≡◌, ℕ, List, [], ◌∷◌, ◌++◌, slice_index_or, map, neg_ℤ, ℤ, true}
use Rattle.std.specs.List.{Contains}
use Rattle.std.proofs.Common.{sym, subst, inl, ⊎_elim}
use Rattle.std.proofs.lemmas.List.Elements.{All-contains, Contains-append_cases, Contains-append_left, Contains-append_right, Contains-get_or, Contains-push, Contains-push_cases}
use Rattle.clause_core.specs.Clause.{Clause, IsSubset, holds}
use Rattle.clause_core.specs.ClauseLines.{ClauseLine}
use Rattle.clause_core.specs.Log.{AreLogLines, IsLemma}
use Rattle.clause_core.specs.UnitPropagation.{IsRup}
use Rattle.clause_core.specs.declared.line.Line.TheVariants.{Add, Delete}
use Rattle.clause_core.proofs.CallerLemmas.{contains_cases, contains_here, contains_nil, contains_there}
use Rattle.clause_core.proofs.Copies.{same_self}
use Rattle.clause_core.proofs.Sets.{rup_by_sets}
use Rattle.cdcl_solver.specs.Deletions.{AreAdditions, OnlyAdds}
use Rattle.cdcl_solver.specs.Loading.{SameLive}
use Rattle.cdcl_solver.specs.Logs.{Continues, LogView}
use Rattle.cdcl_solver.specs.Solving.{IsAnswer, assignment_of}
use Rattle.cdcl_solver.specs.declared.solved.Solved.{Solved}
use Rattle.cdcl_solver.specs.declared.solved.Solved.TheVariants.{Refuted, Model, Spent}

-- each of the first is one of the second
abbrev pub Within : List Clause → List Clause → Type 0
Within xs ys = (c : Clause) → Contains xs c → Contains ys c

pub rup_within : (xs ys : List Clause) (c : Clause) → Within xs ys → IsRup xs c → IsRup ys c
rup_within xs ys c sub h = rup_by_sets xs ys c (λ d i. let j = sub d i in (j.0, d, j.1, j.2, same_self d)) h

-- The live clauses are the given ones and those that the log had left.
module _ (given live start : List Clause) (same : SameLive live (start ++ given)) (own : List Clause) (kept : Within start own) where
  pub to_given : Within (own ++ live) (own ++ given)
  to_given c i =
      ⊎_elim (Contains-append_left own given c) (λ l. ⊎_elim (λ s. Contains-append_left own given c (kept c s)) (Contains-append_right own given c) (Contains-append_cases start given c (same.there c l)))
      (Contains-append_cases own live c i)

  pub to_live : Within (own ++ given) (own ++ live)
  to_live c i = ⊎_elim (Contains-append_left own live c) (λ g. Contains-append_right own live c (same.back c (Contains-append_right start given c g))) (Contains-append_cases own given c i)

  lemma_kept : (c : Clause) → IsLemma (own ++ live) c → IsLemma (own ++ given) c
  lemma_kept c h = record {
    rup = rup_within (own ++ live) (own ++ given) c to_given h.rup;
    no_tautology = h.no_tautology;
    new = λ k d below. All-contains (λ x. ¬ (IsSubset x c)) (own ++ live) (slice_index_or (own ++ given) k d) h.new (to_live (slice_index_or (own ++ given) k d) (Contains-get_or (own ++ given) k d below));
  }

kept_on : (start own next : List Clause) (c : Clause) → Within start own → next ≡ c ∷ own → Within start next
kept_on start own next c kept is d i = subst (λ (z : List Clause). Contains z d) (sym is) (contains_there c own d (kept d i))

lines_kept : (given live start own : List Clause) (lines : List ClauseLine) (left : List Clause) → SameLive live (start ++ given) → Within start own → AreAdditions lines → AreLogLines live [] own lines left → AreLogLines given [] own lines left
lines_kept given live start own [] left same kept adds h = h
lines_kept given live start own (Add c ∷ lines) left same kept adds h = (
  h.0,
  (⊎_elim (λ l. inl (lemma_kept given live start same own kept c l)) (λ g. absurd (contains_nil c g.0)) h.1.0, h.1.1),
  lines_kept given live start h.0 lines left same (kept_on start own h.0 c kept h.1.1) adds h.2,
)
lines_kept given live start own (Delete c ∷ lines) left same kept adds h = absurd adds

left_kept : (given own : List Clause) (lines : List ClauseLine) (left : List Clause) → AreAdditions lines → AreLogLines given [] own lines left → Within own left
left_kept given own [] left adds h c i = subst (λ (z : List Clause). Contains z c) (sym h) i
left_kept given own (Add x ∷ lines) left adds h c i = left_kept given h.0 lines left adds h.2 c (subst (λ (z : List Clause). Contains z c) (sym h.1.1) (contains_there x own c i))
left_kept given own (Delete x ∷ lines) left adds h c i = absurd adds

module _ (max : ℕ) (given live : List Clause) (limit : ℕ) (old new : LogView) (same : SameLive live (old.left ++ given)) (adds : OnlyAdds old new) (h : Continues max live limit old new) where
  only_adds : AreAdditions h.more
  only_adds = adds h.more h.lines

  stays : Within old.left new.left
  stays = left_kept live old.left h.more new.left only_adds h.lawful

  pub continues_kept : Continues max given limit old new
  continues_kept = record {
    more = h.more;
    lines = h.lines;
    in_range = h.in_range;
    lawful = lines_kept given live old.left old.left h.more new.left same (λ c i. i) only_adds h.lawful;
    spaced = h.spaced;
    few = h.few;
  }

  pub answer_kept : (assumptions : List ℤ) (solved : Solved) → IsAnswer max live assumptions limit old new solved → IsAnswer max given assumptions limit old new solved
  answer_kept assumptions Refuted a = rup_within (new.left ++ live) (new.left ++ given) (map neg_ℤ assumptions) (to_given given live old.left same new.left stays) a
  answer_kept assumptions (Model values) a = (
    a.0,
    λ k d below.
        All-contains (λ c. holds (assignment_of values.items) c ≡ true) live (slice_index_or given k d) a.1 (same.back (slice_index_or given k d) (Contains-append_right old.left given (slice_index_or given k d) (Contains-get_or given k d below))),
    a.2,
  )
  answer_kept assumptions Spent a = (a.0, λ r. a.1 (rup_within (new.left ++ given) (new.left ++ live) (map neg_ℤ assumptions) (to_live given live old.left same new.left stays) r))

  pub live_kept : (after : List Clause) → SameLive after (new.left ++ live) → SameLive after (new.left ++ given)
  live_kept after now = record {
    there = λ c i. to_given given live old.left same new.left stays c (now.there c i);
    back = λ c i. now.back c (to_live given live old.left same new.left stays c i);
  }

-- one more clause is live and was left
pub live_pushed : (live left given : List Clause) (goal : Clause) → SameLive live (left ++ given) → SameLive (live ++ goal ∷ []) ((goal ∷ left) ++ given)
live_pushed live left given goal same = record {
  there = λ c i. ⊎_elim (λ j. contains_there goal (left ++ given) c (same.there c j)) (λ e. subst (Contains (goal ∷ left ++ given)) e (contains_here goal (left ++ given))) (Contains-push_cases live goal c i);
  back = λ c i. ⊎_elim (λ e. subst (Contains (live ++ goal ∷ [])) e (Contains-push live goal)) (λ j. Contains-append_left live (goal ∷ []) c (same.back c j)) (contains_cases goal (left ++ given) c i);
}

pub live_itself : (clauses : List Clause) → SameLive clauses ([] ++ clauses)
live_itself clauses = record { there = λ c i. i; back = λ c i. i }

pub left_live : (live left given : List Clause) → SameLive live (left ++ given) → Within left live
left_live live left given same c i = same.back c (Contains-append_left left given c i)
