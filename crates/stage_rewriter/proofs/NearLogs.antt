-- A log over the clauses near an adder is one over all, where its lines are near.
use Rattle.std.specs.Prelude.{◌≡◌, ℕ, ◌+◌, ◌<◌, ◌≤◌, Bool, List, [], ◌∷◌, ◌++◌, length, drop, take, slice_index_or}
use Rattle.std.specs.List.{All, AllByRecursion, Contains}
use Rattle.std.proofs.Common.{sym, ap, subst, ◌∙◌, inl, inr, ⊎_elim, append_assoc, arith}
use Rattle.std.proofs.Math.Seq.{drop-append_seam}
use Rattle.std.proofs.lemmas.List.{take_more}
use Rattle.std.proofs.lemmas.List.Elements.{All-contains, Contains-append_cases, Contains-append_left, Contains-append_right, Contains-get_or, Contains-push, Contains-push_cases, recursion_from_All}
use Rattle.clause_core.specs.Clause.{Clause, IsClauseInRange, IsSubset}
use Rattle.clause_core.specs.ClauseLines.{ClauseLine}
use Rattle.clause_core.specs.Log.{AreLogLines, IsLemma}
use Rattle.clause_core.specs.declared.line.Line.TheVariants.{Add, Delete}
use Rattle.clause_core.specs.UnitPropagation.{IsRup}
use Rattle.clause_core.proofs.CallerLemmas.{contains_nil}
use Rattle.clause_core.proofs.Copies.{same_self}
use Rattle.clause_core.proofs.Sets.{rup_by_sets}
use Rattle.cdcl_solver.specs.Logs.{LogView, lemmas}
use Rattle.stage_rewriter.specs.NearClauses.{AreNearOf, IsMarkedLiteral, IsNear, IsNearLine, PushesNear}
use Rattle.goal_refuter.specs.Refuting.{IsShownNext}
use Rattle.goal_refuter.proofs.Kept.{Within}

-- ---- the clauses that are near

subset_near : (marks : List Bool) (c d : Clause) → IsSubset d c → IsNear marks c → IsNear marks d
subset_near marks c d sub near = λ k x below. All-contains (IsMarkedLiteral marks) c (slice_index_or d k x) near (sub (slice_index_or d k x) (Contains-get_or d k x below))

pub near_none : (marks : List Bool) (clauses near : List Clause) → near ≡ [] → AreNearOf marks (take 0 clauses) near
near_none marks [] near is = record { inside = λ c i. absurd (contains_nil c (subst (λ (z : List Clause). Contains z c) is i)); all = λ c i n. absurd (contains_nil c i) }
near_none marks (x ∷ clauses) near is = record { inside = λ c i. absurd (contains_nil c (subst (λ (z : List Clause). Contains z c) is i)); all = λ c i n. absurd (contains_nil c i) }

pushed : (marks : List Bool) (front old new : List Clause) (c : Clause) → AreNearOf marks front old → PushesNear marks c old new → AreNearOf marks (front ++ c ∷ []) new
pushed marks front old new c h (inl p) = record {
  inside = λ x i. ⊎_elim (λ j. Contains-append_left front (c ∷ []) x (h.inside x j)) (λ e. subst (Contains (front ++ c ∷ [])) e (Contains-push front c)) (Contains-push_cases old c x (subst (λ (z : List Clause). Contains z x) p.1 i));
  all = λ x i n. subst (λ (z : List Clause). Contains z x) (sym p.1) (⊎_elim (λ j. Contains-append_left old (c ∷ []) x (h.all x j n)) (λ e. subst (Contains (old ++ c ∷ [])) e (Contains-push old c)) (Contains-push_cases front c x i));
}
pushed marks front old new c h (inr p) = record {
  inside = λ x i. Contains-append_left front (c ∷ []) x (h.inside x (subst (λ (z : List Clause). Contains z x) p.1 i));
  all = λ x i n. subst (λ (z : List Clause). Contains z x) (sym p.1) (⊎_elim (λ j. h.all x j n) (λ e. absurd (p.0 (subst (IsNear marks) (sym e) n))) (Contains-push_cases front c x i));
}

pub near_more : (marks : List Bool) (clauses : List Clause) (i : ℕ) (c : Clause) (old new : List Clause) → i < length clauses → c ≡ slice_index_or clauses i c → AreNearOf marks (take i clauses) old → PushesNear marks c old new →
    AreNearOf marks (take (i + 1) clauses) new
near_more marks clauses i c old new below is h p =
    let all : take (i + 1) clauses ≡ take i clauses ++ slice_index_or clauses i c ∷ [] = take_more clauses i c below in
    subst (λ (z : List Clause). AreNearOf marks z new) (sym all)
    (subst (λ (d : Clause). AreNearOf marks (take i clauses ++ d ∷ []) new) is (pushed marks (take i clauses) old new c h p))

-- ---- a log over them

rup_more : (xs ys : List Clause) (c : Clause) → Within xs ys → IsRup xs c → IsRup ys c
rup_more xs ys c sub h = rup_by_sets xs ys c (λ d i. let j = sub d i in (j.0, d, j.1, j.2, same_self d)) h

module _ (marks : List Bool) (clauses near : List Clause) (is : AreNearOf marks clauses near) where
  over : (own : List Clause) → Within (own ++ near) (own ++ clauses)
  over own c i = ⊎_elim (Contains-append_left own clauses c) (λ n. Contains-append_right own clauses c (is.inside c n)) (Contains-append_cases own near c i)

  -- of the clauses only near ones are within a near clause
  back : (own : List Clause) (c : Clause) → IsNear marks c → (x : Clause) → IsSubset x c → Contains (own ++ clauses) x → Contains (own ++ near) x
  back own c n x sub i = ⊎_elim (Contains-append_left own near x) (λ g. Contains-append_right own near x (is.all x g (subset_near marks c x sub n))) (Contains-append_cases own clauses x i)

  lemma_near : (own : List Clause) (c : Clause) → IsNear marks c → IsLemma (own ++ near) c → IsLemma (own ++ clauses) c
  lemma_near own c n h = record {
    rup = rup_more (own ++ near) (own ++ clauses) c (over own) h.rup;
    no_tautology = h.no_tautology;
    new = λ k d below sub.
        let x : Clause = slice_index_or (own ++ clauses) k d in
        All-contains (λ y. ¬ (IsSubset y c)) (own ++ near) x h.new (back own c n x sub (Contains-get_or (own ++ clauses) k d below)) sub;
  }

  lines_near : (own : List Clause) (lines more : List ClauseLine) (left : List Clause) → AllByRecursion (IsNearLine marks) (lines ++ more) → AreLogLines near [] own lines left → AreLogLines clauses [] own lines left
  lines_near own [] more left n h = h
  lines_near own (Add c ∷ lines) more left n h = (
    h.0,
    (⊎_elim (λ l. inl (lemma_near own c n.0 l)) (λ g. absurd (contains_nil c g.0)) h.1.0, h.1.1),
    lines_near h.0 lines more left n.1 h.2,
  )
  lines_near own (Delete c ∷ lines) more left n h = (h.0, h.1, lines_near h.0 lines more left n.1 h.2)

  -- what the lines after the old ones show over near clauses is shown over all
  pub shown_near : (max limit : ℕ) (goal : Clause) (old new : LogView) → IsShownNext max near goal limit old new → All (IsNearLine marks) (drop (length old.lines) new.lines) → IsShownNext max clauses goal limit old new
  shown_near max limit goal old new h all = record {
    between = h.between;
    continues = record {
      more = more;
      lines = h.continues.lines;
      in_range = h.continues.in_range;
      lawful = lines_near old.left more (Add goal ∷ []) h.between.left near_lines h.continues.lawful;
      spaced = h.continues.spaced;
      few = h.continues.few;
    };
    rup = rup_more (h.between.left ++ near) (h.between.left ++ clauses) goal (over h.between.left) h.rup;
    added_is = h.added_is;
  }
    where
      more : List ClauseLine
      more = h.continues.more

      behind : new.lines ≡ old.lines ++ (more ++ Add goal ∷ [])
      behind = ap (λ (log : LogView). log.lines) h.added_is ∙ ap (λ (z : List ClauseLine). z ++ Add goal ∷ []) h.continues.lines ∙ append_assoc old.lines more (Add goal ∷ [])

      rest : drop (length old.lines) new.lines ≡ more ++ Add goal ∷ []
      rest = ap (drop (length old.lines)) behind ∙ drop-append_seam old.lines (more ++ Add goal ∷ [])

      near_lines : AllByRecursion (IsNearLine marks) (more ++ Add goal ∷ [])
      near_lines = recursion_from_All (IsNearLine marks) (more ++ Add goal ∷ []) (subst (All (IsNearLine marks)) rest all)

-- what is shown within some conflicts is shown within more
pub shown_within : (max least limit : ℕ) (given : List Clause) (goal : Clause) (old new : LogView) → least ≤ limit → IsShownNext max given goal least old new → IsShownNext max given goal limit old new
shown_within max least limit given goal old new less h = record {
  between = h.between;
  continues = record {
    more = h.continues.more;
    lines = h.continues.lines;
    in_range = h.continues.in_range;
    lawful = h.continues.lawful;
    spaced = h.continues.spaced;
    few = let few : lemmas h.between ≤ lemmas old + least = h.continues.few in omega arith;
  };
  rup = h.rup;
  added_is = h.added_is;
}

-- the clauses that are near are over the variables
pub near_range : (marks : List Bool) (max : ℕ) (clauses near : List Clause) → AreNearOf marks clauses near → All (IsClauseInRange max) clauses → All (IsClauseInRange max) near
near_range marks max clauses near is all = λ k d below. All-contains (IsClauseInRange max) clauses (slice_index_or near k d) all (is.inside (slice_index_or near k d) (Contains-get_or near k d below))
