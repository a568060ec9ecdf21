-- The least column with a goal that isn't shown is where the goals are refused.
use Rattle.std.specs.Prelude.{◌≡◌, ◌⊎◌, ℕ, zero, suc, ◌<◌, ◌≤◌, Bool, true, false, List, [], ◌∷◌, length, slice_index_or}
use Rattle.std.specs.declared.option.Option.{Option}
use Rattle.std.specs.declared.option.Option.TheVariants.{None, Some}
use Rattle.std.specs.List.{All, Any}
use Rattle.std.proofs.Common.{refl, sym, ap, subst, ◌∙◌, arith, inl, inr, ⊎_elim, true≢false}
use Rattle.graph_core.specs.Graph.Extended.{Column, Extended}
use Rattle.clause_core.specs.Clause.{Clause, IsSubset}
use Rattle.clause_core.specs.ClauseLines.{ClauseLine, IsShown}
use Rattle.clause_core.specs.GateClauses.{goals_of}
use Rattle.graph_core.proofs.OfGraphs.CallerLemmas.{Decided}
use Rattle.clause_core.proofs.CallerLemmas.{any_here, any_there, decided_shown}
use Rattle.miter_encoder.specs.ColumnGoals.{AreGoalsOf, IsGoalOf}
use Rattle.drup_checker.specs.Checking.{Checking, IsLeastUnshown, IsUnshown, goal_at, shown_at}
use Rattle.drup_checker.specs.Judging.{GoalsAreJudged}
use Rattle.drup_checker.specs.Steps.{HasShown}

at_same : {X : Type 0} (xs : List X) (i : ℕ) (g h : X) → i < length xs → slice_index_or xs i g ≡ slice_index_or xs i h
at_same [] i g h b = absurd (omega arith)
at_same (x ∷ xs) zero g h b = refl
at_same (x ∷ xs) (suc i) g h b = at_same xs i g h (omega arith)

-- some element is of a kind, or all are of the other
some_or_all : {X : Type 0} (P : X → Type 0) → ((x : X) → Decided (P x)) → (xs : List X) → Any (λ x. P x → ⊥) xs ⊎ All P xs
some_or_all P d [] = inr (λ i e b. absurd (omega arith))
some_or_all P d (x ∷ xs) = ⊎_elim (λ p. ⊎_elim (λ a. inl (any_there (λ y. P y → ⊥) x xs a)) (λ all. inr (each p all)) (some_or_all P d xs)) (λ n. inl (any_here (λ y. P y → ⊥) x xs n)) (d x)
  where
    each : P x → All P xs → All P (x ∷ xs)
    each p all zero e b = p
    each p all (suc i) e b = all i e (omega arith)

module _ (e : Extended) (k : Checking) (lines : List ClauseLine) (are : AreGoalsOf e k.goals) (marks : HasShown k lines) where
  -- a goal that is there and marked is shown
  marked_shown : (n : ℕ) (d : Clause) → (some : Any (IsGoalOf n (Some d)) k.goals) → shown_at k.shown some.0 ≡ true → IsShown lines (Some d)
  marked_shown n d some marked =
      let index : some.0 < length k.goals = some.2 in
      let here : goal_at k.goals some.0 ≡ some.1 = at_same k.goals some.0 (record { column = 0; clause = []; met = true }) some.1 index ∙ some.3 in
      let by = (marks some.0 index).0 marked in
      (by.0, by.1, by.2, by.3, λ l h. some.4.2.0 l (subst (λ g. IsSubset by.1 g.clause) here by.4 l h))

  -- a goal that is there and not marked is unshown
  unmarked_unshown : (n : ℕ) (d : Clause) → (some : Any (IsGoalOf n (Some d)) k.goals) → shown_at k.shown some.0 ≡ false → IsUnshown k.goals k.shown n some.0
  unmarked_unshown n d some unmarked =
      let index : some.0 < length k.goals = some.2 in
      let here : goal_at k.goals some.0 ≡ some.1 = at_same k.goals some.0 (record { column = 0; clause = []; met = true }) some.1 index ∙ some.3 in
      record { within = index; of_column = ap (λ g. g.column) here ∙ some.4.0; unmet = ap (λ g. g.met) here ∙ some.4.1; unshown = unmarked }

  bool_or : (b : Bool) → (b ≡ true) ⊎ (b ≡ false)
  bool_or true = inl refl
  bool_or false = inr refl

  -- a goal of a column is shown, or one that is there is unshown
  judged : (c : Column) (o : Option Clause) → Any (IsGoalOf c.number o) k.goals → IsShown lines o ⊎ ((i : ℕ) × IsUnshown k.goals k.shown c.number i)
  judged c None some = inl tt
  judged c (Some d) some = ⊎_elim (λ t. inl (marked_shown c.number d some t)) (λ f. inr (some.0, unmarked_unshown c.number d some f)) (bool_or (shown_at k.shown some.0))

  pub all_shown : IsLeastUnshown k.goals k.shown None → (i : ℕ) (c : Column) → i < length e.replaced → All (IsShown lines) (goals_of (slice_index_or e.replaced i c))
  all_shown none i c b j o m =
      let column = slice_index_or e.replaced i c in
      ⊎_elim (λ s. s) (λ u. absurd (none u.0 column.number u.1.within u.1)) (judged column (slice_index_or (goals_of column) j o) (are.all i c b j o m))

  -- an unshown goal's column has a goal that isn't shown
  column_unshown : (column i : ℕ) → IsUnshown k.goals k.shown column i → Any (λ c. (c.number ≡ column) × ¬ (All (IsShown lines) (goals_of c))) e.replaced
  column_unshown column i u =
      let g = goal_at k.goals i in
      let of = are.each i (record { column = 0; clause = []; met = true }) u.within in
      (of.0, of.1, of.2, of.3, (number of.1 of.4, λ all. hidden of.1 of.4 all))
    where
      number_of : (c : Column) (o : Option Clause) → IsGoalOf c.number o (goal_at k.goals i) → c.number ≡ column
      number_of c None is = sym is.0 ∙ u.of_column
      number_of c (Some d) is = sym is.0 ∙ u.of_column

      number : (c : Column) → Any (λ o. IsGoalOf c.number o (goal_at k.goals i)) (goals_of c) → c.number ≡ column
      number c some = number_of c some.1 some.4

      clash : (c : Column) (o : Option Clause) → IsGoalOf c.number o (goal_at k.goals i) → IsShown lines o → ⊥
      clash c None is shown = true≢false (sym is.1 ∙ u.unmet)
      clash c (Some d) is shown =
          true≢false (sym ((marks i u.within).1 (shown.0, shown.1, shown.2, shown.3, λ l h. is.2.1 l (shown.4 l h))) ∙ u.unshown)

      hidden : (c : Column) → Any (λ o. IsGoalOf c.number o (goal_at k.goals i)) (goals_of c) → All (IsShown lines) (goals_of c) → ⊥
      hidden c some all = clash c some.1 some.4 (subst (IsShown lines) some.3 (all some.0 some.1 some.2))

  pub least_column : (column : ℕ) → IsLeastUnshown k.goals k.shown (Some column) → (i : ℕ) (c : Column) → i < length e.replaced → ¬ (All (IsShown lines) (goals_of (slice_index_or e.replaced i c))) → column ≤ (slice_index_or e.replaced i c).number
  least_column column least i c b not_all = ⊎_elim (λ some. here some.0 some.1 some.2 some.3 some.4) (λ all. absurd (not_all all)) (some_or_all (IsShown lines) (decided_shown lines) (goals_of d))
    where
      d : Column
      d = slice_index_or e.replaced i c

      here : (j : ℕ) (o : Option Clause) → j < length (goals_of (slice_index_or e.replaced i c)) → slice_index_or (goals_of (slice_index_or e.replaced i c)) j o ≡ o → (IsShown lines o → ⊥) → column ≤ (slice_index_or e.replaced i c).number
      here j o m same not_shown =
          ⊎_elim (λ s. absurd (not_shown s)) (λ u. least.1 u.0 (slice_index_or e.replaced i c).number u.1.within u.1)
          (judged (slice_index_or e.replaced i c) o (subst (λ x. Any (IsGoalOf (slice_index_or e.replaced i c).number x) k.goals) same (are.all i c b j o m)))

pub goals_are_judged : GoalsAreJudged
goals_are_judged = record {
  shown = λ e k lines are marks none i c b. all_shown e k lines are marks none i c b;
  refused = λ e k lines column are marks least. record {
    unshown = column_unshown e k lines are marks column least.0.0 least.0.2;
    least = λ i c b n. least_column e k lines are marks column least i c b n;
  };
}
