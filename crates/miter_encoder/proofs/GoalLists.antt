-- The goals of replaced columns, one column after the other.
use Rattle.std.specs.Prelude.{◌≡◌, ◌⊎◌, ℕ, zero, suc, ◌+◌, ◌<◌, ◌≤◌, List, [], ◌∷◌, ◌++◌, length, slice_get, slice_index_or}
use Rattle.std.specs.declared.option.Option.{Option}
use Rattle.std.specs.declared.option.Option.TheVariants.{Some}
use Rattle.std.specs.List.{All, Any}
use Rattle.std.proofs.Common.{refl, sym, ap, ap₂, subst, ◌∙◌, arith, inl, inr, ⊎_elim}
use Rattle.std.proofs.lemmas.List.Elements.{All-append, All-from_recursion}
use Rattle.std.proofs.lemmas.Option.{same_Some, slice_get_within}
use Rattle.graph_core.specs.declared.literal.Lit.{Lit}
use Rattle.graph_core.specs.Graph.Extended.{Column, Extended}
use Rattle.graph_core.specs.Graph.Literals.{negation_of}
use Rattle.graph_core.proofs.OfGraphs.CallerLemmas.{any_back, any_front, any_here, any_there}
use Rattle.ripple_graft.specs.Extension.{IsExtension, IsReplaced, new_outputs}
use Rattle.ripple_graft.proofs.CallerLemmas.{outputs_are_new}
use Rattle.clause_core.specs.Clause.{Clause}
use Rattle.clause_core.specs.GateClauses.{clause_of, goals_of}
use Rattle.miter_encoder.proofs.Words.{AreGoalsBelow}
use Rattle.miter_encoder.specs.ColumnGoals.{AreGoalsOf, HasGoals, IsGoalOf, IsOfColumns}
use Rattle.miter_encoder.specs.Pushing.{PushesGoals}
use Rattle.miter_encoder.specs.declared.goal.Goal.{Goal}

again : (xs : List Column) (i : ℕ) (y : Column) → i < length xs → slice_index_or xs i (slice_index_or xs i y) ≡ slice_index_or xs i y
again [] i y below = absurd (omega arith)
again (x ∷ xs) zero y below = refl
again (x ∷ xs) (suc i) y below = again xs i y (omega arith)

below_or : (i n : ℕ) → i < n + 1 → (i < n) ⊎ (i ≡ n)
below_or i n h = search (arith, inl, inr)

pub goals_all : (e : Extended) (goals : List Goal) (k : ℕ) → IsExtension e → AreGoalsBelow e goals k → length e.graph.outputs ≤ k → AreGoalsOf e goals
goals_all e goals k made h end = record {
  each = h.each;
  all = λ i d b.
      let c = slice_index_or e.replaced i d in
      let low = slice_get_within e.graph.outputs c.number c.old (made.replaced i d b) in
      h.all i d b (omega arith);
}

module _ (e : Extended) (goals : List Goal) (k : ℕ) (h : AreGoalsBelow e goals k) where
  pub goals_same : (IsReplaced e k → ⊥) → AreGoalsBelow e goals (k + 1)
  goals_same none = record {
    each = h.each;
    all = λ i d b low. ⊎_elim (λ less. h.all i d b less) (λ same. absurd (none (i, slice_index_or e.replaced i d, b, again e.replaced i d b, same))) (below_or (slice_index_or e.replaced i d).number k low);
  }

  module _ (made : IsExtension e) (old new : Lit) (olds : slice_get e.graph.outputs k ≡ Some old) (news : slice_get (new_outputs e) k ≡ Some new) where
    abbrev first : Option Clause
    first = clause_of (negation_of old ∷ new ∷ [])

    abbrev second : Option Clause
    second = clause_of (old ∷ negation_of new ∷ [])

    goals_are : (i : ℕ) (d : Column) → i < length e.replaced → (slice_index_or e.replaced i d).number ≡ k → goals_of (slice_index_or e.replaced i d) ≡ first ∷ second ∷ []
    goals_are i d b same =
        let c = slice_index_or e.replaced i d in
        let old_is = same_Some c.old old (sym (made.replaced i d b) ∙ ap (slice_get e.graph.outputs) same ∙ olds) in
        let new_is = same_Some c.new new (sym (outputs_are_new.replaced e made i d b) ∙ ap (slice_get (new_outputs e)) same ∙ news) in
        ap₂ (λ x y. clause_of (negation_of x ∷ y ∷ []) ∷ clause_of (x ∷ negation_of y ∷ []) ∷ []) old_is new_is

    pub goals_more : (next : List Goal) → IsReplaced e k → PushesGoals goals next k old new → AreGoalsBelow e next (k + 1)
    goals_more next some p = record { each = subst (All (IsOfColumns e.replaced)) (sym p.2) each; all = subst (λ gs. All (λ c. c.number < k + 1 → HasGoals gs c) e.replaced) (sym p.2) all }
      where
        column_of : (o : Option Clause) (g : Goal) → IsGoalOf k o g → Any (λ x. IsGoalOf k x g) (first ∷ second ∷ []) → IsOfColumns e.replaced g
        column_of o g is any =
            let index : some.0 < length e.replaced = some.2 in
            let c = some.1 in
            let here : slice_index_or e.replaced some.0 c ≡ c = some.3 in
            let number : (slice_index_or e.replaced some.0 c).number ≡ k = ap (λ x. x.number) here ∙ some.4 in
            let are = goals_are some.0 c index number in
            (some.0, slice_index_or e.replaced some.0 c, index, again e.replaced some.0 c index, subst (λ os. Any (λ x. IsGoalOf (slice_index_or e.replaced some.0 c).number x g) os) (sym are) (subst (λ n. Any (λ x. IsGoalOf n x g) (first ∷ second ∷ [])) (sym number) any))

        each : All (IsOfColumns e.replaced) (goals ++ p.0 ∷ p.1 ∷ [])
        each =
            All-append (IsOfColumns e.replaced) goals (p.0 ∷ p.1 ∷ []) h.each
            (All-from_recursion (IsOfColumns e.replaced) (p.0 ∷ p.1 ∷ []) (
              column_of first p.0 p.3 (any_here (λ x. IsGoalOf k x p.0) first (second ∷ []) p.3),
              (column_of second p.1 p.4 (any_there (λ x. IsGoalOf k x p.1) first (second ∷ []) (any_here (λ x. IsGoalOf k x p.1) second [] p.4)), tt),
            ))

        both : (n : ℕ) → n ≡ k → All (λ o. Any (IsGoalOf n o) (goals ++ p.0 ∷ p.1 ∷ [])) (first ∷ second ∷ [])
        both n same =
            subst (λ m. All (λ o. Any (IsGoalOf m o) (goals ++ p.0 ∷ p.1 ∷ [])) (first ∷ second ∷ [])) (sym same)
            (All-from_recursion (λ o. Any (IsGoalOf k o) (goals ++ p.0 ∷ p.1 ∷ [])) (first ∷ second ∷ []) (
              any_back (IsGoalOf k first) goals (p.0 ∷ p.1 ∷ []) (any_here (IsGoalOf k first) p.0 (p.1 ∷ []) p.3),
              (any_back (IsGoalOf k second) goals (p.0 ∷ p.1 ∷ []) (any_there (IsGoalOf k second) p.0 (p.1 ∷ []) (any_here (IsGoalOf k second) p.1 [] p.4)), tt),
            ))

        all : All (λ c. c.number < k + 1 → HasGoals (goals ++ p.0 ∷ p.1 ∷ []) c) e.replaced
        all i d b low =
            let c = slice_index_or e.replaced i d in
            ⊎_elim (λ less j o m. any_front (IsGoalOf c.number (slice_index_or (goals_of c) j o)) goals (p.0 ∷ p.1 ∷ []) (h.all i d b less j o m))
            (λ same. subst (λ os. All (λ o. Any (IsGoalOf c.number o) (goals ++ p.0 ∷ p.1 ∷ [])) os) (sym (goals_are i d b same)) (both c.number same)) (below_or c.number k low)
