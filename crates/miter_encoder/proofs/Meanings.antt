-- What the clauses of gates and the goals of columns say at an assignment, whichever lists stand for their sets.
use Rattle.std.specs.Prelude.{◌≡◌, ◌↔◌, ℕ, true, List, [], ◌∷◌, slice_index_or}
use Rattle.std.specs.declared.option.Option.{Option}
use Rattle.std.specs.declared.option.Option.TheVariants.{None, Some}
use Rattle.std.specs.List.{All, AllByRecursion}
use Rattle.std.proofs.Common.{sym, ◌∙◌, arith, inl, inr, ⊎_elim, true≢false}
use Rattle.std.proofs.lemmas.List.Elements.{All-contains, All-from_recursion, recursion_from_All}
use Rattle.graph_core.specs.declared.gate.Gate.{Gate}
use Rattle.graph_core.specs.Graph.Extended.{AgreeOnColumns, Column, Extended}
use Rattle.graph_core.specs.Graph.Assignments.{Assignment, literal}
use Rattle.graph_core.specs.Graph.{IsEvaluation}
use Rattle.clause_core.specs.Clause.{Clause, Satisfies, holds}
use Rattle.clause_core.specs.GateClauses.{IsMet, gate_clauses, goals_of}
use Rattle.clause_core.specs.Likeness.{AreSameSets}
use Rattle.clause_core.proofs.CallerLemmas.{gate_clauses_mean_evaluation, goals_mean_equality, subset_holds}
use Rattle.miter_encoder.specs.ColumnGoals.{AreGoalsOf, GoalHolds, IsGoalOf}
use Rattle.miter_encoder.specs.declared.goal.Goal.{Goal}

module _ (σ : Assignment) where
  abbrev Holds : Clause → Type 0
  Holds c = holds σ c ≡ true

  sets_hold : (cs ds : List Clause) → AreSameSets cs ds → AllByRecursion Holds cs → AllByRecursion Holds ds
  sets_hold [] [] same h = tt
  sets_hold [] (d ∷ ds) same h = absurd same
  sets_hold (c ∷ cs) [] same h = absurd same
  sets_hold (c ∷ cs) (d ∷ ds) same h = (subset_holds c d σ same.0.0 h.0, sets_hold cs ds same.1 h.1)

  sets_held : (cs ds : List Clause) → AreSameSets cs ds → AllByRecursion Holds ds → AllByRecursion Holds cs
  sets_held [] [] same h = tt
  sets_held [] (d ∷ ds) same h = absurd same
  sets_held (c ∷ cs) [] same h = absurd same
  sets_held (c ∷ cs) (d ∷ ds) same h = (subset_holds d c σ same.0.1 h.0, sets_held cs ds same.1 h.1)

  goal_meets : (column : ℕ) (o : Option Clause) (g : Goal) → IsGoalOf column o g → GoalHolds σ g → IsMet σ o
  goal_meets column None g is h = tt
  goal_meets column (Some d) g is h =
      All-from_recursion Holds (d ∷ []) (⊎_elim (λ met. absurd (true≢false (sym met ∙ is.1))) (λ here. subset_holds g.clause d σ is.2.0 here) h, tt)

  goal_met : (column : ℕ) (o : Option Clause) (g : Goal) → IsGoalOf column o g → IsMet σ o → GoalHolds σ g
  goal_met column None g is h = inl is.1
  goal_met column (Some d) g is h = inr (subset_holds d g.clause σ is.2.1 (h 0 d (omega arith)))

-- So the clauses hold exactly on the evaluations.
pub clauses_mean : (gates : List Gate) (clauses : List Clause) → AreSameSets clauses (gate_clauses gates) → (σ : Assignment) → Satisfies σ clauses ↔ IsEvaluation gates σ
clauses_mean gates clauses same σ = (
  λ h. (gate_clauses_mean_evaluation gates σ).0
      (All-from_recursion (λ c. holds σ c ≡ true) (gate_clauses gates) (sets_hold σ clauses (gate_clauses gates) same (recursion_from_All (λ c. holds σ c ≡ true) clauses h))),
  λ h. All-from_recursion (λ c. holds σ c ≡ true) clauses
      (sets_held σ clauses (gate_clauses gates) same (recursion_from_All (λ c. holds σ c ≡ true) (gate_clauses gates) ((gate_clauses_mean_evaluation gates σ).1 h))),
)

-- And all goals hold exactly where the old and the new outputs are equal.
pub goals_mean : (e : Extended) (goals : List Goal) → AreGoalsOf e goals → (σ : Assignment) → All (GoalHolds σ) goals ↔ AgreeOnColumns e σ
goals_mean e goals are σ = (
  λ h i d below.
      let c : Column = slice_index_or e.replaced i d in
      (goals_mean_equality c σ).0
      (λ k o in_goals.
      let there = are.all i d below k o in_goals in
      let g : Goal = there.1 in
      goal_meets σ c.number (slice_index_or (goals_of c) k o) g there.4 (All-contains (GoalHolds σ) goals g h (there.0, there.2, there.3))),
  λ agree i d below.
      let g : Goal = slice_index_or goals i d in
      let of = are.each i d below in
      let c : Column = of.1 in
      let equal = All-contains (λ x. literal σ x.old ≡ literal σ x.new) e.replaced c agree (of.0, of.2, of.3) in
      let one = of.4 in
      let o : Option Clause = one.1 in
      goal_met σ c.number o g one.4 (All-contains (IsMet σ) (goals_of c) o ((goals_mean_equality c σ).1 equal) (one.0, one.2, one.3)),
)
