-- The goals of pairs, one pair after the other.
use Rattle.std.specs.Prelude.{◌≡◌, ◌↔◌, ℕ, zero, suc, ◌+◌, ◌<◌, ◌≤◌, List, [], ◌∷◌, ◌++◌, length, take, slice_index_or}
use Rattle.std.specs.declared.option.Option.{Option}
use Rattle.std.specs.List.{All, AllByRecursion, Any}
use Rattle.std.proofs.Common.{refl, sym, ap, subst, ◌∙◌, arith}
use Rattle.std.proofs.lemmas.List.Elements.{All-append, All-nil, All-from_recursion, All-weaker, recursion_from_All}
use Rattle.graph_core.specs.declared.literal.Lit.{Lit}
use Rattle.graph_core.specs.Graph.Assignments.{Assignment, literal}
use Rattle.graph_core.specs.Graph.Extended.{Column, Extended}
use Rattle.graph_core.specs.Graph.Literals.{negation_of}
use Rattle.graph_core.proofs.OfGraphs.CallerLemmas.{any_back, any_front, any_here, any_there}
use Rattle.clause_core.specs.Clause.{Clause}
use Rattle.clause_core.specs.GateClauses.{clause_of, goals_of}
use Rattle.miter_encoder.specs.ColumnGoals.{AgreeOnPairs, AreGoalsOfColumns, GoalHolds, HasGoals, IsGoalOf, IsOfColumns, columns_from}
use Rattle.miter_encoder.specs.Pushing.{PushesGoals}
use Rattle.miter_encoder.specs.declared.goal.Goal.{Goal}
use Rattle.std.proofs.lemmas.List.{take_all, take_more}
use Rattle.miter_encoder.proofs.Meanings.{goals_mean}

pub no_goals : AreGoalsOfColumns [] []
no_goals = record { each = All-nil (IsOfColumns []); all = All-nil (HasGoals []) }

-- ---- one column more

module _ (columns : List Column) (goals next : List Goal) (c : Column) (h : AreGoalsOfColumns columns goals) (p : PushesGoals goals next c.number c.old c.new) where
  abbrev longer : List Column
  longer = columns ++ c ∷ []

  abbrev more : List Goal
  more = goals ++ p.0 ∷ p.1 ∷ []

  abbrev one : Option Clause
  one = clause_of (negation_of c.old ∷ c.new ∷ [])

  abbrev other : Option Clause
  other = clause_of (c.old ∷ negation_of c.new ∷ [])

  abbrev IsOfColumn : Goal → Column → Type 0
  IsOfColumn g x = Any (λ o. IsGoalOf x.number o g) (goals_of x)

  of_last : (g : Goal) → IsOfColumn g c → IsOfColumns longer g
  of_last g any = any_back (IsOfColumn g) columns (c ∷ []) (any_here (IsOfColumn g) c [] any)

  each : All (IsOfColumns longer) more
  each =
      All-append (IsOfColumns longer) goals (p.0 ∷ p.1 ∷ [])
      (All-weaker (IsOfColumns columns) (IsOfColumns longer) (λ g any. any_front (IsOfColumn g) columns (c ∷ []) any) goals h.each)
      (All-from_recursion (IsOfColumns longer) (p.0 ∷ p.1 ∷ []) (
        of_last p.0 (any_here (λ o. IsGoalOf c.number o p.0) one (other ∷ []) p.3),
        (of_last p.1 (any_there (λ o. IsGoalOf c.number o p.1) one (other ∷ []) (any_here (λ o. IsGoalOf c.number o p.1) other [] p.4)), tt),
      ))

  both : HasGoals more c
  both = All-from_recursion (λ o. Any (IsGoalOf c.number o) more) (one ∷ other ∷ []) (
    any_back (IsGoalOf c.number one) goals (p.0 ∷ p.1 ∷ []) (any_here (IsGoalOf c.number one) p.0 (p.1 ∷ []) p.3),
    (any_back (IsGoalOf c.number other) goals (p.0 ∷ p.1 ∷ []) (any_there (IsGoalOf c.number other) p.0 (p.1 ∷ []) (any_here (IsGoalOf c.number other) p.1 [] p.4)), tt),
  )

  all : All (HasGoals more) longer
  all =
      All-append (HasGoals more) columns (c ∷ [])
      (All-weaker (HasGoals goals) (HasGoals more)
      (λ x has. All-weaker (λ o. Any (IsGoalOf x.number o) goals) (λ o. Any (IsGoalOf x.number o) more) (λ o any. any_front (IsGoalOf x.number o) goals (p.0 ∷ p.1 ∷ []) any) (goals_of x) has) columns h.all)
      (All-from_recursion (HasGoals more) (c ∷ []) (both, tt))

  one_more : AreGoalsOfColumns longer next
  one_more = record { each = subst (All (IsOfColumns longer)) (sym p.2) each; all = subst (λ (gs : List Goal). All (HasGoals gs) longer) (sym p.2) all }

-- ---- one pair more

abbrev pub column_at : ℕ → Lit × Lit → Column
column_at k p = record { number = k; old = p.0; new = p.1 }

columns-append : (pairs : List (Lit × Lit)) (k : ℕ) (p : Lit × Lit) → columns_from k (pairs ++ p ∷ []) ≡ columns_from k pairs ++ column_at (k + length pairs) p ∷ []
columns-append [] k p = let same : k ≡ k + 0 = omega arith in ap (λ (n : ℕ). column_at n p ∷ []) same
columns-append (q ∷ pairs) k p =
    let up : k + 1 + length pairs ≡ k + suc (length pairs) = omega arith in
    ap (λ (cs : List Column). column_at k q ∷ cs) (columns-append pairs (k + 1) p ∙ ap (λ (n : ℕ). columns_from (k + 1) pairs ++ column_at n p ∷ []) up)

taken_length : {X : Type 0} (xs : List X) (n : ℕ) → n ≤ length xs → length (take n xs) ≡ n
taken_length xs zero h = refl
taken_length [] (suc n) h = absurd (omega arith)
taken_length (x ∷ xs) (suc n) h = ap suc (taken_length xs n (omega arith))

pub columns_more : (pairs : List (Lit × Lit)) (n : ℕ) (d : Lit × Lit) → n < length pairs → columns_from 0 (take (n + 1) pairs) ≡ columns_from 0 (take n pairs) ++ column_at n (slice_index_or pairs n d) ∷ []
columns_more pairs n d below =
    let pair = slice_index_or pairs n d in
    let long : 0 + length (take n pairs) ≡ n = let taken = taken_length pairs n (omega (arith, below)) in omega (arith, taken) in
    ap (columns_from 0) (take_more pairs n d below) ∙ columns-append (take n pairs) 0 pair ∙ ap (λ (k : ℕ). columns_from 0 (take n pairs) ++ column_at k pair ∷ []) long

pub pairs_more : (pairs : List (Lit × Lit)) (n : ℕ) (d : Lit × Lit) (goals next : List Goal) → n < length pairs → AreGoalsOfColumns (columns_from 0 (take n pairs)) goals →
    PushesGoals goals next n (slice_index_or pairs n d).0 (slice_index_or pairs n d).1 → AreGoalsOfColumns (columns_from 0 (take (n + 1) pairs)) next
pairs_more pairs n d goals next below h p =
    let pair = slice_index_or pairs n d in
    let columns = columns_from 0 (take n pairs) in
    subst (λ (cs : List Column). AreGoalsOfColumns cs next) (sym (columns_more pairs n d below)) (one_more columns goals next (column_at n pair) h p)

pub pairs_all : (pairs : List (Lit × Lit)) (n : ℕ) (goals : List Goal) → length pairs ≤ n → AreGoalsOfColumns (columns_from 0 (take n pairs)) goals → AreGoalsOfColumns (columns_from 0 pairs) goals
pairs_all pairs n goals end h = subst (λ (ps : List (Lit × Lit)). AreGoalsOfColumns (columns_from 0 ps) goals) (take_all n pairs end) h

-- ---- what they say

abbrev AreEqual : Assignment → Column → Type 0
AreEqual σ c = literal σ c.old ≡ literal σ c.new

columns_agree : (σ : Assignment) (k : ℕ) (pairs : List (Lit × Lit)) → AllByRecursion (AreEqual σ) (columns_from k pairs) → AllByRecursion (λ p. literal σ p.0 ≡ literal σ p.1) pairs
columns_agree σ k [] h = tt
columns_agree σ k (p ∷ pairs) h = (h.0, columns_agree σ (k + 1) pairs h.1)

pairs_agree : (σ : Assignment) (k : ℕ) (pairs : List (Lit × Lit)) → AllByRecursion (λ p. literal σ p.0 ≡ literal σ p.1) pairs → AllByRecursion (AreEqual σ) (columns_from k pairs)
pairs_agree σ k [] h = tt
pairs_agree σ k (p ∷ pairs) h = (h.0, pairs_agree σ (k + 1) pairs h.1)

abbrev over : List (Lit × Lit) → Extended
over pairs = record { graph = record { max = 0; inputs = []; outputs = []; gates = [] }; max = 0; gates = []; replaced = columns_from 0 pairs }

-- Old and new outputs of the columns are equal exactly where the literals of each pair are.
pub columns_mean_pairs : (pairs : List (Lit × Lit)) (σ : Assignment) → All (AreEqual σ) (columns_from 0 pairs) ↔ AgreeOnPairs pairs σ
columns_mean_pairs pairs σ = (
  λ h. All-from_recursion (λ p. literal σ p.0 ≡ literal σ p.1) pairs (columns_agree σ 0 pairs (recursion_from_All (AreEqual σ) (columns_from 0 pairs) h)),
  λ h. All-from_recursion (AreEqual σ) (columns_from 0 pairs) (pairs_agree σ 0 pairs (recursion_from_All (λ p. literal σ p.0 ≡ literal σ p.1) pairs h)),
)

pub pairs_mean : (pairs : List (Lit × Lit)) (goals : List Goal) → AreGoalsOfColumns (columns_from 0 pairs) goals → (σ : Assignment) → All (GoalHolds σ) goals ↔ AgreeOnPairs pairs σ
pairs_mean pairs goals are σ =
    let columns = goals_mean (over pairs) goals are σ in
    let equal = columns_mean_pairs pairs σ in
    (λ h. equal.0 (columns.0 h), λ h. columns.1 (equal.1 h))
