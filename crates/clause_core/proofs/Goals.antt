-- All goals are shown, or the least column with one that isn't is refused.
use Rattle.std.specs.Prelude.{◌≡◌, ℕ, ◌≤◌, ◌⊎◌, List, [], ◌∷◌}
use Rattle.std.specs.declared.option.Option.{Option}
use Rattle.std.specs.declared.option.Option.TheVariants.{None, Some}
use Rattle.std.specs.List.{All, Any, AllByRecursion}
use Rattle.std.proofs.Common.{refl, arith, inl, inr, ⊎_elim}
use Rattle.std.proofs.lemmas.List.Elements.{All-from_recursion, recursion_from_All}
use Rattle.graph_core.specs.Graph.Extended.{Column}
use Rattle.graph_core.proofs.OfGraphs.CallerLemmas.{Decided, any_cases, any_here, any_nil, any_there, decided_all, decided_le}
use Rattle.clause_core.specs.Clause.{Clause, IsSubset}
use Rattle.clause_core.specs.GateClauses.{goals_of}
use Rattle.clause_core.specs.ClauseLines.{ClauseLine, IsShown, IsGoalRefusal, GoalsAreExact, added}
use Rattle.clause_core.proofs.Decided.{decided_any, decided_subset}

pub decided_shown : (lines : List ClauseLine) (goal : Option Clause) → Decided (IsShown lines goal)
decided_shown lines None = inl tt
decided_shown lines (Some goal) = decided_any (λ c. IsSubset c goal) (λ c. decided_subset c goal) (added lines)

abbrev Shown : List ClauseLine → Column → Type 0
Shown lines c = All (IsShown lines) (goals_of c)

decided_column : (lines : List ClauseLine) (c : Column) → Decided (Shown lines c)
decided_column lines c = decided_all (IsShown lines) (decided_shown lines) (goals_of c)

-- the least column that isn't shown, among some
abbrev IsLeast : List ClauseLine → List Column → ℕ → Type 0
IsLeast lines cs k = Any (λ c. (c.number ≡ k) × ¬ (Shown lines c)) cs × AllByRecursion (λ c. ¬ (Shown lines c) → k ≤ c.number) cs

abbrev Outcome : List ClauseLine → List Column → Type 0
Outcome lines cs = AllByRecursion (Shown lines) cs ⊎ ((k : ℕ) × IsLeast lines cs k)

one_column : (lines : List ClauseLine) (c : Column) (cs : List Column) → Outcome lines cs → Outcome lines (c ∷ cs)
one_column lines c cs rest = ⊎_elim shown unshown (decided_column lines c)
  where
    shown : Shown lines c → Outcome lines (c ∷ cs)
    shown s = ⊎_elim (λ all. inl (s, all)) (λ l. inr (l.0, (any_there (λ d. (d.number ≡ l.0) × ¬ (Shown lines d)) c cs l.1.0, (λ n. absurd (n s), l.1.1)))) rest

    lower : (Shown lines c → ⊥) → (k : ℕ) → IsLeast lines cs k → Outcome lines (c ∷ cs)
    lower n k l =
        ⊎_elim (λ h. inr (c.number, (any_here (λ d. (d.number ≡ c.number) × ¬ (Shown lines d)) c cs (refl, n), (λ m. omega arith, wider cs l.1 h))))
        (λ h. inr (k, (any_there (λ d. (d.number ≡ k) × ¬ (Shown lines d)) c cs l.0, (λ m. omega (arith, h), l.1)))) (decided_le c.number k)
      where
        wider : (ds : List Column) → AllByRecursion (λ d. ¬ (Shown lines d) → k ≤ d.number) ds → c.number ≤ k → AllByRecursion (λ d. ¬ (Shown lines d) → c.number ≤ d.number) ds
        wider [] a h = tt
        wider (d ∷ ds) a h = (λ m. let b = a.0 m in omega arith, wider ds a.1 h)

    all_shown : (ds : List Column) → AllByRecursion (Shown lines) ds → AllByRecursion (λ d. ¬ (Shown lines d) → c.number ≤ d.number) ds
    all_shown [] a = tt
    all_shown (d ∷ ds) a = (λ m. absurd (m a.0), all_shown ds a.1)

    unshown : (Shown lines c → ⊥) → Outcome lines (c ∷ cs)
    unshown n =
        ⊎_elim (λ all. inr (c.number, (any_here (λ d. (d.number ≡ c.number) × ¬ (Shown lines d)) c cs (refl, n), (λ m. omega arith, all_shown cs all))))
        (λ l. lower n l.0 l.1) rest

least_or_shown : (lines : List ClauseLine) (cs : List Column) → Outcome lines cs
least_or_shown lines [] = inl tt
least_or_shown lines (c ∷ cs) = one_column lines c cs (least_or_shown lines cs)

any_at : {X : Type 0} (P Q : X → Type 0) (xs : List X) → Any P xs → AllByRecursion Q xs → (x : X) × P x × Q x
any_at P Q [] h a = absurd (any_nil P h)
any_at P Q (x ∷ xs) h a = ⊎_elim (λ p. (x, p, a.0)) (λ r. any_at P Q xs r a.1) (any_cases P x xs h)

pub goals_are_exact : GoalsAreExact
goals_are_exact e lines = record {
  decided = ⊎_elim (λ a. inl (All-from_recursion (Shown lines) e.replaced a)) (λ l. inr (l.0, record { unshown = l.1.0; least = All-from_recursion (λ c. ¬ (Shown lines c) → l.0 ≤ c.number) e.replaced l.1.1 })) (least_or_shown lines e.replaced);
  not_both = λ k a r. let x = any_at (λ c. (c.number ≡ k) × ¬ (Shown lines c)) (Shown lines) e.replaced r.unshown (recursion_from_All (Shown lines) e.replaced a) in x.1.1 x.2;
  one = λ j k r s. both j k (below j k r s) (below k j s r);
}
  where
    below : (j k : ℕ) → IsGoalRefusal e lines j → IsGoalRefusal e lines k → k ≤ j
    below j k r s =
        let x = any_at (λ c. (c.number ≡ j) × ¬ (Shown lines c)) (λ c. ¬ (Shown lines c) → k ≤ c.number) e.replaced r.unshown (recursion_from_All (λ c. ¬ (Shown lines c) → k ≤ c.number) e.replaced s.least) in
        let a = x.2 x.1.1 in let b = x.1.0 in omega (arith, a, b)

    both : (j k : ℕ) → k ≤ j → j ≤ k → j ≡ k
    both j k a b = omega arith
