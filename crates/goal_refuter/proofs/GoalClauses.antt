-- What the goals that aren't met say, how many there are, and which variables they name.
use Rattle.std.specs.Prelude.{◌≡◌, ◌≢◌, ℕ, ◌+◌, ◌*◌, ◌<◌, ◌≤◌, true, List, [], ◌∷◌, ◌++◌, length, take, slice_index_or, pos, nat_abs}
use Rattle.std.specs.declared.option.Option.{Option}
use Rattle.std.specs.declared.option.Option.TheVariants.{None, Some}
use Rattle.std.specs.List.{All, AllByRecursion, Any, Contains, cons_option, flat_map}
use Rattle.std.proofs.Common.{refl, sym, ap, subst, ◌∙◌, arith, ⊎_elim}
use Rattle.std.proofs.lemmas.Grind.{flat_map-append}
use Rattle.std.proofs.lemmas.List.{append-nil, length-append, take_all}
use Rattle.std.proofs.lemmas.List.Elements.{All-contains, All-from_recursion, recursion_from_All, Contains-append_cases, Contains-append_left, Contains-append_right, Contains-get_or}
use Rattle.graph_core.specs.declared.literal.Lit.{Lit}
use Rattle.graph_core.specs.Graph.Extended.{AgreeOnColumns, Column, Extended}
use Rattle.graph_core.specs.Graph.Assignments.{Assignment, literal}
use Rattle.graph_core.specs.Graph.Literals.{negation_of, variable_of}
use Rattle.graph_core.proofs.OfGraphs.CallerLemmas.{all_join}
use Rattle.clause_core.specs.Clause.{Clause, IsClauseInRange, IsSubset, holds}
use Rattle.clause_core.specs.ClauseLines.{AreGoalsShown, ClauseLine, IsShown, added}
use Rattle.clause_core.specs.GateClauses.{IsGoalInRange, IsMet, clause_of, goals_of}
use Rattle.clause_core.specs.Likeness.{AreSameSets}
use Rattle.clause_core.proofs.CallerLemmas.{contains_cases, contains_here, contains_nil, goals_mean_equality}
use Rattle.clause_core.proofs.GateClauseLaws.{goals_are_in_range}
use Rattle.miter_encoder.specs.ColumnGoals.{columns_from}
use Rattle.miter_encoder.specs.Encoding.{Appends}
use Rattle.miter_encoder.proofs.Appending.{appends_same}
use Rattle.miter_encoder.proofs.PairGoals.{column_at, columns_more}
use Rattle.goal_refuter.specs.Refutations.{unmet_goals, unmet_of}

-- ---- what they say

option_holds : (σ : Assignment) (o : Option Clause) (rest : List Clause) → IsMet σ o → ((goal : Clause) → Contains rest goal → holds σ goal ≡ true) → (goal : Clause) → Contains (cons_option o rest) goal → holds σ goal ≡ true
option_holds σ None rest met more goal i = more goal i
option_holds σ (Some c) rest met more goal i = ⊎_elim (λ e. subst (λ (x : Clause). holds σ x ≡ true) e (met 0 c (omega arith))) (more goal) (contains_cases c rest goal i)

column_holds : (σ : Assignment) (c : Column) → literal σ c.old ≡ literal σ c.new → (goal : Clause) → Contains (unmet_of c) goal → holds σ goal ≡ true
column_holds σ c agrees goal i =
    let met = recursion_from_All (IsMet σ) (goals_of c) ((goals_mean_equality c σ).1 agrees) in
    let a = clause_of (negation_of c.old ∷ c.new ∷ []) in
    let b = clause_of (c.old ∷ negation_of c.new ∷ []) in
    option_holds σ a (cons_option b []) met.0 (option_holds σ b [] met.1.0 (λ x j. absurd (contains_nil x j))) goal i

columns_hold : (σ : Assignment) (cs : List Column) → AllByRecursion (λ c. literal σ c.old ≡ literal σ c.new) cs → (goal : Clause) → Contains (flat_map unmet_of cs) goal → holds σ goal ≡ true
columns_hold σ [] agree goal i = absurd (contains_nil goal i)
columns_hold σ (c ∷ cs) agree goal i = ⊎_elim (column_holds σ c agree.0 goal) (columns_hold σ cs agree.1 goal) (Contains-append_cases (unmet_of c) (flat_map unmet_of cs) goal i)

-- Where the columns agree, each goal holds.
pub agreeing_hold : (e : Extended) (σ : Assignment) → AgreeOnColumns e σ → (goal : Clause) → Contains (unmet_goals e) goal → holds σ goal ≡ true
agreeing_hold e σ agree = columns_hold σ e.replaced (recursion_from_All (λ c. literal σ c.old ≡ literal σ c.new) e.replaced agree)

-- ---- that they are shown

module _ (lines : List ClauseLine) where
  abbrev IsFound : Clause → Type 0
  IsFound goal = Any (λ c. IsSubset c goal) (added lines)

  option_shown : (o : Option Clause) → ((goal : Clause) → Contains (cons_option o []) goal → IsFound goal) → IsShown lines o
  option_shown None h = tt
  option_shown (Some goal) h = h goal (contains_here goal [])

  first_of_two : (a : Option Clause) (rest : List Clause) (goal : Clause) → Contains (cons_option a []) goal → Contains (cons_option a rest) goal
  first_of_two None rest goal i = absurd (contains_nil goal i)
  first_of_two (Some c) rest goal i = ⊎_elim (λ e. subst (Contains (c ∷ rest)) e (contains_here c rest)) (λ j. absurd (contains_nil goal j)) (contains_cases c [] goal i)

  second_of_two : (a : Option Clause) (rest : List Clause) (goal : Clause) → Contains rest goal → Contains (cons_option a rest) goal
  second_of_two None rest goal i = i
  second_of_two (Some c) rest goal i = Contains-append_right (c ∷ []) rest goal i

  column_shown : (c : Column) → ((goal : Clause) → Contains (unmet_of c) goal → IsFound goal) → All (IsShown lines) (goals_of c)
  column_shown c h =
      let a = clause_of (negation_of c.old ∷ c.new ∷ []) in
      let b = clause_of (c.old ∷ negation_of c.new ∷ []) in
      All-from_recursion (IsShown lines) (goals_of c)
      (option_shown a (λ goal i. h goal (first_of_two a (cons_option b []) goal i)), (option_shown b (λ goal i. h goal (second_of_two a (cons_option b []) goal i)), tt))

  columns_shown : (cs : List Column) → ((goal : Clause) → Contains (flat_map unmet_of cs) goal → IsFound goal) → AllByRecursion (λ c. All (IsShown lines) (goals_of c)) cs
  columns_shown [] h = tt
  columns_shown (c ∷ cs) h = (
    column_shown c (λ goal i. h goal (Contains-append_left (unmet_of c) (flat_map unmet_of cs) goal i)),
    columns_shown cs (λ goal i. h goal (Contains-append_right (unmet_of c) (flat_map unmet_of cs) goal i)),
  )

  pub goals_shown : (e : Extended) → ((goal : Clause) → Contains (unmet_goals e) goal → IsFound goal) → AreGoalsShown lines e
  goals_shown e h = All-from_recursion (λ c. All (IsShown lines) (goals_of c)) e.replaced (columns_shown e.replaced h)

-- ---- how many there are

two_at_most : (a b : Option Clause) → length (cons_option a (cons_option b [])) ≤ 2
two_at_most None None = omega arith
two_at_most None (Some b) = omega arith
two_at_most (Some a) None = omega arith
two_at_most (Some a) (Some b) = omega arith

columns_few : (cs : List Column) → length (flat_map unmet_of cs) ≤ 2 * length cs
columns_few [] = omega arith
columns_few (c ∷ cs) =
    let more = columns_few cs in
    let two = two_at_most (clause_of (negation_of c.old ∷ c.new ∷ [])) (clause_of (c.old ∷ negation_of c.new ∷ [])) in
    let both = length-append (unmet_of c) (flat_map unmet_of cs) in
    omega arith

pub few_goals : (e : Extended) → length (unmet_goals e) ≤ 2 * length e.replaced
few_goals e = columns_few e.replaced

-- ---- which variables they name

module _ (max : ℕ) where
  option_range : (o : Option Clause) (rest : List Clause) → IsGoalInRange max o → AllByRecursion (IsClauseInRange max) rest → AllByRecursion (IsClauseInRange max) (cons_option o rest)
  option_range None rest h more = more
  option_range (Some c) rest h more = (h, more)

  column_range : (c : Column) → variable_of c.old ≤ max → variable_of c.new ≤ max → AllByRecursion (IsClauseInRange max) (unmet_of c)
  column_range c old new =
      let each = recursion_from_All (IsGoalInRange max) (goals_of c) (goals_are_in_range max c old new) in
      let a = clause_of (negation_of c.old ∷ c.new ∷ []) in
      let b = clause_of (c.old ∷ negation_of c.new ∷ []) in
      option_range a (cons_option b []) each.0 (option_range b [] each.1.0 tt)

  columns_range : (cs : List Column) → AllByRecursion (λ c. (variable_of c.old ≤ max) × (variable_of c.new ≤ max)) cs → AllByRecursion (IsClauseInRange max) (flat_map unmet_of cs)
  columns_range [] h = tt
  columns_range (c ∷ cs) h = all_join (IsClauseInRange max) (unmet_of c) (flat_map unmet_of cs) (column_range c h.0.0 h.0.1) (columns_range cs h.1)

  subset_range : (c d : Clause) → IsSubset c d → IsClauseInRange max d → IsClauseInRange max c
  subset_range c d sub h k x below = All-contains (λ l. (l ≢ pos 0) × (nat_abs l ≤ max)) d (slice_index_or c k x) h (sub (slice_index_or c k x) (Contains-get_or c k x below))

  -- what is in range stays so in other clauses of the same sets
  sets_ranged : (xs ys : List Clause) → AreSameSets xs ys → AllByRecursion (IsClauseInRange max) ys → AllByRecursion (IsClauseInRange max) xs
  sets_ranged [] [] same h = tt
  sets_ranged [] (y ∷ ys) same h = absurd same
  sets_ranged (x ∷ xs) [] same h = absurd same
  sets_ranged (x ∷ xs) (y ∷ ys) same h = (subset_range x y same.0.0 h.0, sets_ranged xs ys same.1 h.1)

  pub sets_range : (xs ys : List Clause) → AreSameSets xs ys → All (IsClauseInRange max) ys → All (IsClauseInRange max) xs
  sets_range xs ys same h = All-from_recursion (IsClauseInRange max) xs (sets_ranged xs ys same (recursion_from_All (IsClauseInRange max) ys h))

-- goals of columns whose outputs are variables up to the greatest one
pub unmet_range : (e : Extended) → All (λ c. (variable_of c.old ≤ e.max) × (variable_of c.new ≤ e.max)) e.replaced → All (IsClauseInRange e.max) (unmet_goals e)
unmet_range e each =
    All-from_recursion (IsClauseInRange e.max) (unmet_goals e) (columns_range e.max e.replaced (recursion_from_All (λ c. (variable_of c.old ≤ e.max) × (variable_of c.new ≤ e.max)) e.replaced each))

-- ---- as lists

cons_split : (o : Option Clause) (cs : List Clause) → cons_option o cs ≡ cons_option o [] ++ cs
cons_split None cs = refl
cons_split (Some c) cs = refl

-- the goals of one column

pub two_goals : (a b : Option Clause) → cons_option a (cons_option b []) ≡ cons_option a [] ++ cons_option b []
two_goals a b = cons_split a (cons_option b [])

-- one pair more
pub pairs_goals : (pairs : List (Lit × Lit)) (n : ℕ) (d : Lit × Lit) (old new : List Clause) → n < length pairs → AreSameSets old (flat_map unmet_of (columns_from 0 (take n pairs))) →
    Appends old new (unmet_of (record { number = 0; old = (slice_index_or pairs n d).0; new = (slice_index_or pairs n d).1 })) → AreSameSets new (flat_map unmet_of (columns_from 0 (take (n + 1) pairs)))
pairs_goals pairs n d old new below same h =
    let columns = columns_from 0 (take n pairs) in
    let c = column_at n (slice_index_or pairs n d) in
    subst (AreSameSets new) (sym (ap (flat_map unmet_of) (columns_more pairs n d below) ∙ flat_map-append unmet_of columns (c ∷ []) ∙ ap (λ (cs : List Clause). flat_map unmet_of columns ++ cs) (append-nil (unmet_of c))))
    (appends_same old new (flat_map unmet_of columns) (unmet_of c) same h)

pub pairs_goals_all : (pairs : List (Lit × Lit)) (n : ℕ) (goals : List Clause) → length pairs ≤ n → AreSameSets goals (flat_map unmet_of (columns_from 0 (take n pairs))) → AreSameSets goals (flat_map unmet_of (columns_from 0 pairs))
pairs_goals_all pairs n goals end same = subst (λ (ps : List (Lit × Lit)). AreSameSets goals (flat_map unmet_of (columns_from 0 ps))) (take_all n pairs end) same
