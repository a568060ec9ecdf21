-- What holds of all elements of lists, and of those that are chosen.
use Rattle.std.proofs.Common.{◌≡◌, ◌≢◌, ℕ, ◌<◌, ◌≤◌, Bool, true, false, List, [], ◌∷◌, map, refl, sym, ◌∙◌, arith, ⊎_elim}
use Rattle.std.specs.Prelude.{IfSome, IsSome, cond, not, pos, nat_abs, slice_index_or}
use Rattle.std.specs.List.{All, Any, cons_option, filter}
use Rattle.std.specs.declared.option.Option.{Option}
use Rattle.std.specs.declared.option.Option.TheVariants.{None, Some}
use Rattle.std.proofs.lemmas.List.Elements.{All-cons, All-contains, All-head, All-map, All-nil, All-tail, Contains-get_or}
use Rattle.clause_core.specs.Clause.{Clause, IsClauseInRange, IsSubset}
use Rattle.clause_core.specs.ClauseLines as shows
use Rattle.clause_core.specs.ClauseLines.{AreGoalsShown, ClauseLine, IsShownBy, added, clause_in}
use Rattle.clause_core.specs.GateClauses.{goals_of}
use Rattle.clause_core.specs.Likeness.{AreSameSets}
use Rattle.clause_core.specs.declared.line.Line.TheVariants as line
use Rattle.clause_core.proofs.CallerLemmas.{any_cases, any_here, any_nil, any_there}
use Rattle.algebra_core.specs.Text.{IsLineInRange}
use Rattle.algebra_core.specs.AlgebraLines as algebra
use Rattle.graph_core.specs.Graph.Extended.{Extended}
use Rattle.miter_encoder.specs.ColumnGoals.{AreGoalsOf, IsGoalOf}
use Rattle.miter_encoder.specs.declared.goal.Goal.{Goal}
use Rattle.pac_checker.specs.Checking.{IsRecordable}
use Rattle.poly_terms.specs.Tables.{Table}
use Rattle.poly_text.specs.Lines.{line_in}
use Rattle.poly_text.specs.Recorded.{HasNewId, id_in, lines_in}
use Rattle.poly_text.specs.WrittenLines.{IsWritable}
use Rattle.poly_text.specs.declared.line.PacLine.{PacLine}
use Rattle.poly_text.specs.declared.line.PacLine.TheVariants as pac
use Rattle.clause_core.specs.KeptClauses.{added_lines, chosen}
use Rattle.pair_trim.specs.Marking.{IsShownIn, unmet}

true_false : true ≡ false → ⊥
true_false e = cc

pub both_all : {X : Type 0} (P Q R : X → Type 0) → ((x : X) → P x → Q x → R x) → (xs : List X) → All P xs → All Q xs → All R xs
both_all P Q R f [] p q = All-nil R
both_all P Q R f (x ∷ xs) p q = All-cons R x xs (f x (All-head P x xs p) (All-head Q x xs q)) (both_all P Q R f xs (All-tail P x xs p) (All-tail Q x xs q))

pub all_chosen : {X : Type 0} (P : X → Type 0) (marks : List Bool) (xs : List X) → All P xs → All P (chosen marks xs)
all_chosen P [] xs h = All-nil P
all_chosen P (b ∷ marks) [] h = All-nil P
all_chosen P (true ∷ marks) (x ∷ xs) h = All-cons P x (chosen marks xs) (All-head P x xs h) (all_chosen P marks xs (All-tail P x xs h))
all_chosen P (false ∷ marks) (x ∷ xs) h = all_chosen P marks xs (All-tail P x xs h)

-- ---- clauses

pub all_added : (P : Clause → Type 0) (lines : List ClauseLine) → All (λ x. P (clause_in x)) lines → All P (added lines)
all_added P [] h = All-nil P
all_added P (line.Add c ∷ lines) h = All-cons P c (added lines) (All-head (λ x. P (clause_in x)) (line.Add c) lines h) (all_added P lines (All-tail (λ x. P (clause_in x)) (line.Add c) lines h))
all_added P (line.Delete c ∷ lines) h = all_added P lines (All-tail (λ x. P (clause_in x)) (line.Delete c) lines h)

pub all_lines : (P : Clause → Type 0) (cs : List Clause) → All P cs → All (λ x. P (clause_in x)) (added_lines cs)
all_lines P cs h = All-map (λ x. P (clause_in x)) (λ c. line.Add c) cs h

subset_in_range : (max : ℕ) (c d : Clause) → IsSubset c d → IsClauseInRange max d → IsClauseInRange max c
subset_in_range max c d part h = λ i l low. All-contains (λ k. (k ≢ pos 0) × (nat_abs k ≤ max)) d (slice_index_or c i l) h (part (slice_index_or c i l) (Contains-get_or c i l low))

pub same_in_range : (max : ℕ) (cs ds : List Clause) → AreSameSets cs ds → All (IsClauseInRange max) ds → All (IsClauseInRange max) cs
same_in_range max [] ds same h = All-nil (IsClauseInRange max)
same_in_range max (c ∷ cs) [] same h = absurd same
same_in_range max (c ∷ cs) (d ∷ ds) same h =
    All-cons (IsClauseInRange max) c cs (subset_in_range max c d same.0.0 (All-head (IsClauseInRange max) d ds h)) (same_in_range max cs ds same.1 (All-tail (IsClauseInRange max) d ds h))

-- ---- goals

-- a clause that shows a goal, among clauses of the same sets
shown_same : (cs ds : List Clause) (goal : Clause) → AreSameSets cs ds → Any (λ d. IsSubset d goal) ds → Any (λ c. IsSubset c goal) cs
shown_same [] [] goal same h = h
shown_same [] (d ∷ ds) goal same h = absurd same
shown_same (c ∷ cs) [] goal same h = absurd same
shown_same (c ∷ cs) (d ∷ ds) goal same h = ⊎_elim (λ here. any_here _ c cs (λ l has. here l (same.0.0 l has))) (λ there. any_there _ c cs (shown_same cs ds goal same.1 there)) (any_cases _ d ds h)

shown_more : (cs : List Clause) (one other : Clause) → IsSubset one other → Any (λ c. IsSubset c one) cs → Any (λ c. IsSubset c other) cs
shown_more [] one other more h = absurd (any_nil _ h)
shown_more (c ∷ cs) one other more h = ⊎_elim (λ here. any_here _ c cs (λ l has. more l (here l has))) (λ there. any_there _ c cs (shown_more cs one other more there)) (any_cases _ c cs h)

module _ (old new : List Clause) where
  abbrev Goes : Clause → Type 0
  Goes goal = IsShownIn old goal → IsShownIn new goal

  -- a goal of a column is one that isn't met
  goal_shown : (goals : List Goal) (number : ℕ) (d : Clause) → All Goes (unmet goals) → Any (IsGoalOf number (Some d)) goals → IsShownIn old d → IsShownIn new d
  goal_shown [] number d h there shown = absurd (any_nil (IsGoalOf number (Some d)) there)
  goal_shown (g ∷ goals) number d h there shown = go g.met refl h (λ all later. goal_shown goals number d all later shown)
    where
      go : (met : Bool) → g.met ≡ met → All Goes (map (λ x. x.clause) (cond (not met) (g ∷ filter (λ x. not x.met) goals) (filter (λ x. not x.met) goals))) →
          (All Goes (unmet goals) → Any (IsGoalOf number (Some d)) goals → IsShownIn new d) → IsShownIn new d
      go true is all rest = ⊎_elim (λ at. absurd (true_false (sym is ∙ at.1))) (rest all) (any_cases (IsGoalOf number (Some d)) g goals there)
      go false is all rest = ⊎_elim (λ at. shown_more new g.clause d at.2.0 (All-head Goes g.clause (unmet goals) all (shown_more old d g.clause at.2.1 shown)))
          (rest (All-tail Goes g.clause (unmet goals) all)) (any_cases (IsGoalOf number (Some d)) g goals there)

-- the goals of an extended graph that lines show are shown by others that show what they show
pub goals_shown : (e : Extended) (goals : List Goal) (old : List Clause) (lines new : List ClauseLine) → AreGoalsOf e goals → AreSameSets old (added lines) →
    All (λ g. IsShownIn old g → IsShownIn (added new) g) (unmet goals) → AreGoalsShown lines e → AreGoalsShown new e
goals_shown e goals old lines new of same goes shown =
    both_all (λ c. All (λ o. Any (IsGoalOf c.number o) goals) (goals_of c)) (λ c. All (shows.IsShown lines) (goals_of c)) (λ c. All (shows.IsShown new) (goals_of c))
    (λ c has all. both_all (λ o. Any (IsGoalOf c.number o) goals) (shows.IsShown lines) (shows.IsShown new) (λ o there one. go c.number o there one) (goals_of c) has all) e.replaced of.all shown
  where
    go : (number : ℕ) (o : Option Clause) → Any (IsGoalOf number o) goals → IsShownBy (added lines) o → IsShownBy (added new) o
    go number None there one = tt
    go number (Some d) there one = goal_shown old (added new) goals number d goes there (shown_same old (added lines) d same one)

-- ---- lines of the algebra

pub has_id : (x : PacLine) → HasNewId x → IsWritable x → 0 < id_in x
has_id (pac.Sum id i j p) new h = h.0.0
has_id (pac.Product id i q p) new h = h.0.0
has_id (pac.Combination id parts p) new h = h.0.0
has_id (pac.Import id n p) new h = h.0.0
has_id (pac.Drop id) new h = absurd new
has_id (pac.Close id) new h = absurd new

pub all_in_range : (t : Table) (max : ℕ) (lines : List PacLine) → All (IsRecordable max t) lines → All (IsLineInRange max) (lines_in t lines)
all_in_range t max [] h = All-nil (IsLineInRange max)
all_in_range t max (x ∷ lines) h = go (line_in t x) (lines_in t lines) (All-head (IsRecordable max t) x lines h).in_range (all_in_range t max lines (All-tail (IsRecordable max t) x lines h))
  where
    go : (o : Option algebra.Line) (ys : List algebra.Line) → IfSome o (IsLineInRange max) → All (IsLineInRange max) ys → All (IsLineInRange max) (cons_option o ys)
    go None ys one all = all
    go (Some y) ys one all = All-cons (IsLineInRange max) y ys one all

pub goes_on : (t : Table) (x : PacLine) → 0 < id_in x → IsSome (line_in t x)
goes_on t (pac.Sum id i j p) h = refl
goes_on t (pac.Product id i q p) h = refl
goes_on t (pac.Combination id parts p) h = refl
goes_on t (pac.Import id n p) h = refl
goes_on t (pac.Drop id) h = refl
goes_on t (pac.Close id) h = absurd (omega (arith, h))
