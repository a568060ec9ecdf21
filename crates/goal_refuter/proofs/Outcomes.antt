-- The log of the first goals goes on to the next one, or ends.
use Rattle.std.specs.Prelude.{◌≡◌, ℕ, ◌+◌, ◌-◌, ◌<◌, ◌≤◌, Bool, true, List, [], ◌∷◌, ◌++◌, length, take, slice_index_or, IfOk, IsTrue}
use Rattle.std.specs.List.{All}
use Rattle.std.specs.declared.result.Result.{Result}
use Rattle.std.specs.declared.result.Result.TheVariants.{Ok, Err}
use Rattle.std.proofs.Common.{refl, sym, subst, ◌∙◌, arith, true≢false}
use Rattle.std.proofs.lemmas.List.{get_or_default, take_more}
use Rattle.std.proofs.lemmas.List.Elements.{All-append, All-nil, All-push, Contains-get_or}
use Rattle.graph_core.specs.Graph.{IsEvaluation}
use Rattle.graph_core.specs.Graph.Assignments.{Assignment}
use Rattle.graph_core.specs.Graph.Extended.{Extended}
use Rattle.clause_core.specs.Clause.{Clause, IsClauseInRange, Satisfies, SameSet, holds}
use Rattle.clause_core.specs.ClauseLines.{ClauseLine, added, clause_in}
use Rattle.clause_core.specs.GateClauses.{gate_clauses}
use Rattle.clause_core.specs.Likeness.{AreSameSets}
use Rattle.clause_core.specs.Log.{AreRunsSpaced, first_spacing}
use Rattle.clause_core.specs.declared.line.Line.TheVariants.{Add}
use Rattle.clause_core.proofs.CallerLemmas.{subset_holds}
use Rattle.clause_core.proofs.Log.{one_spaced}
use Rattle.clause_core.specs.UnitPropagation.{IsRup}
use Rattle.clause_core.proofs.Sets.{rup_same}
use Rattle.cdcl_solver.specs.Logs.{Continues, LogView, lemmas, with_added}
use Rattle.cdcl_solver.specs.Solving.{assignment_of}
use Rattle.cdcl_solver.specs.declared.solved.Solved.{Solved}
use Rattle.goal_refuter.specs.Refuting.{AreOver, IsCounterexample, IsDiffering, IsGoalSpent, IsRefutation, IsShownNext, IsSoFar}
use Rattle.goal_refuter.specs.Refutations.{AreRefuted, IsRefutationLog, IsSpent, unmet_goals}
use Rattle.goal_refuter.proofs.GoalClauses.{agreeing_hold}
use Rattle.goal_refuter.proofs.Lists.{same_at, same_long, sames_flip, take_none}
use Rattle.goal_refuter.proofs.LogLines.{added_more, added_push, log_over, refuted_more, refuted_next, rup_over, spaced_joins}

-- a line whose clause names variables up to the greatest one
abbrev pub Ranged : ℕ → ClauseLine → Type 0
Ranged max x = IsClauseInRange max (clause_in x)

-- what is known of a goal, by its place
pub at_goal : (max greatest : ℕ) (given goals : List Clause) (i limit : ℕ) (here : Clause) (old new : LogView) (s : Solved) → max ≡ greatest → i < length goals → here ≡ slice_index_or goals i here →
    IsRefutation max given here limit old new s → IsRefutation greatest given (slice_index_or goals i []) limit old new s
at_goal max greatest given goals i limit here old new s is below at h =
    subst (λ (c : Clause). IsRefutation greatest given c limit old new s) (at ∙ get_or_default goals i here [] below) (subst (λ m. IsRefutation m given here limit old new s) is h)

pub so_far_none : (e : Extended) (conflicts : ℕ) (log : LogView) → log ≡ record { lines = []; left = [] } → IsSoFar e conflicts 0 log
so_far_none e conflicts log is = subst (IsSoFar e conflicts 0) (sym is) (record {
  lemmas_are = 0;
  few = omega arith;
  log_is = record {
    some = omega arith;
    refuted = subst (λ (goals : List Clause). AreRefuted (gate_clauses e.gates) [] goals [] []) (sym (take_none (unmet_goals e))) refl;
    spaced = tt;
    exactly = refl;
    in_range = All-nil (Ranged e.max);
  };
})

module _ (e : Extended) (conflicts : ℕ) (clauses goals : List Clause) (same : AreSameSets clauses (gate_clauses e.gates)) (sames : AreSameSets goals (unmet_goals e)) (i : ℕ) (below : i < length goals) (log : LogView) (h : IsSoFar e conflicts i log) where
  abbrev given : List Clause
  given = gate_clauses e.gates

  abbrev unmet : List Clause
  unmet = unmet_goals e

  abbrev here : Clause
  here = slice_index_or goals i []

  abbrev goal : Clause
  goal = slice_index_or unmet i []

  inside : i < length unmet
  inside = let long = same_long goals unmet sames in omega arith

  is_goal : SameSet here goal
  is_goal = same_at goals unmet i [] [] sames below

  module _ (limit : ℕ) (new : LogView) (c : Continues e.max clauses limit log new) where
    refuted_on : AreRefuted given [] (take i unmet) new.lines new.left
    refuted_on =
        subst (λ (lines : List ClauseLine). AreRefuted given [] (take i unmet) lines new.left) (sym c.lines)
        (refuted_more given [] (take i unmet) log.lines log.left c.more new.left h.log_is.refuted (log_over clauses given [] log.left c.more new.left same c.lawful))

    spaced_on : AreRunsSpaced first_spacing new.lines
    spaced_on = subst (AreRunsSpaced first_spacing) (sym c.lines) (spaced_joins first_spacing log.lines c.more h.log_is.spaced c.spaced)

    range_on : All (Ranged e.max) new.lines
    range_on = subst (All (Ranged e.max)) (sym c.lines) (All-append (Ranged e.max) log.lines c.more h.log_is.in_range c.in_range)

    more_on : lemmas log ≤ lemmas new
    more_on = subst (λ (lines : List ClauseLine). lemmas log ≤ length (added lines)) (sym c.lines) (added_more log.lines c.more)

  -- what the goals so far have spent
  pub spent_is : (spent : ℕ) → spent ≡ lemmas log - i → (spent ≡ h.lemmas_are) × (spent ≤ conflicts)
  spent_is spent is = let exactly = h.log_is.exactly in let few = h.few in (omega arith, omega arith)

  pub so_far_next : (spent : ℕ) → spent ≡ lemmas log - i → (new : LogView) → IsClauseInRange e.max here → IsShownNext e.max clauses here (conflicts - spent) log new → IsSoFar e conflicts (i + 1) new
  so_far_next spent is new range n =
      let between = n.between in
      let limit = conflicts - spent in
      let exactly = h.log_is.exactly in
      let spends = spent_is spent is in
      let at_most = n.continues.few in
      let on = more_on limit between n.continues in
      let pushed : lemmas (with_added between here) ≡ lemmas between + 1 = added_push between.lines here in
      let all : take (i + 1) unmet ≡ take i unmet ++ goal ∷ [] = take_more unmet i [] inside in
      let room = inside in
      subst (IsSoFar e conflicts (i + 1)) (sym n.added_is) (record {
        lemmas_are = lemmas between - i;
        few = omega arith;
        log_is = record {
          some = omega arith;
          refuted = subst (λ (gs : List Clause). AreRefuted given [] gs (between.lines ++ Add here ∷ []) (here ∷ between.left)) (sym all)
              (refuted_next given [] (take i unmet) between.lines between.left goal here (refuted_on limit between n.continues) is_goal (rup_over clauses given between.left here here same (λ l x. x, λ l x. x) n.rup));
          spaced = one_spaced first_spacing between.lines (Add here) (spaced_on limit between n.continues) tt;
          exactly = omega arith;
          in_range = All-push (Ranged e.max) between.lines (Add here) (range_on limit between n.continues) range;
        };
      })

  pub spent_here : (spent : ℕ) → spent ≡ lemmas log - i → (new : LogView) → IsGoalSpent e.max clauses here (conflicts - spent) log new → IsSpent e conflicts conflicts i new
  spent_here spent is new n =
      let limit = conflicts - spent in
      let exactly = h.log_is.exactly in
      let spends = spent_is spent is in
      let all = n.spent in
      let room = inside in
      record {
        spent = refl;
        log_is = record {
          some = omega arith;
          refuted = refuted_on limit new n.continues;
          spaced = spaced_on limit new n.continues;
          exactly = omega arith;
          in_range = range_on limit new n.continues;
        };
        within = inside;
        next = λ d r. n.next (rup_over given clauses new.left (slice_index_or unmet i d) here (sames_flip clauses given same) (let s = same_at goals unmet i [] d sames below in (s.1, s.0)) r);
      }

  pub differing_here : ((σ : Assignment) → Satisfies σ clauses → IsEvaluation e.gates σ) → (values : List Bool) → IsCounterexample e.max clauses here values → IsDiffering e values
  differing_here mean values n = record {
    all = n.all;
    evaluation = mean (assignment_of values) n.satisfies;
    differ = λ agree.
        let σ : Assignment = assignment_of values in
        let true' : holds σ goal ≡ true = agreeing_hold e σ agree goal (Contains-get_or unmet i [] inside) in
        true≢false (sym (subset_holds goal here σ is_goal.1 true') ∙ n.fails);
  }

-- a model at which the goal at a place fails
pub differing_at : (e : Extended) (max : ℕ) (clauses goals : List Clause) (i : ℕ) (values : List Bool) → AreOver e max clauses goals → ((σ : Assignment) → Satisfies σ clauses → IsEvaluation e.gates σ) → i < length goals →
    IsCounterexample max clauses (slice_index_or goals i []) values → IsDiffering e values
differing_at e max clauses goals i values over mean below n = record {
  all = n.all ∙ sym over.max_is;
  evaluation = mean (assignment_of values) n.satisfies;
  differ = λ agree.
      let σ : Assignment = assignment_of values in
      let unmet = unmet_goals e in
      let here = slice_index_or goals i [] in
      let long = same_long goals unmet over.goals_are in
      let inside : i < length unmet = omega arith in
      let same : SameSet here (slice_index_or unmet i []) = same_at goals unmet i [] [] over.goals_are below in
      let true' : holds σ (slice_index_or unmet i []) ≡ true = agreeing_hold e σ agree (slice_index_or unmet i []) (Contains-get_or unmet i [] inside) in
      true≢false (sym (subset_holds (slice_index_or unmet i []) here σ same.1 true') ∙ n.fails);
}

-- the goals so far are among the added clauses, and there are few lemmas beside them
pub goals_so_far : (e : Extended) (conflicts i : ℕ) (log : LogView) → IsSoFar e conflicts i log → i ≤ lemmas log
goals_so_far e conflicts i log h = let exactly = h.log_is.exactly in omega arith

pub few_of : (e : Extended) (conflicts i : ℕ) (log : LogView) → IsSoFar e conflicts i log → lemmas log ≤ conflicts + i
few_of e conflicts i log h = let exactly = h.log_is.exactly in let few = h.few in omega arith

pub so_far_all : (e : Extended) (conflicts : ℕ) (goals : List Clause) (i : ℕ) (log : LogView) → AreSameSets goals (unmet_goals e) → length goals ≤ i → IsSoFar e conflicts i log → IsSoFar e conflicts (length (unmet_goals e)) log
so_far_all e conflicts goals i log sames end h =
    let long = same_long goals (unmet_goals e) sames in
    let some = h.log_is.some in
    let is : i ≡ length (unmet_goals e) = omega arith in
    subst (λ n. IsSoFar e conflicts n log) is h

-- where no conflict is allowed, and the first goal doesn't follow from the clauses of the gates
pub spent_at_once : (e : Extended) (goals : List Clause) (here : Clause) → AreSameSets goals (unmet_goals e) → 0 < length goals → here ≡ slice_index_or goals 0 here → (IsRup (gate_clauses e.gates) here → ⊥) →
    IsSpent e 0 0 0 (record { lines = []; left = [] })
spent_at_once e goals here sames some is not =
    let log : LogView = record { lines = []; left = [] } in
    let none = so_far_none e 0 log refl in
    let no_lemma : none.lemmas_are ≡ 0 = let few = none.few in omega arith in
    let long = same_long goals (unmet_goals e) sames in
    record {
      spent = refl;
      log_is = subst (λ n. IsRefutationLog e 0 n log) no_lemma none.log_is;
      within = omega arith;
      next = λ d r. not (rup_same (gate_clauses e.gates) (slice_index_or (unmet_goals e) 0 d) here
          (let s = same_at goals (unmet_goals e) 0 here d sames some in subst (SameSet (slice_index_or (unmet_goals e) 0 d)) (sym is) (s.1, s.0)) r);
    }

pub seen_spent : {M : Type 0} (e : Extended) (goals : List Clause) (here : Clause) (seen : Result Bool M) → AreSameSets goals (unmet_goals e) → 0 < length goals → here ≡ slice_index_or goals 0 here →
    IfOk seen (λ s. IsTrue s → IsRup (gate_clauses e.gates) here → ⊥) → IfOk seen (λ s. IsTrue s → IsSpent e 0 0 0 (record { lines = []; left = [] }))
seen_spent e goals here (Ok s) sames some is h = λ yes. spent_at_once e goals here sames some is (h yes)
seen_spent e goals here (Err m) sames some is h = tt
