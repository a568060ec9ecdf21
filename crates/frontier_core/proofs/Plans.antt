-- Each step of a plan leaves a frontier, and the plain plan is one.
use Rattle.std.specs.Prelude.{◌≡◌, ℕ, zero, suc, ◌+◌, ◌<◌, ◌≤◌, Bool, true, false, ◌||◌, List, [], ◌∷◌, ◌++◌, map, length, take, slice_get, slice_index_or, ◌==◌}
use Rattle.std.specs.declared.option.Option.TheVariants.{Some}
use Rattle.std.specs.List.{All, AllByRecursion}
use Rattle.std.proofs.Common.{refl, sym, ap, subst, ◌∙◌, arith, ⊎_elim, ne_eqb, eq-eqb, append_assoc}
use Rattle.std.proofs.lemmas.Bool.{cases_Bool, or_left, or_right}
use Rattle.std.proofs.lemmas.List.Folds.{list_any-append}
use Rattle.std.proofs.lemmas.List.Sorted.{list_any-IsPermutation}
use Rattle.std.proofs.lemmas.Option.{slice_get_within}
use Rattle.graph_core.specs.Graph.Extended.{Extended}
use Rattle.ripple_graft.specs.Extension.{new_outputs, IsExtension}
use Rattle.graph_core.proofs.OfGraphs.CallerLemmas.{all_weaker, take-length-append}
use Rattle.frontier_core.specs.declared.step.Step.{Step}
use Rattle.frontier_core.specs.declared.step.Step.TheVariants.{Add, Eliminate}
use Rattle.frontier_core.specs.Sets.{has, count_from}
use Rattle.frontier_core.specs.Columns.{all_columns}
use Rattle.frontier_core.specs.Frontier.{IsLastFrontier}
use Rattle.frontier_core.specs.PlainOrder.{ComesBefore, IsPlainOrder}
use Rattle.frontier_core.specs.Plan.{Taken, nothing, step, taken, IsFrontierOf, value_of_taken, CanEliminate, CanFollow, AreSteps, PlanLeavesFrontiers, StepIsPushed, plain_steps, PlainPlanIsPlan}
use Rattle.frontier_core.proofs.Everywhere.{all_has, all_had}
use Rattle.frontier_core.proofs.FrontierSets.{frontier_is_set}
use Rattle.frontier_core.proofs.FrontierSteps.{first_frontier, adding_leaves_frontier, eliminating_leaves_frontier}
use Rattle.frontier_core.proofs.PlainOrders.{Pairs, pairs_recursion, pairs_split, gates_had, comes_once, all_columns_have, plain_order_finishes, length-outputs_from}

step_leaves : (e : Extended) (f : Taken) (s : Step) → IsFrontierOf e f → CanFollow e f s → IsFrontierOf e (step f s)
step_leaves e f (Add k) h c = adding_leaves_frontier e f.added f.eliminated k h c.0 c.1
step_leaves e f (Eliminate v) h c = eliminating_leaves_frontier e f.added f.eliminated v h c.gate c.new c.readers c.outputs

steps_leave : (e : Extended) (f : Taken) (ss : List Step) (t : ℕ) → IsFrontierOf e f → AreSteps e f ss → IsFrontierOf e (taken f (take t ss))
steps_leave e f [] zero h a = h
steps_leave e f [] (suc t) h a = h
steps_leave e f (s ∷ ss) zero h a = h
steps_leave e f (s ∷ ss) (suc t) h a = steps_leave e (step f s) ss t (step_leaves e f s h a.0) a.1

steps_follow : (e : Extended) (f : Taken) (ss : List Step) (t : ℕ) (s : Step) → AreSteps e f ss → slice_get ss t ≡ Some s → CanFollow e (taken f (take t ss)) s
steps_follow e f [] t s a is = absurd (cc)
steps_follow e f (x ∷ xs) zero s a is = subst (CanFollow e f) (some_same is) a.0
  where
    some_same : {y z : Step} → Some y ≡ Some z → y ≡ z
    some_same h = cc
steps_follow e f (x ∷ xs) (suc t) s a is = steps_follow e (step f x) xs t s a.1 is

pub plan_leaves_frontiers : PlanLeavesFrontiers
plan_leaves_frontiers e steps t a = (steps_leave e nothing steps t (first_frontier e).0 a, λ s is. steps_follow e nothing steps t s a is)

pub step_is_pushed : StepIsPushed
step_is_pushed e f [] s = (refl, λ a c. (c, tt))
step_is_pushed e f (x ∷ xs) s = let rest = step_is_pushed e (step f x) xs s in (rest.0, λ a c. (a.0, rest.1 a.1 c))

pub taken_append : (f : Taken) (xs ys : List Step) → taken f (xs ++ ys) ≡ taken (taken f xs) ys
taken_append f [] ys = refl
taken_append f (x ∷ xs) ys = taken_append (step f x) xs ys

steps_append : (e : Extended) (f : Taken) (xs ys : List Step) → AreSteps e f xs → AreSteps e (taken f xs) ys → AreSteps e f (xs ++ ys)
steps_append e f [] ys a b = b
steps_append e f (x ∷ xs) ys a b = (a.0, steps_append e (step f x) xs ys a.1 b)

-- what is had once some numbers are put in front, the latest first
abbrev pushed : List ℕ → List ℕ → List ℕ
pushed us [] = us
pushed us (v ∷ vs) = pushed (v ∷ us) vs

pushed_has : (us vs : List ℕ) (w : ℕ) → has (pushed us vs) w ≡ (has us w || has vs w)
pushed_has us [] w = or_none (has us w)
  where
    or_none : (b : Bool) → b ≡ (b || false)
    or_none true = refl
    or_none false = refl
pushed_has us (v ∷ vs) w = pushed_has (v ∷ us) vs w ∙ turn (v == w) (has us w) (has vs w)
  where
    turn : (a b c : Bool) → ((a || b) || c) ≡ (b || (a || c))
    turn true true c = refl
    turn true false c = refl
    turn false true c = refl
    turn false false c = refl

added_all : (f : Taken) (ks : List ℕ) → taken f (map Add ks) ≡ record { added = pushed f.added ks; eliminated = f.eliminated }
added_all f [] = refl
added_all f (k ∷ ks) = added_all (step f (Add k)) ks

eliminated_all : (f : Taken) (vs : List ℕ) → taken f (map Eliminate vs) ≡ record { added = f.added; eliminated = pushed f.eliminated vs }
eliminated_all f [] = refl
eliminated_all f (v ∷ vs) = eliminated_all (step f (Eliminate v)) vs

-- adding the columns from k on
adds_follow : (e : Extended) (f : Taken) (k n : ℕ) → ((j : ℕ) → k ≤ j → has f.added j ≡ false) → k + n ≤ length e.graph.outputs → AreSteps e f (map Add (count_from k n))
adds_follow e f k zero none low = tt
adds_follow e f k (suc n) none low = (
  (omega arith, none k (omega arith)),
  adds_follow e (step f (Add k)) (suc k) n (λ j above. ap (λ b. b || has f.added j) (ne_eqb k j (λ s. omega arith)) ∙ none j (omega arith)) (omega arith),
)

slice_get-behind : (done : List ℕ) (v : ℕ) (rest : List ℕ) → slice_get (done ++ v ∷ rest) (length done) ≡ Some v
slice_get-behind [] v rest = refl
slice_get-behind (d ∷ done) v rest = slice_get-behind done v rest

module _ (e : Extended) (vs : List ℕ) (made : IsExtension e) (plain : IsPlainOrder e.gates vs) where
  same_have : (v : ℕ) → has vs v ≡ has (map (λ x. x.v) e.gates) v
  same_have v = list_any-IsPermutation (λ u. u == v) vs (map (λ x. x.v) e.gates) plain.0

  pairs : Pairs (ComesBefore e.gates) vs
  pairs = pairs_recursion (ComesBefore e.gates) vs plain.1

  -- the gate after some isn't among them
  not_done : (done : List ℕ) (v : ℕ) (rest : List ℕ) → vs ≡ done ++ v ∷ rest → has done v ≡ false
  not_done done v rest is =
      let crossed = (pairs_split (ComesBefore e.gates) done (v ∷ rest) (subst (Pairs (ComesBefore e.gates)) is pairs)).1 in
      ⊎_elim
      (λ t. absurd (comes_once e.gates made.acyclic v v
      (all_has (λ d. ComesBefore e.gates d v) done v (all_weaker (λ d. AllByRecursion (ComesBefore e.gates d) (v ∷ rest)) (λ d. ComesBefore e.gates d v) done (λ d h. h.0) crossed) t) refl))
      (λ n. n) (cases_Bool (has done v))

  -- it can be eliminated once they are
  gate_follows : (f : Taken) (done : List ℕ) (v : ℕ) (rest : List ℕ) → vs ≡ done ++ v ∷ rest → ((k : ℕ) → k < length e.graph.outputs → has f.added k ≡ true) →
      ((w : ℕ) → has done w ≡ true → has f.eliminated w ≡ true) → has f.eliminated v ≡ false → CanEliminate e f v
  gate_follows f done v rest is all inside new =
      let there : has (done ++ v ∷ rest) v ≡ true = list_any-append (λ u. u == v) done (v ∷ rest) ∙ or_right (has done v) (has (v ∷ rest) v) (or_left (v == v) (has rest v) (eq-eqb v v refl)) in
      let front : take (length done) vs ≡ done = ap (take (length done)) is ∙ take-length-append done (v ∷ rest) in
      record {
        gate = sym (same_have v) ∙ ap (λ us. has us v) is ∙ there;
        new = new;
        readers = plain_order_finishes e f.eliminated vs (length done) v made.acyclic plain
            (subst (All (λ w. has f.eliminated w ≡ true)) (sym front) (λ k d h. inside (slice_index_or done k d) (all_had done k d h))) (ap (λ us. slice_get us (length done)) is ∙ slice_get-behind done v rest);
        outputs = λ k l h s. all k (omega (arith, slice_get_within (new_outputs e) k l h, length-outputs_from e.replaced 0 e.graph.outputs));
      }

  gates_follow : (f : Taken) (done rest : List ℕ) → vs ≡ done ++ rest → ((k : ℕ) → k < length e.graph.outputs → has f.added k ≡ true) → ((w : ℕ) → has f.eliminated w ≡ has done w) → AreSteps e f (map Eliminate rest)
  gates_follow f done [] is all same = tt
  gates_follow f done (v ∷ rest) is all same = (
    gate_follows f done v rest is all (λ w h. same w ∙ h) (same v ∙ not_done done v rest is),
    gates_follow (step f (Eliminate v)) (done ++ v ∷ []) rest (is ∙ sym (append_assoc done (v ∷ []) rest)) all
        (λ w. ap (λ b. (v == w) || b) (same w) ∙ turned (v == w) (has done w) ∙ sym (list_any-append (λ u. u == w) done (v ∷ []))),
  )
    where
      turned : (a b : Bool) → (a || b) ≡ (b || (a || false))
      turned true true = refl
      turned true false = refl
      turned false true = refl
      turned false false = refl

  abbrev columns : List ℕ
  columns = all_columns e

  taken_is : (ws : List ℕ) → taken nothing (map Add columns ++ map Eliminate ws) ≡ record { added = pushed [] columns; eliminated = pushed [] ws }
  taken_is ws = taken_append nothing (map Add columns) (map Eliminate ws) ∙ ap (λ f. taken f (map Eliminate ws)) (added_all nothing columns) ∙ eliminated_all (record { added = pushed [] columns; eliminated = [] }) ws

  after_columns : (k : ℕ) → k < length e.graph.outputs → has (taken nothing (map Add columns)).added k ≡ true
  after_columns k h = ap (λ f. has f.added k) (added_all nothing columns) ∙ pushed_has [] columns k ∙ all_columns_have e k h

  plain_follows : AreSteps e nothing (plain_steps e vs)
  plain_follows =
      steps_append e nothing (map Add columns) (map Eliminate vs) (adds_follow e nothing 0 (length e.graph.outputs) (λ j h. refl) (omega arith))
      (gates_follow (taken nothing (map Add columns)) [] vs refl after_columns (λ w. ap (λ f. has f.eliminated w) (added_all nothing columns)))

  plain_last : IsLastFrontier e (taken nothing (plain_steps e vs)).added (taken nothing (plain_steps e vs)).eliminated
  plain_last = subst (λ f. IsLastFrontier e f.added f.eliminated) (sym (taken_is vs)) (record {
    all_columns = λ k h. pushed_has [] columns k ∙ all_columns_have e k h;
    all_gates = λ k d h. pushed_has [] vs (slice_index_or e.gates k d).v ∙ same_have (slice_index_or e.gates k d).v ∙ gates_had e.gates k d h;
  })

pub plain_plan_is_plan : PlainPlanIsPlan
plain_plan_is_plan e vs made plain = (
  record { follow = plain_follows e vs made plain; last = plain_last e vs made plain },
  (λ s t low σ.
      ap (λ f. value_of_taken e s f σ) (taken_is e vs made plain (take t vs)) ∙
      (frontier_is_set e (pushed [] (all_columns e)) (pushed [] (take t vs)) (all_columns e) (take t vs) (λ k. pushed_has [] (all_columns e) k) (λ v. pushed_has [] (take t vs) v)).0 s σ),
)
