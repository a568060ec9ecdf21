-- The slice plan is a plan that goes by groups.
use Rattle.std.specs.declared.option.Option.TheVariants.{Some}
use Rattle.std.specs.Prelude.{◌≡◌, ℕ, zero, suc, ◌+◌, ◌<◌, ◌≤◌, ◌⊎◌, Bool, true, false, cond, not, ◌&&◌, ◌||◌, List, [], ◌∷◌, ◌++◌, map, length, reverse, slice_get, slice_index_or, ◌==◌}
use Rattle.std.specs.List.{All, AllByRecursion, Contains, concat}
use Rattle.std.proofs.Common.{refl, sym, ap, ap₂, subst, ◌∙◌, arith, inl, inr, ⊎_elim, true≢false, eqb-true, eq-eqb}
use Rattle.std.proofs.lemmas.Bool.{cases_Bool, cases_eq, or_cases, or_left, or_right}
use Rattle.std.proofs.lemmas.List.Folds.{concat-append}
use Rattle.std.proofs.lemmas.List.Elements.{recursion_from_All, All-from_recursion}
use Rattle.graph_core.specs.declared.literal.Lit.{Lit}
use Rattle.graph_core.specs.declared.gate.Gate.{Gate}
use Rattle.graph_core.specs.Graph.Literals.{variable_of}
use Rattle.graph_core.specs.Graph.Extended.{Extended}
use Rattle.graph_core.proofs.OfGraphs.CallerLemmas.{all_join, all_split, all_weaker, by_cases}
use Rattle.ripple_graft.specs.Extension.{new_outputs}
use Rattle.frontier_core.specs.declared.step.Step.{Step}
use Rattle.frontier_core.specs.declared.step.Step.TheVariants.{Add, Eliminate}
use Rattle.frontier_core.specs.Sets.{has}
use Rattle.frontier_core.specs.Plan.{Taken, nothing, step, taken, CanEliminate, AreSteps}
use Rattle.slice_planner.specs.Groups.{IsWhole}
use Rattle.slice_planner.specs.GroupPlans.{AreGroups, AreAtGroups}
use Rattle.slice_planner.specs.SlicePlan.{readers_gone, outputs_added, can_go, can_all_go, swept, slices, slice_steps, columns_added, count_down, SlicePlanServes}
use Rattle.slice_planner.proofs.Composition.{has_append}
use Rattle.slice_planner.proofs.GroupPlans.{first_groups, column_is_pushed, group_is_pushed, next_group_follows, groups_finish, taken-append, all_has_itself, has_reversed, eliminated_after, after_is}

-- ---- tests

and_parts : (a b : Bool) → (a && b) ≡ true → (a ≡ true) × (b ≡ true)
and_parts true true h = (refl, refl)
and_parts true false h = (refl, h)
and_parts false b h = (h, absurd (true≢false (sym h)))

and_both : (a b : Bool) → a ≡ true → b ≡ true → (a && b) ≡ true
and_both a b h k = ap₂ ◌&&◌ h k

not_true : (a : Bool) → not a ≡ true → a ≡ false
not_true true h = sym h
not_true false h = refl

-- a premise and what follows
implies : (a b : Bool) → (not a || b) ≡ true → a ≡ true → b ≡ true
implies true b h t = h
implies false b h t = absurd (true≢false (sym t))

implied : (a b : Bool) → (a ≡ true → b ≡ true) → (not a || b) ≡ true
implied true b h = h refl
implied false b h = refl

readers_sound : (gates : List Gate) (E : List ℕ) (v : ℕ) → readers_gone gates E v ≡ true → AllByRecursion (λ x. (variable_of x.left ≡ v) ⊎ (variable_of x.right ≡ v) → has E x.v ≡ true) gates
readers_sound [] E v h = tt
readers_sound (x ∷ gates) E v h =
    let parts = and_parts (not ((variable_of x.left == v) || (variable_of x.right == v)) || has E x.v) (readers_gone gates E v) h in (
      (λ r. implies ((variable_of x.left == v) || (variable_of x.right == v)) (has E x.v) parts.0
          (⊎_elim (λ s. or_left (variable_of x.left == v) (variable_of x.right == v) (eq-eqb (variable_of x.left) v s)) (λ s. or_right (variable_of x.left == v) (variable_of x.right == v) (eq-eqb (variable_of x.right) v s)) r)),
      readers_sound gates E v parts.1,
    )

readers_complete : (gates : List Gate) (E : List ℕ) (v : ℕ) → AllByRecursion (λ x. (variable_of x.left ≡ v) ⊎ (variable_of x.right ≡ v) → has E x.v ≡ true) gates → readers_gone gates E v ≡ true
readers_complete [] E v h = refl
readers_complete (x ∷ gates) E v h =
    and_both (not ((variable_of x.left == v) || (variable_of x.right == v)) || has E x.v) (readers_gone gates E v)
    (implied ((variable_of x.left == v) || (variable_of x.right == v)) (has E x.v)
    (λ t. h.0 (⊎_elim (λ s. inl (eqb-true (variable_of x.left) v s)) (λ s. inr (eqb-true (variable_of x.right) v s)) (or_cases (variable_of x.left == v) (variable_of x.right == v) t))))
    (readers_complete gates E v h.1)

outputs_sound : (ls : List Lit) (k : ℕ) (K : List ℕ) (v j : ℕ) (l : Lit) → outputs_added ls k K v ≡ true → slice_get ls j ≡ Some l → variable_of l ≡ v → has K (k + j) ≡ true
outputs_sound [] k K v j l h is e = absurd (cc)
outputs_sound (m ∷ ls) k K v zero l h is e =
    let parts = and_parts (not (variable_of m == v) || has K k) (outputs_added ls (suc k) K v) h in
    let same : m ≡ l = cc in
    ap (has K) (omega arith) ∙ implies (variable_of m == v) (has K k) parts.0 (eq-eqb (variable_of m) v (ap variable_of same ∙ e))
outputs_sound (m ∷ ls) k K v (suc j) l h is e =
    let parts = and_parts (not (variable_of m == v) || has K k) (outputs_added ls (suc k) K v) h in
    ap (has K) (omega arith) ∙ outputs_sound ls (suc k) K v j l parts.1 is e

outputs_complete : (ls : List Lit) (k : ℕ) (K : List ℕ) (v : ℕ) → ((j : ℕ) (l : Lit) → slice_get ls j ≡ Some l → variable_of l ≡ v → has K (k + j) ≡ true) → outputs_added ls k K v ≡ true
outputs_complete [] k K v h = refl
outputs_complete (m ∷ ls) k K v h =
    and_both (not (variable_of m == v) || has K k) (outputs_added ls (suc k) K v)
    (implied (variable_of m == v) (has K k) (λ t. ap (has K) (omega arith) ∙ h 0 m refl (eqb-true (variable_of m) v t)))
    (outputs_complete ls (suc k) K v (λ j l is e. ap (has K) (omega arith) ∙ h (suc j) l is e))

can_sound : (e : Extended) (f : Taken) (v : ℕ) → can_go e f v ≡ true → CanEliminate e f v
can_sound e f v h =
    let one = and_parts (has (map (λ x. x.v) e.gates) v) (not (has f.eliminated v) && (readers_gone e.gates f.eliminated v && outputs_added (new_outputs e) 0 f.added v)) h in
    let two = and_parts (not (has f.eliminated v)) (readers_gone e.gates f.eliminated v && outputs_added (new_outputs e) 0 f.added v) one.1 in
    let three = and_parts (readers_gone e.gates f.eliminated v) (outputs_added (new_outputs e) 0 f.added v) two.1 in
    record {
      gate = one.0;
      new = not_true (has f.eliminated v) two.0;
      readers = All-from_recursion (λ x. (variable_of x.left ≡ v) ⊎ (variable_of x.right ≡ v) → has f.eliminated x.v ≡ true) e.gates (readers_sound e.gates f.eliminated v three.0);
      outputs = λ k l is s. ap (has f.added) (omega arith) ∙ outputs_sound (new_outputs e) 0 f.added v k l three.1 is s;
    }

can_complete : (e : Extended) (f : Taken) (v : ℕ) → CanEliminate e f v → can_go e f v ≡ true
can_complete e f v h =
    and_both (has (map (λ x. x.v) e.gates) v) (not (has f.eliminated v) && (readers_gone e.gates f.eliminated v && outputs_added (new_outputs e) 0 f.added v)) h.gate
    (and_both (not (has f.eliminated v)) (readers_gone e.gates f.eliminated v && outputs_added (new_outputs e) 0 f.added v) (ap not h.new)
    (and_both (readers_gone e.gates f.eliminated v) (outputs_added (new_outputs e) 0 f.added v)
    (readers_complete e.gates f.eliminated v (recursion_from_All (λ x. (variable_of x.left ≡ v) ⊎ (variable_of x.right ≡ v) → has f.eliminated x.v ≡ true) e.gates h.readers))
    (outputs_complete (new_outputs e) 0 f.added v (λ j l is s. ap (has f.added) (omega arith) ∙ h.outputs j l is s))))

pub all_sound : (e : Extended) (f : Taken) (vs : List ℕ) → can_all_go e f vs ≡ true → AreSteps e f (map Eliminate vs)
all_sound e f [] h = tt
all_sound e f (v ∷ vs) h = let parts = and_parts (can_go e f v) (can_all_go e (step f (Eliminate v)) vs) h in (can_sound e f v parts.0, all_sound e (step f (Eliminate v)) vs parts.1)

pub all_complete : (e : Extended) (f : Taken) (vs : List ℕ) → AreSteps e f (map Eliminate vs) → can_all_go e f vs ≡ true
all_complete e f [] h = refl
all_complete e f (v ∷ vs) h = and_both (can_go e f v) (can_all_go e (step f (Eliminate v)) vs) (can_complete e f v h.0) (all_complete e (step f (Eliminate v)) vs h.1)

-- ---- one sweep

append_assoc : {X : Type 0} (xs ys zs : List X) → (xs ++ ys) ++ zs ≡ xs ++ (ys ++ zs)
append_assoc [] ys zs = refl
append_assoc (x ∷ xs) ys zs = ap (λ ws. x ∷ ws) (append_assoc xs ys zs)

append_nil : {X : Type 0} (xs : List X) → xs ++ [] ≡ xs
append_nil [] = refl
append_nil (x ∷ xs) = ap (λ ws. x ∷ ws) (append_nil xs)

pub added_stays : (f : Taken) (vs : List ℕ) → (taken f (map Eliminate vs)).added ≡ f.added
added_stays f [] = refl
added_stays f (v ∷ vs) = added_stays (step f (Eliminate v)) vs

swept_added : (e : Extended) (f : Taken) (gs : List (List ℕ)) → (taken f (swept e f gs)).added ≡ f.added
swept_added e f [] = refl
swept_added e f (u ∷ gs) =
    by_cases (λ t. (taken f (cond t (map Eliminate u ++ swept e (taken f (map Eliminate u)) gs) (swept e f gs))).added ≡ f.added) (can_all_go e f u)
    (λ t. ap (λ k. k.added) (taken-append f (map Eliminate u) (swept e (taken f (map Eliminate u)) gs)) ∙ swept_added e (taken f (map Eliminate u)) gs ∙ added_stays f u) (λ t. swept_added e f gs)

columns-append : (xs ys : List Step) → columns_added (xs ++ ys) ≡ columns_added xs ++ columns_added ys
columns-append [] ys = refl
columns-append (Add k ∷ xs) ys = ap (λ ks. k ∷ ks) (columns-append xs ys)
columns-append (Eliminate v ∷ xs) ys = columns-append xs ys

no_columns : (vs : List ℕ) → columns_added (map Eliminate vs) ≡ []
no_columns [] = refl
no_columns (v ∷ vs) = no_columns vs

swept_columns : (e : Extended) (f : Taken) (gs : List (List ℕ)) → columns_added (swept e f gs) ≡ []
swept_columns e f [] = refl
swept_columns e f (u ∷ gs) =
    by_cases (λ t. columns_added (cond t (map Eliminate u ++ swept e (taken f (map Eliminate u)) gs) (swept e f gs)) ≡ []) (can_all_go e f u)
    (λ t. columns-append (map Eliminate u) (swept e (taken f (map Eliminate u)) gs) ∙ ap₂ ◌++◌ (no_columns u) (swept_columns e (taken f (map Eliminate u)) gs)) (λ t. swept_columns e f gs)

-- a group with those before and after it
pub record IsOne (gs : List (List ℕ)) (u : List ℕ) : Type 0 where
  pub before : List (List ℕ)
  pub behind : List (List ℕ)
  pub split : gs ≡ before ++ u ∷ behind

pub split_at : (i : ℕ) (gs : List (List ℕ)) (u : List ℕ) → i < length gs → slice_index_or gs i u ≡ u → IsOne gs u
split_at i [] u h e = absurd (omega arith)
split_at zero (x ∷ gs) u h e = record { before = []; behind = gs; split = ap (λ y. y ∷ gs) e }
split_at (suc i) (x ∷ gs) u h e = let rest = split_at i gs u (omega arith) e in record { before = x ∷ rest.before; behind = rest.behind; split = ap (λ ys. x ∷ ys) rest.split }

pub are_ones : (gs us : List (List ℕ)) → All (Contains gs) us → AllByRecursion (IsOne gs) us
are_ones gs us h = all_weaker (Contains gs) (IsOne gs) us (λ u is. split_at is.0 gs u is.1 is.2) (recursion_from_All (Contains gs) us h)

pub all_ones : (gs before rest : List (List ℕ)) → gs ≡ before ++ rest → AllByRecursion (IsOne gs) rest
all_ones gs before [] e = tt
all_ones gs before (u ∷ rest) e = (record { before = before; behind = rest; split = e }, all_ones gs (before ++ u ∷ []) rest (e ∙ sym (append_assoc before (u ∷ []) rest)))

module _ (e : Extended) (gs : List (List ℕ)) (are : AreGroups e gs) where
  pub sweep_at : (us : List (List ℕ)) → AllByRecursion (IsOne gs) us → (steps : List Step) (f : Taken) → taken nothing steps ≡ f → AreAtGroups e gs steps → AreAtGroups e gs (steps ++ swept e f us)
  sweep_at [] ones steps f is at = subst (AreAtGroups e gs) (sym (append_nil steps)) at
  sweep_at (u ∷ us) ones steps f is at =
      by_cases (λ t. can_all_go e f u ≡ t → AreAtGroups e gs (steps ++ cond t (map Eliminate u ++ swept e (taken f (map Eliminate u)) us) (swept e f us))) (can_all_go e f u)
      (λ t q.
      let one = ones.0 in
      let more = group_is_pushed e gs one.before one.behind u steps are one.split at (subst (λ k. AreSteps e k (map Eliminate u)) (sym is) (all_sound e f u q)) in
      subst (AreAtGroups e gs) (append_assoc steps (map Eliminate u) (swept e (taken f (map Eliminate u)) us))
      (sweep_at us ones.1 (steps ++ map Eliminate u) (taken f (map Eliminate u)) (taken-append nothing steps (map Eliminate u) ∙ ap (λ k. taken k (map Eliminate u)) is) more))
      (λ t q. sweep_at us ones.1 steps f is at) refl

  abbrev pub AreGone : Taken → List ℕ → Type 0
  AreGone f vs = AllByRecursion (λ v. has f.eliminated v ≡ true) vs

  gone_more : (f : Taken) (u vs : List ℕ) → AreGone f vs → AreGone (taken f (map Eliminate u)) vs
  gone_more f u vs h =
      all_weaker (λ v. has f.eliminated v ≡ true) (λ v. has (taken f (map Eliminate u)).eliminated v ≡ true) vs
      (λ v t. ap (λ D. has D v) (eliminated_after f u ∙ after_is u f.eliminated) ∙ has_append (reverse u) f.eliminated v ∙ or_right (has (reverse u) v) (has f.eliminated v) t) h

  gone_now : (f : Taken) (u : List ℕ) → AreGone (taken f (map Eliminate u)) u
  gone_now f u =
      all_weaker (λ v. has u v ≡ true) (λ v. has (taken f (map Eliminate u)).eliminated v ≡ true) u
      (λ v t. ap (λ D. has D v) (eliminated_after f u ∙ after_is u f.eliminated) ∙ has_append (reverse u) f.eliminated v ∙ or_left (has (reverse u) v) (has f.eliminated v) (has_reversed u v t)) (all_has_itself u)

  concat-one : (before : List (List ℕ)) (u : List ℕ) → concat (before ++ u ∷ []) ≡ concat before ++ u
  concat-one before u = concat-append before (u ∷ []) ∙ ap (λ vs. concat before ++ vs) (append_nil u)

  -- with all columns, everything is eliminated
  pub sweep_all : (before rest : List (List ℕ)) → gs ≡ before ++ rest → (steps : List Step) (f : Taken) → taken nothing steps ≡ f → AreAtGroups e gs steps →
      ((k : ℕ) → k < length e.graph.outputs → has f.added k ≡ true) → AreGone f (concat before) → AreGone (taken f (swept e f rest)) (concat gs)
  sweep_all before [] split steps f is at columns gone = subst (AreGone f) (ap concat (sym (append_nil before) ∙ sym split)) gone
  sweep_all before (u ∷ rest) split steps f is at columns gone =
      let split' = split ∙ sym (append_assoc before (u ∷ []) rest) in
      let wholes : AllByRecursion (IsWhole f.eliminated) (before ++ u ∷ rest) = subst (AllByRecursion (IsWhole f.eliminated)) split (subst (λ k. AllByRecursion (IsWhole k.eliminated) gs) is (recursion_from_All (IsWhole (taken nothing steps).eliminated) gs at.unsplit)) in
      let whole : IsWhole f.eliminated u = (all_split (IsWhole f.eliminated) before (u ∷ rest) wholes).1.0 in
      by_cases (λ t. can_all_go e f u ≡ t → AreGone (taken f (cond t (map Eliminate u ++ swept e (taken f (map Eliminate u)) rest) (swept e f rest))) (concat gs)) (can_all_go e f u)
      (λ t q.
      let f' = taken f (map Eliminate u) in
      let more = group_is_pushed e gs before rest u steps are split at (subst (λ k. AreSteps e k (map Eliminate u)) (sym is) (all_sound e f u q)) in
      subst (λ k. AreGone k (concat gs)) (sym (taken-append f (map Eliminate u) (swept e f' rest)))
      (sweep_all (before ++ u ∷ []) rest split' (steps ++ map Eliminate u) f' (taken-append nothing steps (map Eliminate u) ∙ ap (λ k. taken k (map Eliminate u)) is) more
      (λ k low. ap (λ ks. has ks k) (added_stays f u) ∙ columns k low)
      (subst (AreGone f') (sym (concat-one before u)) (all_join (λ v. has f'.eliminated v ≡ true) (concat before) u (gone_more f u (concat before) gone) (gone_now f u)))))
      (λ t q.
      let gone_u : AreGone f u = ⊎_elim (λ s. recursion_from_All (λ v. has f.eliminated v ≡ true) u s)
      (λ s. absurd (true≢false (sym (all_complete e f u (next_group_follows e gs before rest u f are split columns (All-from_recursion (λ v. has f.eliminated v ≡ true) (concat before) gone) s)) ∙ q))) whole in
      sweep_all (before ++ u ∷ []) rest split' steps f is at columns (subst (AreGone f) (sym (concat-one before u)) (all_join (λ v. has f.eliminated v ≡ true) (concat before) u gone gone_u))) refl

  -- ---- all columns

  record IsDone (steps : List Step) : Type 0 where
    at : AreAtGroups e gs steps
    columns : (k : ℕ) → k < length e.graph.outputs → has (taken nothing steps).added k ≡ true
    gates : AreGone (taken nothing steps) (concat gs)

  module _ (due : ℕ → List (List ℕ)) (among : (k : ℕ) → All (Contains gs) (due k)) where
    slices_done : (k : ℕ) (steps : List Step) (f : Taken) → taken nothing steps ≡ f → AreAtGroups e gs steps → k ≤ length e.graph.outputs → ((j : ℕ) → j < length e.graph.outputs → k ≤ j → has f.added j ≡ true) →
        ((j : ℕ) → has f.added j ≡ true → k ≤ j) → IsDone (steps ++ slices e gs due f k)
    slices_done zero steps f is at low there only =
        let end : taken nothing (steps ++ swept e f gs) ≡ taken f (swept e f gs) = taken-append nothing steps (swept e f gs) ∙ ap (λ k. taken k (swept e f gs)) is in
        record {
          at = sweep_at gs (all_ones gs [] gs refl) steps f is at;
          columns = λ j within. ap (λ k. has k.added j) end ∙ ap (λ ks. has ks j) (swept_added e f gs) ∙ there j within (omega arith);
          gates = subst (λ k. AreGone k (concat gs)) (sym end) (sweep_all [] gs refl steps f is at (λ j within. there j within (omega arith)) tt);
        }
    slices_done (suc k) steps f is at low there only =
        let one = steps ++ Add k ∷ [] in
        let f₁ = step f (Add k) in
        let is₁ : taken nothing one ≡ f₁ = taken-append nothing steps (Add k ∷ []) ∙ ap (λ h. step h (Add k)) is in
        let new : has (taken nothing steps).added k ≡ false = ⊎_elim (λ t. absurd (let le = only k (ap (λ h. has h.added k) (sym is) ∙ t) in omega arith)) (λ s. s) (cases_Bool (has (taken nothing steps).added k)) in
        let at₁ = column_is_pushed e gs steps k at (omega arith) new in
        let two = one ++ swept e f₁ (due k) in
        let f₂ = taken f₁ (swept e f₁ (due k)) in
        let is₂ : taken nothing two ≡ f₂ = taken-append nothing one (swept e f₁ (due k)) ∙ ap (λ h. taken h (swept e f₁ (due k))) is₁ in
        let at₂ = sweep_at (due k) (are_ones gs (due k) (among k)) one f₁ is₁ at₁ in
        let added₂ : f₂.added ≡ k ∷ f.added = swept_added e f₁ (due k) in
        subst IsDone (append_assoc one (swept e f₁ (due k)) (slices e gs due f₂ k) ∙ append_assoc steps (Add k ∷ []) (swept e f₁ (due k) ++ slices e gs due f₂ k))
        (slices_done k two f₂ is₂ at₂ (omega arith)
        (λ j within up. ap (λ ks. has ks j) added₂ ∙ ⊎_elim (λ s. or_left (k == j) (has f.added j) (eq-eqb k j (sym s))) (λ n. or_right (k == j) (has f.added j) (there j within (omega arith))) (cases_eq j k))
        (λ j t. ⊎_elim (λ s. let same = eqb-true k j s in omega arith) (λ s. let le = only j s in omega arith) (or_cases (k == j) (has f.added j) (ap (λ ks. has ks j) (sym added₂) ∙ t))))

    slices_columns : (k : ℕ) (f : Taken) → columns_added (slices e gs due f k) ≡ count_down k
    slices_columns zero f = swept_columns e f gs
    slices_columns (suc k) f =
        let f₁ = step f (Add k) in
        let ss = swept e f₁ (due k) in
        ap (λ ks. k ∷ ks) (columns-append ss (slices e gs due (taken f₁ ss) k) ∙ ap₂ ◌++◌ (swept_columns e f₁ (due k)) (slices_columns k (taken f₁ ss)))

pub slice_plan_serves : SlicePlanServes
slice_plan_serves e gs due are among =
    let done = slices_done e gs are due among (length e.graph.outputs) [] nothing refl (first_groups e gs) (omega arith) (λ j within up. absurd (omega arith)) (λ j t. absurd (true≢false (sym t))) in (
      groups_finish e gs (slice_steps e gs due) are done.at done.columns (All-from_recursion (λ v. has (taken nothing (slice_steps e gs due)).eliminated v ≡ true) (concat gs) done.gates),
      done.at.by_groups,
      slices_columns e gs are due among (length e.graph.outputs) nothing,
    )
