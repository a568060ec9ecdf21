-- Plans by groups: what is pushed, what can follow, and when it ends.
use Rattle.std.specs.declared.option.Option.TheVariants.{Some}
use Rattle.std.specs.Prelude.{◌≡◌, ◌≢◌, ℕ, zero, suc, ◌<◌, ◌≤◌, ◌⊎◌, Bool, true, false, ◌||◌, List, [], ◌∷◌, ◌++◌, map, length, take, reverse, slice_get, ◌==◌}
use Rattle.std.specs.List.{All, AllByRecursion, Any, concat}
use Rattle.std.proofs.Common.{refl, sym, ap, ap₂, subst, ◌∙◌, arith, inl, inr, ⊎_elim, true≢false, eqb-true, eq-eqb, ne_eqb}
use Rattle.std.proofs.lemmas.Bool.{cases_Bool, cases_lt, or_cases, or_left, or_right}
use Rattle.std.proofs.lemmas.Option.{slice_get_within}
use Rattle.std.proofs.lemmas.List.{reverse-append}
use Rattle.std.proofs.lemmas.List.Folds.{concat-append}
use Rattle.std.proofs.lemmas.List.Elements.{recursion_from_All, All-from_recursion, All-weaker}
use Rattle.graph_core.specs.declared.literal.Lit.{Lit}
use Rattle.graph_core.specs.declared.gate.Gate.{Gate}
use Rattle.graph_core.specs.Graph.Literals.{variable_of}
use Rattle.graph_core.specs.Graph.Extended.{Extended}
use Rattle.graph_core.proofs.OfGraphs.CallerLemmas.{Apart, all_join, all_split, any_here, any_there, apart_from_pairs}
use Rattle.ripple_graft.specs.Extension.{new_outputs}
use Rattle.frontier_core.specs.declared.step.Step.{Step}
use Rattle.frontier_core.specs.declared.step.Step.TheVariants.{Add, Eliminate}
use Rattle.frontier_core.specs.Sets.{has}
use Rattle.frontier_core.specs.Plan.{Taken, nothing, step, taken, AreSteps}
use Rattle.frontier_core.proofs.PlainOrders.{length-outputs_from}
use Rattle.frontier_core.proofs.Plans.{step_is_pushed}
use Rattle.frontier_core.proofs.Everywhere.{all_has}
use Rattle.slice_planner.specs.Groups.{IsWhole, AreByGroups, GoesByGroups}
use Rattle.slice_planner.specs.GroupPlans.{AreReadersFirst, FirstGroups, ColumnIsPushed, GroupIsPushed, NextGroupFollows, GroupsFinish}
use Rattle.slice_planner.proofs.Composition.{has_append}

none_eliminated : (us : List ℕ) → AllByRecursion (λ v. has [] v ≡ false) us
none_eliminated [] = tt
none_eliminated (v ∷ us) = (refl, none_eliminated us)

none_whole : (gs : List (List ℕ)) → AllByRecursion (IsWhole []) gs
none_whole [] = tt
none_whole (u ∷ gs) = (inr (All-from_recursion (λ v. has [] v ≡ false) u (none_eliminated u)), none_whole gs)

pub take_nothing : (t : ℕ) → take {A = Step} t [] ≡ []
take_nothing zero = refl
take_nothing (suc t) = refl

pub first_groups : FirstGroups
first_groups e gs =
    let whole = All-from_recursion (IsWhole []) gs (none_whole gs) in
    record {
      follow = tt;
      unsplit = whole;
      by_groups = λ t. subst (λ ss. AreByGroups gs (taken nothing ss).eliminated) (sym (take_nothing t)) (record { part = []; whole = []; both = refl; unsplit = whole; one = inl refl });
    }

-- ---- steps after steps

pub taken-append : (f : Taken) (xs ys : List Step) → taken f (xs ++ ys) ≡ taken (taken f xs) ys
taken-append f [] ys = refl
taken-append f (x ∷ xs) ys = taken-append (step f x) xs ys

steps-append : (e : Extended) (f : Taken) (xs ys : List Step) → AreSteps e f xs → AreSteps e (taken f xs) ys → AreSteps e f (xs ++ ys)
steps-append e f [] ys h k = k
steps-append e f (x ∷ xs) ys h k = (h.0, steps-append e (step f x) xs ys h.1 k)

take-front : (xs ys : List Step) (t : ℕ) → t ≤ length xs → take t (xs ++ ys) ≡ take t xs
take-front xs ys zero h = refl
take-front [] ys (suc t) h = absurd (omega arith)
take-front (x ∷ xs) ys (suc t) h = ap (λ zs. x ∷ zs) (take-front xs ys t (omega arith))

take-behind : (xs ys : List Step) (t : ℕ) → length xs ≤ t → (j : ℕ) × (take t (xs ++ ys) ≡ xs ++ take j ys)
take-behind [] ys t h = (t, refl)
take-behind (x ∷ xs) ys zero h = absurd (omega arith)
take-behind (x ∷ xs) ys (suc t) h = let rest = take-behind xs ys t (omega arith) in (rest.0, ap (λ zs. x ∷ zs) rest.1)

-- what goes by groups up to some steps, and after them
goes-append : (gs : List (List ℕ)) (xs ys : List Step) → GoesByGroups gs xs → ((j : ℕ) → AreByGroups gs (taken (taken nothing xs) (take j ys)).eliminated) → GoesByGroups gs (xs ++ ys)
goes-append gs xs ys h k t =
    ⊎_elim (λ lt. subst (λ ss. AreByGroups gs (taken nothing ss).eliminated) (sym (take-front xs ys t (omega arith))) (h t))
    (λ ge.
    let is = take-behind xs ys t ge in
    subst (λ ss. AreByGroups gs (taken nothing ss).eliminated) (sym is.1) (subst (λ f. AreByGroups gs f.eliminated) (sym (taken-append nothing xs (take is.0 ys))) (k is.0)))
    (cases_lt t (length xs))

pub column_is_pushed : ColumnIsPushed
column_is_pushed e gs steps k h low new =
    let pushed = step_is_pushed e nothing steps (Add k) in
    record {
      follow = pushed.1 h.follow (low, new);
      unsplit = subst (λ f. All (IsWhole f.eliminated) gs) (sym pushed.0) h.unsplit;
      by_groups = goes-append gs steps (Add k ∷ []) h.by_groups (λ j. here j);
    }
  where
    here : (j : ℕ) → AreByGroups gs (taken (taken nothing steps) (take j (Add k ∷ []))).eliminated
    here zero = record { part = []; whole = (taken nothing steps).eliminated; both = refl; unsplit = h.unsplit; one = inl refl }
    here (suc j) = subst (λ ss. AreByGroups gs (taken (taken nothing steps) (Add k ∷ ss)).eliminated) (sym (take_nothing j))
        (record { part = []; whole = (taken nothing steps).eliminated; both = refl; unsplit = h.unsplit; one = inl refl })

-- ---- one group

-- the gates of a list eliminated one after the other
abbrev pub after : List ℕ → List ℕ → List ℕ
after [] E = E
after (v ∷ vs) E = after vs (v ∷ E)

pub eliminated_after : (f : Taken) (vs : List ℕ) → (taken f (map Eliminate vs)).eliminated ≡ after vs f.eliminated
eliminated_after f [] = refl
eliminated_after f (v ∷ vs) = eliminated_after (step f (Eliminate v)) vs

pub after_is : (vs E : List ℕ) → after vs E ≡ reverse vs ++ E
after_is [] E = refl
after_is (v ∷ vs) E = after_is vs (v ∷ E) ∙ sym (ap (λ us. us ++ E) (reverse-append (v ∷ []) vs) ∙ assoc (reverse vs) (v ∷ []) E)
  where
    assoc : (xs ys zs : List ℕ) → (xs ++ ys) ++ zs ≡ xs ++ (ys ++ zs)
    assoc [] ys zs = refl
    assoc (x ∷ xs) ys zs = ap (λ ws. x ∷ ws) (assoc xs ys zs)

take_map : (j : ℕ) (vs : List ℕ) → take j (map Eliminate vs) ≡ map Eliminate (take j vs)
take_map zero vs = refl
take_map (suc j) [] = refl
take_map (suc j) (v ∷ vs) = ap (λ ss. Eliminate v ∷ ss) (take_map j vs)

pub has_itself : (us vs : List ℕ) → AllByRecursion (λ v. has (us ++ vs) v ≡ true) vs
has_itself us [] = tt
has_itself us (v ∷ vs) = (has_append us (v ∷ vs) v ∙ or_right (has us v) (has (v ∷ vs) v) (or_left (v == v) (has vs v) (eq-eqb v v refl)), subst (λ ws. AllByRecursion (λ w. has ws w ≡ true) vs) (assoc us (v ∷ []) vs) (has_itself (us ++ v ∷ []) vs))
  where
    assoc : (xs ys zs : List ℕ) → (xs ++ ys) ++ zs ≡ xs ++ (ys ++ zs)
    assoc [] ys zs = refl
    assoc (x ∷ xs) ys zs = ap (λ ws. x ∷ ws) (assoc xs ys zs)

pub all_has_itself : (vs : List ℕ) → AllByRecursion (λ v. has vs v ≡ true) vs
all_has_itself vs = has_itself [] vs

pub all_take : (P : ℕ → Type 0) (j : ℕ) (vs : List ℕ) → AllByRecursion P vs → AllByRecursion P (take j vs)
all_take P zero vs h = tt
all_take P (suc j) [] h = tt
all_take P (suc j) (v ∷ vs) h = (h.0, all_take P j vs h.1)

pub all_reversed : (P : ℕ → Type 0) (vs : List ℕ) → AllByRecursion P vs → AllByRecursion P (reverse vs)
all_reversed P [] h = tt
all_reversed P (v ∷ vs) h = subst (AllByRecursion P) (sym (reverse-append (v ∷ []) vs)) (all_join P (reverse vs) (v ∷ []) (all_reversed P vs h.1) (h.0, tt))

any_middle : (P : List ℕ → Type 0) (before after' : List (List ℕ)) (u : List ℕ) → P u → Any P (before ++ u ∷ after')
any_middle P [] after' u h = any_here P u after' h
any_middle P (x ∷ before) after' u h = any_there P x (before ++ u ∷ after') (any_middle P before after' u h)

-- numbers apart from all of a list are not in it
pub apart_not : (v : ℕ) (us : List ℕ) → AllByRecursion (λ w. v ≢ w) us → has us v ≡ false
apart_not v [] h = refl
apart_not v (w ∷ us) h = ap₂ ◌||◌ (ne_eqb w v (λ e. h.0 (sym e))) (apart_not v us h.1)

apart_left : (xs ys : List ℕ) → Apart (xs ++ ys) → Apart xs
apart_left [] ys h = tt
apart_left (x ∷ xs) ys h = ((all_split (λ w. x ≢ w) xs ys h.0).0, apart_left xs ys h.1)

apart_right : (xs ys : List ℕ) → Apart (xs ++ ys) → Apart ys
apart_right [] ys h = h
apart_right (x ∷ xs) ys h = apart_right xs ys h.1

-- and the other way round
apart_second : (xs ys : List ℕ) → Apart (xs ++ ys) → AllByRecursion (λ y. has xs y ≡ false) ys
apart_second [] ys h = none ys
  where
    none : (zs : List ℕ) → AllByRecursion (λ y. has [] y ≡ false) zs
    none [] = tt
    none (z ∷ zs) = (refl, none zs)
apart_second (x ∷ xs) ys h = both ys (all_split (λ w. x ≢ w) xs ys h.0).1 (apart_second xs ys h.1)
  where
    both : (zs : List ℕ) → AllByRecursion (λ w. x ≢ w) zs → AllByRecursion (λ y. has xs y ≡ false) zs → AllByRecursion (λ y. has (x ∷ xs) y ≡ false) zs
    both [] a b = tt
    both (z ∷ zs) a b = (ap₂ ◌||◌ (ne_eqb x z a.0) b.0, both zs a.1 b.1)

-- groups that have none of the group's gates are whole after it, too
still_whole : (u E : List ℕ) (gs : List (List ℕ)) → AllByRecursion (IsWhole E) gs → AllByRecursion (λ v. has u v ≡ false) (concat gs) → AllByRecursion (IsWhole (reverse u ++ E)) gs
still_whole u E [] h k = tt
still_whole u E (x ∷ gs) h k =
    let parts = all_split (λ v. has u v ≡ false) x (concat gs) k in (
      ⊎_elim (λ t. inl (All-from_recursion (λ v. has (reverse u ++ E) v ≡ true) x (same true x (recursion_from_All (λ v. has E v ≡ true) x t) parts.0)))
          (λ t. inr (All-from_recursion (λ v. has (reverse u ++ E) v ≡ false) x (same false x (recursion_from_All (λ v. has E v ≡ false) x t) parts.0))) h.0,
      still_whole u E gs h.1 parts.1,
    )
  where
    not_reversed : (v : ℕ) → has u v ≡ false → has (reverse u) v ≡ false
    not_reversed v k = ⊎_elim (λ t. absurd (true≢false (sym (all_has (λ w. has u w ≡ true) (reverse u) v (all_reversed (λ w. has u w ≡ true) u (all_has_itself u)) t) ∙ k))) (λ s. s) (cases_Bool (has (reverse u) v))

    same : (b : Bool) (ws : List ℕ) → AllByRecursion (λ v. has E v ≡ b) ws → AllByRecursion (λ v. has u v ≡ false) ws → AllByRecursion (λ v. has (reverse u ++ E) v ≡ b) ws
    same b [] p q = tt
    same b (w ∷ ws) p q = (has_append (reverse u) E w ∙ ap (λ a. a || has E w) (not_reversed w q.0) ∙ p.0, same b ws p.1 q.1)

pub has_reversed : (us : List ℕ) (v : ℕ) → has us v ≡ true → has (reverse us) v ≡ true
has_reversed us v t = all_has (λ w. has (reverse us) w ≡ true) us v (every us) t
  where
    every : (vs : List ℕ) → AllByRecursion (λ w. has (reverse vs) w ≡ true) vs
    every [] = tt
    every (w ∷ vs) = subst (λ ws. AllByRecursion (λ x. has ws x ≡ true) (w ∷ vs)) (sym (reverse-append (w ∷ []) vs))
        (has_append (reverse vs) (w ∷ []) w ∙ or_right (has (reverse vs) w) (has (w ∷ []) w) (or_left (w == w) false (eq-eqb w w refl)), more vs (every vs))
      where
        more : (xs : List ℕ) → AllByRecursion (λ x. has (reverse vs) x ≡ true) xs → AllByRecursion (λ x. has (reverse vs ++ w ∷ []) x ≡ true) xs
        more [] h = tt
        more (x ∷ xs) h = (has_append (reverse vs) (w ∷ []) x ∙ or_left (has (reverse vs) x) (has (w ∷ []) x) h.0, more xs h.1)

pub group_is_pushed : GroupIsPushed
group_is_pushed e gs before later u steps are split h can =
    let f = taken nothing steps in
    let E = f.eliminated in
    let apart : Apart (concat before ++ (u ++ concat later)) = subst Apart (ap concat split ∙ concat-append before (u ∷ later)) (apart_from_pairs (concat gs) are.once) in
    let whole : AllByRecursion (IsWhole E) (before ++ u ∷ later) = subst (AllByRecursion (IsWhole E)) split (recursion_from_All (IsWhole E) gs h.unsplit) in
    let parts = all_split (IsWhole E) before (u ∷ later) whole in
    let here : IsWhole (reverse u ++ E) u = inl (All-from_recursion (λ v. has (reverse u ++ E) v ≡ true) u (all_of u (λ v t. has_append (reverse u) E v ∙ or_left (has (reverse u) v) (has E v) (has_reversed u v t)))) in
    let low = still_whole u E before parts.0 (first_apart (concat before) u (concat later) apart) in
    let high = still_whole u E later parts.1.1 (apart_second u (concat later) (apart_right (concat before) (u ++ concat later) apart)) in
    let end : (taken nothing (steps ++ map Eliminate u)).eliminated ≡ reverse u ++ E = ap (λ k. k.eliminated) (taken-append nothing steps (map Eliminate u)) ∙ eliminated_after f u ∙ after_is u E in
    record {
      follow = steps-append e nothing steps (map Eliminate u) h.follow can;
      unsplit = subst (λ D. All (IsWhole D) gs) (sym end) (All-from_recursion (IsWhole (reverse u ++ E)) gs (subst (AllByRecursion (IsWhole (reverse u ++ E))) (sym split) (all_join (IsWhole (reverse u ++ E)) before (u ∷ later) low (here, high))));
      by_groups = goes-append gs steps (map Eliminate u) h.by_groups
          (λ j.
          subst (AreByGroups gs) (sym (ap (λ ss. (taken f ss).eliminated) (take_map j u) ∙ eliminated_after f (take j u) ∙ after_is (take j u) E))
          (record {
            part = reverse (take j u);
            whole = E;
            both = refl;
            unsplit = h.unsplit;
            one = inr (subst (Any (λ group. All (λ v. has group v ≡ true) (reverse (take j u)))) (sym split) (any_middle (λ group. All (λ v. has group v ≡ true) (reverse (take j u))) before later u
                (All-from_recursion (λ v. has u v ≡ true) (reverse (take j u)) (all_reversed (λ v. has u v ≡ true) (take j u) (all_take (λ v. has u v ≡ true) j u (all_has_itself u))))));
          }));
    }
  where
    all_of : (vs : List ℕ) → ((v : ℕ) → has u v ≡ true → has (reverse u ++ (taken nothing steps).eliminated) v ≡ true) → AllByRecursion (λ v. has (reverse u ++ (taken nothing steps).eliminated) v ≡ true) u
    all_of vs k = each u (all_has_itself u)
      where
        each : (ws : List ℕ) → AllByRecursion (λ v. has u v ≡ true) ws → AllByRecursion (λ v. has (reverse u ++ (taken nothing steps).eliminated) v ≡ true) ws
        each [] p = tt
        each (w ∷ ws) p = (k w p.0, each ws p.1)

    first_apart : (xs ys zs : List ℕ) → Apart (xs ++ (ys ++ zs)) → AllByRecursion (λ x. has ys x ≡ false) xs
    first_apart [] ys zs a = tt
    first_apart (x ∷ xs) ys zs a = (apart_not x ys (all_split (λ w. x ≢ w) ys zs (all_split (λ w. x ≢ w) xs (ys ++ zs) a.0).1).0, first_apart xs ys zs a.1)

-- ---- what can follow

pub columns_added : (e : Extended) (f : Taken) → ((k : ℕ) → k < length e.graph.outputs → has f.added k ≡ true) → (k : ℕ) (l : Lit) → slice_get (new_outputs e) k ≡ Some l → has f.added k ≡ true
columns_added e f h k l is = h k (omega (arith, slice_get_within (new_outputs e) k l is, length-outputs_from e.replaced 0 e.graph.outputs))

-- a group whose readers were eliminated can be, gate by gate
gates_follow : (e : Extended) (vs rest seen : List ℕ) (f : Taken) → ((w : ℕ) → has seen w ≡ true → has f.eliminated w ≡ true) → AreReadersFirst e.gates seen (vs ++ rest) →
    AllByRecursion (λ v. has (map (λ x. x.v) e.gates) v ≡ true) vs → AllByRecursion (λ v. has f.eliminated v ≡ false) vs → Apart vs → ((k : ℕ) → k < length e.graph.outputs → has f.added k ≡ true) →
    AreSteps e f (map Eliminate vs)
gates_follow e [] rest seen f sub order gates new apart columns = tt
gates_follow e (v ∷ vs) rest seen f sub order gates new apart columns = (
  record {
    gate = gates.0;
    new = new.0;
    readers = All-weaker (λ x. (variable_of x.left ≡ v) ⊎ (variable_of x.right ≡ v) → has seen x.v ≡ true) (λ x. (variable_of x.left ≡ v) ⊎ (variable_of x.right ≡ v) → has f.eliminated x.v ≡ true) (λ x k reads. sub x.v (k reads)) e.gates order.0;
    outputs = λ k l is reads. columns_added e f columns k l is;
  },
  gates_follow e vs rest (v ∷ seen) (step f (Eliminate v))
      (λ w t. ⊎_elim (λ s. or_left (v == w) (has f.eliminated w) s) (λ s. or_right (v == w) (has f.eliminated w) (sub w s)) (or_cases (v == w) (has seen w) t)) order.1 gates.1 (others vs apart.0 new.1) apart.1 columns,
)
  where
    others : (ws : List ℕ) → AllByRecursion (λ w. v ≢ w) ws → AllByRecursion (λ w. has f.eliminated w ≡ false) ws → AllByRecursion (λ w. has (v ∷ f.eliminated) w ≡ false) ws
    others [] a b = tt
    others (w ∷ ws) a b = (ap₂ ◌||◌ (ne_eqb v w a.0) b.0, others ws a.1 b.1)

record IsSeen (gates : List Gate) (E rest : List ℕ) : Type 0 where
  seen : List ℕ
  sub : (w : ℕ) → has seen w ≡ true → has E w ≡ true
  order : AreReadersFirst gates seen rest

skipped : (gates : List Gate) (E xs rest seen : List ℕ) → ((w : ℕ) → has seen w ≡ true → has E w ≡ true) → AllByRecursion (λ v. has E v ≡ true) xs → AreReadersFirst gates seen (xs ++ rest) → IsSeen gates E rest
skipped gates E [] rest seen sub all order = record { seen = seen; sub = sub; order = order }
skipped gates E (x ∷ xs) rest seen sub all order =
    skipped gates E xs rest (x ∷ seen) (λ w t. ⊎_elim (λ s. subst (λ k. has E k ≡ true) (eqb-true x w s) all.0) (λ s. sub w s) (or_cases (x == w) (has seen w) t)) all.1 order.1

pub next_group_follows : NextGroupFollows
next_group_follows e gs before later u f are split columns done left =
    let whole : concat gs ≡ concat before ++ (u ++ concat later) = ap concat split ∙ concat-append before (u ∷ later) in
    let order : AreReadersFirst e.gates [] (concat before ++ (u ++ concat later)) = subst (AreReadersFirst e.gates []) whole are.order in
    let seen = skipped e.gates f.eliminated (concat before) (u ++ concat later) [] (λ w t. absurd (true≢false (sym t))) (recursion_from_All (λ v. has f.eliminated v ≡ true) (concat before) done) order in
    let gates : AllByRecursion (λ v. has (map (λ x. x.v) e.gates) v ≡ true) (concat before ++ (u ++ concat later)) =
    subst (AllByRecursion (λ v. has (map (λ x. x.v) e.gates) v ≡ true)) whole (recursion_from_All (λ v. has (map (λ x. x.v) e.gates) v ≡ true) (concat gs) are.gates) in
    let mine = (all_split (λ v. has (map (λ x. x.v) e.gates) v ≡ true) u (concat later) (all_split (λ v. has (map (λ x. x.v) e.gates) v ≡ true) (concat before) (u ++ concat later) gates).1).0 in
    let apart = apart_left u (concat later) (apart_right (concat before) (u ++ concat later) (subst Apart whole (apart_from_pairs (concat gs) are.once))) in
    gates_follow e u (concat later) seen.seen f seen.sub seen.order mine (recursion_from_All (λ v. has f.eliminated v ≡ false) u left) apart columns

pub groups_finish : GroupsFinish
groups_finish e gs steps are h columns done = record {
  follow = h.follow;
  last = record {
    all_columns = columns;
    all_gates = All-weaker (λ x. has (concat gs) x.v ≡ true) (λ x. has (taken nothing steps).eliminated x.v ≡ true)
        (λ x t. all_has (λ v. has (taken nothing steps).eliminated v ≡ true) (concat gs) x.v (recursion_from_All (λ v. has (taken nothing steps).eliminated v ≡ true) (concat gs) done) t) e.gates are.all;
  };
}
