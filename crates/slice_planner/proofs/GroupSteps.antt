-- Whether the gates of a group can go one after the other, and what goes with them.
use Rattle.std.specs.Prelude.{◌≡◌, ◌≢◌, ℕ, zero, suc, ◌+◌, ◌-◌, ◌*◌, ◌<◌, ◌≤◌, ◌⊎◌, Bool, true, false, cond, ◌||◌, List, [], ◌∷◌, ◌++◌, map, length, take, drop, slice_get, slice_index_or, ◌==◌, IfSome, is_some, IfOk, OnOk, reverse}
use Rattle.std.specs.declared.result.Result.{Result}
use Rattle.std.specs.declared.result.Result.TheVariants.{Ok, Err}
use Rattle.std.specs.declared.option.Option.{Option}
use Rattle.std.specs.declared.option.Option.TheVariants.{None, Some}
use Rattle.std.specs.List.{All, AllByRecursion, Contains, between, concat}
use Rattle.std.proofs.Common.{refl, sym, ap, subst, ◌∙◌, arith, inl, inr, ⊎_elim, eqb-true, eq-eqb, true≢false, append_assoc}
use Rattle.std.proofs.lemmas.Bool.{cases_Bool, cases_lt, or_left, or_right}
use Rattle.std.proofs.lemmas.List.Elements.{recursion_from_All, All-contains_itself, All-from_recursion}
use Rattle.std.proofs.lemmas.List.{reverse-append}
use Rattle.graph_core.specs.declared.gate.Gate.{Gate}
use Rattle.graph_core.specs.declared.literal.Lit.{Lit}
use Rattle.graph_core.specs.Graph.{IsGateOf}
use Rattle.graph_core.specs.Graph.Literals.{variable_of}
use Rattle.graph_core.specs.Graph.Extended.{Extended}
use Rattle.graph_core.proofs.OfGraphs.CallerLemmas.{all_join, by_cases}
use Rattle.ripple_graft.specs.Extension.{IsExtension, new_outputs}
use Rattle.frontier_core.specs.declared.step.Step.{Step}
use Rattle.frontier_core.specs.declared.step.Step.TheVariants.{Eliminate}
use Rattle.frontier_core.specs.Plan.{AreSteps, CanEliminate, Taken, nothing, step, taken}
use Rattle.frontier_core.specs.Sets.{has}
use Rattle.frontier_core.proofs.OrderMade.{gates_of_defined}
use Rattle.frontier_core.proofs.PlainOrders.{pairs_recursion}
use Rattle.slice_planner.specs.SlicePlan.{can_all_go, swept}
use Rattle.slice_planner.proofs.GroupPlans.{taken-append}
use Rattle.slice_planner.specs.GroupPlans.{AreAtGroups, AreGroups}
use Rattle.frontier_core.proofs.Everywhere.{all_has}
use Rattle.slice_planner.proofs.SlicePlans.{added_stays, all_complete, all_ones, all_sound, split_at, sweep_all, sweep_at}
use Rattle.slice_planner.specs.declared.arrangement.Part.{Part}
use Rattle.slice_planner.specs.Arranged.{pieces, variables}
use Rattle.slice_planner.specs.Taking.{IsReadyGate, IsTaking, StaysAtGroups, Took, is_one, read_by_columns, read_by_gates, took}
use Rattle.slice_planner.proofs.ReadCounts.{gates_few, gates_less, gates_more}
use Rattle.slice_planner.proofs.TakenSteps.{gate_can_go, gates_have}

-- ---- what is no longer read

-- Where the gates that read a variable were eliminated, nothing is left that reads it.
gates_zero : (gates : List Gate) (us : List ℕ) (v : ℕ) → AllByRecursion (λ x. (variable_of x.left ≡ v) ⊎ (variable_of x.right ≡ v) → has us x.v ≡ true) gates → read_by_gates gates us v ≡ 0
gates_zero [] us v h = refl
gates_zero (x ∷ gates) us v h = at (has us x.v) refl (variable_of x.left == v) refl (variable_of x.right == v) refl (gates_zero gates us v h.1)
  where
    at : (b : Bool) → has us x.v ≡ b → (l : Bool) → (variable_of x.left == v) ≡ l → (r : Bool) → (variable_of x.right == v) ≡ r → read_by_gates gates us v ≡ 0 → cond b 0 (cond l 1 0 + cond r 1 0) + read_by_gates gates us v ≡ 0
    at true gone l le r re rest = omega arith
    at false left true le r re rest = absurd (true≢false (sym (h.0 (inl (eqb-true (variable_of x.left) v le))) ∙ left))
    at false left false le true re rest = absurd (true≢false (sym (h.0 (inr (eqb-true (variable_of x.right) v re))) ∙ left))
    at false left false le false re rest = omega arith

-- Where the columns whose output is a variable's come later, none of the first reads it.
columns_unread : (ls : List Lit) (below v : ℕ) → ((k : ℕ) (l : Lit) → slice_get ls k ≡ Some l → variable_of l ≡ v → below ≤ k) → read_by_columns ls below v ≡ 0
columns_unread [] below v h = refl
columns_unread (x ∷ ls) zero v h = refl
columns_unread (x ∷ ls) (suc below) v h = at (variable_of x == v) refl (columns_unread ls below v (λ k l is e. let later = h (suc k) l is e in omega arith))
  where
    at : (b : Bool) → (variable_of x == v) ≡ b → read_by_columns ls below v ≡ 0 → cond b 1 0 + read_by_columns ls below v ≡ 0
    at true e rest = let later = h 0 x refl (eqb-true (variable_of x) v e) in absurd (omega arith)
    at false e rest = omega arith

-- ---- after other gates

or_moved : (a b c : Bool) → (a || (b || c)) ≡ ((b || a) || c)
or_moved true true c = refl
or_moved true false c = refl
or_moved false true c = refl
or_moved false false c = refl

pub has_behind : (f : Taken) (us : List ℕ) (v : ℕ) → has (taken f (map Eliminate us)).eliminated v ≡ (has us v || has f.eliminated v)
has_behind f [] v = refl
has_behind f (u ∷ us) v = has_behind (step f (Eliminate u)) us v ∙ or_moved (has us v) (u == v) (has f.eliminated v)

-- what gates read is read by none of the others
reads_behind : (e : Extended) (made : IsExtension e) (f : Taken) (front : List Gate) (v : ℕ) → AllByRecursion (Contains e.gates) front → AreSteps e f (map Eliminate (variables front)) →
    read_by_gates e.gates f.eliminated v ≡ read_by_gates front [] v + read_by_gates e.gates (taken f (map Eliminate (variables front))).eliminated v
reads_behind e made f [] v there can = omega arith
reads_behind e made f (x ∷ front) v there can =
    let less = gates_less e.gates f.eliminated x v there.0.0 x (pairs_recursion ◌≢◌ (map (λ y. y.v) e.gates) (gates_of_defined e made)) there.0.1 there.0.2 can.0.new in
    let rest = reads_behind e made (step f (Eliminate x.v)) front v there.1 can.1 in
    omega arith

module _ (e : Extended) (steps : List Step) (below : ℕ) (gone : List Bool) (readers : List ℕ) (t : IsTaking (took e steps below) gone readers) (made : IsExtension e) where
  abbrev f : Taken
  f = taken nothing steps

  -- what still reads a variable of a gate that can go
  unread : (g : Taken) (v : ℕ) → g.added ≡ f.added → CanEliminate e g v → read_by_gates e.gates g.eliminated v + read_by_columns (new_outputs e) below v ≡ 0
  unread g v same can =
      let gates = gates_zero e.gates g.eliminated v (recursion_from_All (λ x. (variable_of x.left ≡ v) ⊎ (variable_of x.right ≡ v) → has g.eliminated x.v ≡ true) e.gates can.readers) in
      let columns = columns_unread (new_outputs e) below v (λ k l is e. later k (ap (λ ks. has ks k) (sym same) ∙ can.outputs k l is e)) in
      omega arith
    where
      later : (k : ℕ) → has f.added k ≡ true → below ≤ k
      later k there = ⊎_elim (λ lt. absurd (true≢false (sym there ∙ t.ahead k lt))) (λ le. le) (cases_lt k below)

  pub is_ready : (v : ℕ) → CanEliminate e f v → IsReadyGate (took e steps below) v
  is_ready v can = (can.new, unread f v refl can)

  module _ (front : List Gate) (there : All (Contains e.gates) front) (can : AreSteps e f (map Eliminate (variables front))) where
    abbrev behind : Taken
    behind = taken f (map Eliminate (variables front))

    reads : (v : ℕ) → slice_index_or readers v 0 ≡ read_by_gates front [] v + (read_by_gates e.gates behind.eliminated v + read_by_columns (new_outputs e) below v)
    reads v =
        let all = t.reads v in
        let split = reads_behind e made f front v (recursion_from_All (Contains e.gates) front there) can in
        omega arith

    pub goes_behind : (x : Gate) → Contains e.gates x → has behind.eliminated x.v ≡ false → slice_index_or readers x.v 0 ≡ read_by_gates front [] x.v → CanEliminate e behind x.v
    goes_behind x in_gates new count =
        let read = reads x.v in
        gate_can_go e steps below gone readers t behind (added_stays f (variables front)) x in_gates new (omega arith)

    pub unread_behind : (x : Gate) → CanEliminate e behind x.v → slice_index_or readers x.v 0 ≡ read_by_gates front [] x.v
    unread_behind x can_go =
        let read = reads x.v in
        let none = unread behind x.v (added_stays f (variables front)) can_go in
        omega arith

-- ---- the gates of a group

-- one more gate of a group
pub steps_more : (e : Extended) (f : Taken) (group : List Gate) (i : ℕ) (d : Gate) → i < length group → AreSteps e f (map Eliminate (variables (take i group))) →
    CanEliminate e (taken f (map Eliminate (variables (take i group)))) (slice_index_or group i d).v → AreSteps e f (map Eliminate (variables (take (i + 1) group)))
steps_more e f [] i d low can go = absurd (omega arith)
steps_more e f (x ∷ group) zero d low can go = (go, tt)
steps_more e f (x ∷ group) (suc i) d low can go =
    let up : suc i + 1 ≡ suc (i + 1) = omega arith in
    subst (λ n. AreSteps e f (map Eliminate (variables (take n (x ∷ group))))) (sym up) (can.0, steps_more e (step f (Eliminate x.v)) group i d (omega arith) can.1 go)

-- a gate of a group that can go
pub steps_at : (e : Extended) (f : Taken) (group : List Gate) (i : ℕ) (d : Gate) → i < length group → AreSteps e f (map Eliminate (variables group)) →
    CanEliminate e (taken f (map Eliminate (variables (take i group)))) (slice_index_or group i d).v
steps_at e f [] i d low can = absurd (omega arith)
steps_at e f (x ∷ group) zero d low can = can.0
steps_at e f (x ∷ group) (suc i) d low can = steps_at e (step f (Eliminate x.v)) group i d (omega arith) can.1

-- the steps of one more gate
pub pushed_more : (before now next : List Step) (group : List Gate) (i : ℕ) (d : Gate) → i < length group → now ≡ before ++ map Eliminate (variables (take i group)) → next ≡ now ++ Eliminate (slice_index_or group i d).v ∷ [] →
    next ≡ before ++ map Eliminate (variables (take (i + 1) group))
pushed_more before now next group i d low so_far is =
    is ∙ ap (λ ss. ss ++ Eliminate (slice_index_or group i d).v ∷ []) so_far ∙ append_assoc before (map Eliminate (variables (take i group))) (Eliminate (slice_index_or group i d).v ∷ []) ∙ ap (λ ss. before ++ ss) (more group i low)
  where
    more : (xs : List Gate) (i : ℕ) → i < length xs → map Eliminate (variables (take i xs)) ++ Eliminate (slice_index_or xs i d).v ∷ [] ≡ map Eliminate (variables (take (i + 1) xs))
    more [] i low = absurd (omega arith)
    more (x ∷ xs) zero low = refl
    more (x ∷ xs) (suc i) low =
        let up : suc i + 1 ≡ suc (i + 1) = omega arith in
        ap (λ ss. Eliminate x.v ∷ ss) (more xs i (omega arith)) ∙ ap (λ n. map Eliminate (variables (take n (x ∷ xs)))) (sym up)

pub variables_have : (gates : List Gate) (i v : ℕ) (d : Gate) → i < length gates → (slice_index_or gates i d).v ≡ v → has (variables gates) v ≡ true
variables_have [] i v d low is = absurd (omega arith)
variables_have (x ∷ gates) zero v d low is = or_left (x.v == v) (has (variables gates) v) (eq-eqb x.v v is)
variables_have (x ∷ gates) (suc i) v d low is = or_right (x.v == v) (has (variables gates) v) (variables_have gates i v d (omega arith) is)

-- ---- sweeps

append_nil : {X : Type 0} (xs : List X) → xs ++ [] ≡ xs
append_nil [] = refl
append_nil (x ∷ xs) = ap (λ ys. x ∷ ys) (append_nil xs)

pub swept_yes : (e : Extended) (f : Taken) (group : List ℕ) → AreSteps e f (map Eliminate group) → swept e f (group ∷ []) ≡ map Eliminate group
swept_yes e f group can = ap (λ b. cond b (map Eliminate group ++ []) []) (all_complete e f group can) ∙ append_nil (map Eliminate group)

pub swept_no : (e : Extended) (f : Taken) (group : List ℕ) → ¬ (AreSteps e f (map Eliminate group)) → swept e f (group ∷ []) ≡ []
swept_no e f group cannot = ap (λ b. cond b (map Eliminate group ++ []) []) (⊎_elim (λ yes. absurd (cannot (all_sound e f group yes))) (λ no. no) (cases_Bool (can_all_go e f group)))

-- one group and the others
swept_next : (e : Extended) (f : Taken) (group : List ℕ) (gs : List (List ℕ)) → swept e f (group ∷ gs) ≡ swept e f (group ∷ []) ++ swept e (taken f (swept e f (group ∷ []))) gs
swept_next e f group gs =
    by_cases (λ t. cond t (map Eliminate group ++ swept e (taken f (map Eliminate group)) gs) (swept e f gs) ≡ cond t (map Eliminate group ++ []) [] ++ swept e (taken f (cond t (map Eliminate group ++ []) [])) gs) (can_all_go e f group)
    (λ t. ap (λ ss. ss ++ swept e (taken f ss) gs) (sym (append_nil (map Eliminate group)))) (λ t. refl)

pub sweep_turn : (e : Extended) (before now : List Step) (group : List ℕ) (rest all : List (List ℕ)) → now ≡ before ++ swept e (taken nothing before) (group ∷ []) → all ≡ group ∷ rest →
    now ++ swept e (taken nothing now) rest ≡ before ++ swept e (taken nothing before) all
sweep_turn e before now group rest all is split =
    let f = taken nothing before in
    let one = swept e f (group ∷ []) in
    ap (λ ss. ss ++ swept e (taken nothing ss) rest) is ∙ ap (λ g. (before ++ one) ++ swept e g rest) (taken-append nothing before one) ∙ append_assoc before one (swept e (taken f one) rest) ∙
    ap (λ ss. before ++ ss) (sym (swept_next e f group rest)) ∙ ap (λ gs. before ++ swept e f gs) (sym split)

pub dropped : {X Y : Type 0} (f : X → Y) (xs : List X) (k : ℕ) (x : X) → slice_get xs k ≡ Some x → drop k (map f xs) ≡ f x ∷ drop (k + 1) (map f xs)
dropped f [] k x is = absurd (cc)
dropped f (y ∷ xs) zero x is = ap (λ z. f z ∷ map f xs) (same is)
  where
    same : Some y ≡ Some x → y ≡ x
    same h = cc
dropped f (y ∷ xs) (suc k) x is =
    let up : suc k + 1 ≡ suc (k + 1) = omega arith in
    dropped f xs k x is ∙ ap (λ n. f x ∷ drop n (f y ∷ map f xs)) (sym up)

-- ---- what the calls find

pub any_default : {X : Type 0} (xs : List X) (n : ℕ) (a b : X) → n < length xs → slice_index_or xs n a ≡ slice_index_or xs n b
any_default [] n a b low = absurd (omega arith)
any_default (x ∷ xs) zero a b low = refl
any_default (x ∷ xs) (suc n) a b low = any_default xs n a b (omega arith)

module _ (e : Extended) (steps : List Step) (below : ℕ) (gone : List Bool) (readers : List ℕ) (t : IsTaking (took e steps below) gone readers) (made : IsExtension e) where
  -- whether a gate can go after others
  pub goes_exactly : (u : Took) (front : List Gate) (x : Gate) (a b : ℕ) → took e steps below ≡ u → All (Contains u.extended.gates) front → AreSteps u.extended (taken nothing u.steps) (map Eliminate (variables front)) →
      Contains u.extended.gates x → has (taken (taken nothing u.steps) (map Eliminate (variables front))).eliminated x.v ≡ false → slice_index_or readers x.v 0 ≡ a → b ≡ read_by_gates front [] x.v →
      (((a == b) ≡ true) → CanEliminate u.extended (taken (taken nothing u.steps) (map Eliminate (variables front))) x.v) × (CanEliminate u.extended (taken (taken nothing u.steps) (map Eliminate (variables front))) x.v → (a == b) ≡ true)
  goes_exactly u front x a b is there can in_gates new a_is b_is =
      subst (λ (u : Took). All (Contains u.extended.gates) front → AreSteps u.extended (taken nothing u.steps) (map Eliminate (variables front)) → Contains u.extended.gates x → has (taken (taken nothing u.steps) (map Eliminate (variables front))).eliminated x.v ≡ false →
      (((a == b) ≡ true) → CanEliminate u.extended (taken (taken nothing u.steps) (map Eliminate (variables front))) x.v) × (CanEliminate u.extended (taken (taken nothing u.steps) (map Eliminate (variables front))) x.v → (a == b) ≡ true)) is
      (λ there can in_gates new. (
        (λ same. goes_behind e steps below gone readers t made front there can x in_gates new (a_is ∙ eqb-true a b same ∙ b_is)),
        (λ go. eq-eqb a b (sym a_is ∙ unread_behind e steps below gone readers t made front there can x go ∙ sym b_is)),
      )) there can in_gates new

  pub ready_now : (u : Took) (v : ℕ) → took e steps below ≡ u → CanEliminate u.extended (taken nothing u.steps) v → IsReadyGate u v
  ready_now u v is can = subst (λ (u : Took). CanEliminate u.extended (taken nothing u.steps) v → IsReadyGate u v) is (λ can. is_ready e steps below gone readers t made v can) can

-- the gates of a front, and of a part of a list
pub all_front : (P : Gate → Type 0) (gates : List Gate) (i : ℕ) → All P gates → All P (take i gates)
all_front P gates i h = All-from_recursion P (take i gates) (fronts i gates (recursion_from_All P gates h))
  where
    fronts : (i : ℕ) (xs : List Gate) → AllByRecursion P xs → AllByRecursion P (take i xs)
    fronts zero xs h = tt
    fronts (suc i) [] h = tt
    fronts (suc i) (x ∷ xs) h = (h.0, fronts i xs h.1)

pub all_rest : (P : Gate → Type 0) (gates : List Gate) (i : ℕ) → All P gates → All P (drop i gates)
all_rest P gates i h = All-from_recursion P (drop i gates) (rests i gates (recursion_from_All P gates h))
  where
    rests : (i : ℕ) (xs : List Gate) → AllByRecursion P xs → AllByRecursion P (drop i xs)
    rests zero xs h = h
    rests (suc i) [] h = tt
    rests (suc i) (x ∷ xs) h = rests i xs h.1

-- the gates of a group are among those of the list
pub all_of_group : (P : Gate → Type 0) (gates : List Gate) (parts : List Part) (k : ℕ) (group : List Gate) → All P gates → slice_get (pieces gates parts) k ≡ Some group → All P group
all_of_group P gates [] k group h is = absurd (cc)
all_of_group P gates (p ∷ parts) zero group h is = subst (All P) (same is) (all_front P (drop p.start gates) (p.end - p.start) (all_rest P gates p.start h))
  where
    same : Some (between p.start p.end gates) ≡ Some group → between p.start p.end gates ≡ group
    same e = cc
all_of_group P gates (p ∷ parts) (suc k) group h is = all_of_group P gates parts k group h is

pub one_of_lists : (gs : List (List Gate)) (k : ℕ) (group : List Gate) → slice_get gs k ≡ Some group → Contains (map variables gs) (variables group)
one_of_lists [] k group is = absurd (cc)
one_of_lists (g ∷ gs) zero group is = (0, omega arith, ap variables (same is))
  where
    same : Some g ≡ Some group → g ≡ group
    same e = cc
one_of_lists (g ∷ gs) (suc k) group is = let rest = one_of_lists gs k group is in let low = rest.1 in (suc rest.0, omega arith, rest.2)

pub gate_low : (e : Extended) → IsExtension e → (x : Gate) → Contains e.gates x → x.v ≤ e.max
gate_low e made x there = subst (λ (y : Gate). y.v ≤ e.max) there.2 (made.gates_in_range there.0 x there.1)

pub gate_has : (gates : List Gate) (v w : ℕ) (r : Option Gate) → IfSome r (IsGateOf gates v) → v ≡ w → is_some r ≡ true → has (variables gates) w ≡ true
gate_has gates v w None h e some = absurd (true≢false (sym some))
gate_has gates v w (Some x) h e some = subst (λ u. has (variables gates) u ≡ true) (h.1 ∙ e) (gates_have gates x h.0)

pub nothing_behind : (steps more : List Step) → more ≡ [] → steps ≡ steps ++ more
nothing_behind steps more none = sym (append_nil steps) ∙ ap (λ ss. steps ++ ss) (sym none)

-- one more gate of a group is eliminated
pub can_next : (u now : Took) (group : List Gate) (i : ℕ) (d : Gate) → i < length group → AreSteps u.extended (taken nothing u.steps) (map Eliminate (variables group)) → now.extended ≡ u.extended →
    now.steps ≡ u.steps ++ map Eliminate (variables (take i group)) → CanEliminate now.extended (taken nothing now.steps) (slice_index_or group i d).v
can_next u now group i d low can same is =
    subst (λ (g : Extended). CanEliminate g (taken nothing now.steps) (slice_index_or group i d).v) (sym same)
    (subst (λ g. CanEliminate u.extended g (slice_index_or group i d).v) (sym (ap (taken nothing) is ∙ taken-append nothing u.steps (map Eliminate (variables (take i group)))))
    (steps_at u.extended (taken nothing u.steps) group i d low can))

pub reads_more : (gates : List Gate) (i v a b count : ℕ) (d : Gate) → i < length gates → count ≡ read_by_gates (take i gates) [] v → a ≡ is_one (variable_of (slice_index_or gates i d).left) v → b ≡ is_one (variable_of (slice_index_or gates i d).right) v →
    count + (a + b) ≡ read_by_gates (take (i + 1) gates) [] v
reads_more gates i v a b count d low so_far left right =
    let more = gates_more gates i v d low in
    let up : i + 1 ≡ suc i = omega arith in
    let next : read_by_gates (take (i + 1) gates) [] v ≡ read_by_gates (take (suc i) gates) [] v = ap (λ n. read_by_gates (take n gates) [] v) up in
    omega arith

pub count_low : (gates : List Gate) (i v count : ℕ) → count ≡ read_by_gates (take i gates) [] v → count ≤ 2 * i
count_low gates i v count so_far = let few = gates_few (take i gates) [] v in let low = length_take i gates in omega arith
  where
    length_take : (n : ℕ) (xs : List Gate) → length (take n xs) ≤ n
    length_take zero xs = omega arith
    length_take (suc n) [] = omega arith
    length_take (suc n) (x ∷ xs) = omega (arith, length_take n xs)

abbrev pub no_gate : Gate
no_gate = record { v = 0; left = record { 0 = 0 }; right = record { 0 = 0 } }

pub group_gate : (e d : Extended) (group : List Gate) (i : ℕ) (x : Gate) → d ≡ e → All (Contains e.gates) group → i < length group → Contains d.gates (slice_index_or group i x)
group_gate e d group i x same all low = subst (λ (g : Extended). Contains g.gates (slice_index_or group i x)) (sym same) (all i x low)

pub on_ok : {T E : Type 0} (r : Result T E) (P Q : Type 0) → (P → Q) → OnOk r P → OnOk r Q
on_ok (Ok x) P Q f h = f h
on_ok (Err x) P Q f h = h

-- a group that is swept
pub one_swept : (e : Extended) (gs : List (List ℕ)) (before now : List Step) (u : List ℕ) → AreGroups e gs → Contains gs u → now ≡ before ++ swept e (taken nothing before) (u ∷ []) → AreAtGroups e gs before → AreAtGroups e gs now
one_swept e gs before now u are there is at = subst (AreAtGroups e gs) (sym is) (sweep_at e gs are (u ∷ []) (split_at there.0 gs u there.1 there.2, tt) before (taken nothing before) refl at)

-- With all columns all groups are swept, and no gate is left.
pub all_swept : (e : Extended) (gs : List (List ℕ)) (before now : List Step) → AreGroups e gs → now ≡ before ++ swept e (taken nothing before) gs → ((k : ℕ) → k < length e.graph.outputs → has (taken nothing before).added k ≡ true) → AreAtGroups e gs before →
    AreAtGroups e gs now × All (λ x. has (taken nothing now).eliminated x.v ≡ true) e.gates
all_swept e gs before now are is columns at =
    let f = taken nothing before in
    let end : taken nothing now ≡ taken f (swept e f gs) = ap (taken nothing) is ∙ taken-append nothing before (swept e f gs) in
    let gone = sweep_all e gs are [] gs refl before f refl at columns tt in (
      subst (AreAtGroups e gs) (sym is) (sweep_at e gs are gs (all_ones gs [] gs refl) before f refl at),
      (λ k d low. ap (λ g. has g.eliminated (slice_index_or e.gates k d).v) end ∙ all_has (λ v. has (taken f (swept e f gs)).eliminated v ≡ true) (concat gs) (slice_index_or e.gates k d).v gone (are.all k d low)),
    )

-- a gate that is left, where none is
pub gone_refutes : (e : Extended) (u : Took) (x : Gate) → u.extended ≡ e → Contains u.extended.gates x → has (taken nothing u.steps).eliminated x.v ≡ false → All (λ y. has (taken nothing u.steps).eliminated y.v ≡ true) e.gates → ⊥
gone_refutes e u x same there left gone =
    let at : Contains e.gates x = subst (λ (g : Extended). Contains g.gates x) same there in
    true≢false (sym (subst (λ (y : Gate). has (taken nothing u.steps).eliminated y.v ≡ true) at.2 (gone at.0 x at.1)) ∙ left)

pub all_pushed : (P : Gate → Type 0) (xs now : List Gate) (x : Gate) → now ≡ xs ++ x ∷ [] → All P xs → P x → All P now
all_pushed P xs now x is all one = subst (All P) (sym is) (All-from_recursion P (xs ++ x ∷ []) (all_join P xs (x ∷ []) (recursion_from_All P xs all) (one, tt)))

-- a list that is turned round has the same gates
pub of_reversed : (all gates turned : List Gate) → gates ≡ all → turned ≡ reverse gates → All (Contains all) turned
of_reversed all gates turned same is =
    subst (λ gs. All (Contains gs) turned) same (subst (All (Contains gates)) (sym is) (All-from_recursion (Contains gates) (reverse gates) (turn (Contains gates) gates (recursion_from_All (Contains gates) gates (λ k d low. All-contains_itself gates k d low)))))
  where
    turn : (P : Gate → Type 0) (xs : List Gate) → AllByRecursion P xs → AllByRecursion P (reverse xs)
    turn P [] h = tt
    turn P (x ∷ xs) h = subst (AllByRecursion P) (sym (reverse-append (x ∷ []) xs)) (all_join P (reverse xs) (x ∷ []) (turn P xs h.1) (h.0, tt))

-- ---- one turn of the planner's loop

pub turn_at_groups : (e : Extended) (a b : Took) (gs : List (List ℕ)) → a.extended ≡ e → b.extended ≡ a.extended → AreAtGroups e gs a.steps → StaysAtGroups a b → AreAtGroups b.extended gs b.steps
turn_at_groups e a b gs of_a of_b at stays =
    subst (λ (d : Extended). AreAtGroups d gs b.steps) (sym of_b) (stays gs (subst (λ (d : Extended). AreAtGroups d gs a.steps) (sym of_a) at))

pub due_at_groups : (e : Extended) (b : Took) (gs : List (List ℕ)) (now : List Step) → b.extended ≡ e → AreGroups e gs → AreAtGroups b.extended gs b.steps → (AreGroups b.extended gs → AreAtGroups b.extended gs b.steps → AreAtGroups b.extended gs now) → AreAtGroups e gs now
due_at_groups e b gs now of_b are at next = subst (λ (d : Extended). AreAtGroups d gs now) of_b (next (subst (λ (d : Extended). AreGroups d gs) (sym of_b) are) at)

pub if_all : {T E : Type 0} (r : Result T E) (P Q R S : T → Type 0) → ((x : T) → P x → Q x → R x → S x) → IfOk r P → IfOk r Q → IfOk r R → IfOk r S
if_all (Ok x) P Q R S f p q r = f x p q r
if_all (Err x) P Q R S f p q r = p
