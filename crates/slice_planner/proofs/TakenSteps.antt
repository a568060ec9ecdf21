-- One more step, and what the tables then say.
use Rattle.std.specs.Prelude.{◌≡◌, ◌≢◌, ℕ, zero, suc, ◌+◌, ◌<◌, ◌≤◌, ◌⊎◌, Bool, true, false, ◌||◌, List, [], ◌∷◌, ◌++◌, map, length, slice_get, slice_index_or, slice_set, ◌==◌}
use Rattle.std.specs.declared.option.Option.TheVariants.{Some}
use Rattle.std.specs.List.{All, Contains}
use Rattle.std.proofs.Common.{refl, sym, ap, ap₂, subst, ◌∙◌, arith, inl, inr, ⊎_elim, eq-eqb, ne_eqb, append_assoc}
use Rattle.std.proofs.lemmas.Bool.{cases_Bool, cases_eq, or_left, or_right}
use Rattle.std.proofs.lemmas.Grind.{get_or-set_at}
use Rattle.std.proofs.lemmas.List.{get_or-set_other, length-set}
use Rattle.std.proofs.lemmas.Option.{slice_get_within}
use Rattle.std.proofs.lemmas.List.Elements.{All-from_recursion, All-contains_itself}
use Rattle.graph_core.specs.declared.gate.Gate.{Gate}
use Rattle.graph_core.specs.declared.literal.Lit.{Lit}
use Rattle.graph_core.specs.Graph.Literals.{variable_of}
use Rattle.graph_core.specs.Graph.Extended.{Extended}
use Rattle.ripple_graft.specs.Extension.{IsExtension, new_outputs}
use Rattle.frontier_core.specs.declared.step.Step.{Step}
use Rattle.frontier_core.specs.declared.step.Step.TheVariants.{Add, Eliminate}
use Rattle.frontier_core.specs.Plan.{CanEliminate, IsPlan, Taken, nothing, step, taken}
use Rattle.frontier_core.specs.Sets.{has}
use Rattle.frontier_core.proofs.OrderMade.{gates_of_defined}
use Rattle.frontier_core.proofs.PlainOrders.{length-outputs_from, pairs_recursion}
use Rattle.frontier_core.proofs.Plans.{step_is_pushed}
use Rattle.slice_planner.specs.GroupPlans.{AreAtGroups}
use Rattle.slice_planner.specs.SlicePlan.{columns_added, count_down}
use Rattle.slice_planner.proofs.GroupPlans.{column_is_pushed}
use Rattle.slice_planner.specs.Taking.{IsReadyGate, IsTaking, LowersByOne, Took, read_by_columns, read_by_gate, read_by_gates, still_read, took}
use Rattle.slice_planner.proofs.Words.{left_count}
use Rattle.slice_planner.proofs.ReadCounts.{all_gone, columns_more, columns_none, columns_zero, gates_less, gates_none, left_less, one_same}

-- ---- lists

pub listed : (gates all : List Gate) (k : ℕ) (d : Gate) → gates ≡ all → k < length gates → Contains all (slice_index_or gates k d)
listed gates all k d same low = subst (λ gs. Contains gs (slice_index_or gates k d)) same (All-contains_itself gates k d low)

columns_pushed : (steps : List Step) (s : Step) → columns_added (steps ++ s ∷ []) ≡ columns_added steps ++ columns_added (s ∷ [])
columns_pushed [] s = refl
columns_pushed (Add k ∷ steps) s = ap (λ ks. k ∷ ks) (columns_pushed steps s)
columns_pushed (Eliminate v ∷ steps) s = columns_pushed steps s

append_nil : (ks : List ℕ) → ks ++ [] ≡ ks
append_nil [] = refl
append_nil (k ∷ ks) = ap (λ js. k ∷ js) (append_nil ks)

-- one more number of a set
set_at : (table : List Bool) (us : List ℕ) (k : ℕ) → ((v : ℕ) → slice_index_or table v false ≡ has us v) → k < length table → (v : ℕ) → slice_index_or (slice_set table k true) v false ≡ has (k ∷ us) v
set_at table us k h low v =
    ⊎_elim
    (λ e. get_or-set_at table k v true false e low ∙ sym (or_left (k == v) (has us v) (eq-eqb k v (sym e))))
    (λ n. get_or-set_other table k v true false n ∙ h v ∙ ap (λ b. b || has us v) (sym (ne_eqb k v (λ e. n (sym e)))))
    (cases_eq v k)

-- a gate of a list has its variable among theirs
pub gates_have : (gates : List Gate) (x : Gate) → Contains gates x → has (map (λ y. y.v) gates) x.v ≡ true
gates_have [] x h = let low = h.1 in absurd (omega arith)
gates_have (y ∷ gates) x (zero, low, is) = or_left (y.v == x.v) (has (map (λ z. z.v) gates) x.v) (eq-eqb y.v x.v (ap (λ z. z.v) is))
gates_have (y ∷ gates) x (suc k, low, is) = or_right (y.v == x.v) (has (map (λ z. z.v) gates) x.v) (gates_have gates x (k, omega arith, is))

outputs_within : (e : Extended) (k : ℕ) (l : Lit) → slice_get (new_outputs e) k ≡ Some l → k < length e.graph.outputs
outputs_within e k l is = omega (arith, slice_get_within (new_outputs e) k l is, length-outputs_from e.replaced 0 e.graph.outputs)

module _ (e : Extended) (steps : List Step) (below : ℕ) (gone : List Bool) (readers : List ℕ) (t : IsTaking (took e steps below) gone readers) where
  abbrev f : Taken
  f = taken nothing steps

  after : (s : Step) → taken nothing (steps ++ s ∷ []) ≡ step f s
  after s = (step_is_pushed e nothing steps s).0

  -- ---- a column

  pub output_is_read : (k : ℕ) (l : Lit) → below ≡ k + 1 → slice_get (new_outputs e) k ≡ Some l → 0 < slice_index_or readers (variable_of l) 0
  output_is_read k l next is =
      let all = t.reads (variable_of l) in
      let more = columns_more (new_outputs e) k (variable_of l) l is in
      let one = one_same (variable_of l) (variable_of l) refl in
      let up : below ≡ suc k = omega arith in
      let now : read_by_columns (new_outputs e) below (variable_of l) ≡ read_by_columns (new_outputs e) (suc k) (variable_of l) = ap (λ n. read_by_columns (new_outputs e) n (variable_of l)) up in
      omega arith

  module _ (k : ℕ) (l : Lit) (now : List ℕ) (next : below ≡ k + 1) (is : slice_get (new_outputs e) k ≡ Some l) (lower : LowersByOne (variable_of l) readers now) where
    up : below ≡ suc k
    up = omega arith

    added_is : taken nothing (steps ++ Add k ∷ []) ≡ record { added = k ∷ f.added; eliminated = f.eliminated }
    added_is = after (Add k)

    low : k < length e.graph.outputs
    low = let l = t.low in omega arith

    adds : (j : ℕ) → j < length e.graph.outputs → k ≤ j → has (k ∷ f.added) j ≡ true
    adds j within from = ⊎_elim (λ s. or_left (k == j) (has f.added j) (eq-eqb k j s)) (λ n. or_right (k == j) (has f.added j) (t.added j within (omega arith))) (cases_eq k j)

    ahead : (j : ℕ) → j < k → has (k ∷ f.added) j ≡ false
    ahead j lt = ap₂ ◌||◌ (ne_eqb k j (λ s. omega arith)) (t.ahead j (omega arith))

    reads : (v : ℕ) → slice_index_or now v 0 ≡ read_by_gates e.gates f.eliminated v + read_by_columns (new_outputs e) k v
    reads v =
        let all = t.reads v in
        let less = lower.each v in
        let more = columns_more (new_outputs e) k v l is in
        let same : read_by_columns (new_outputs e) below v ≡ read_by_columns (new_outputs e) (suc k) v = ap (λ n. read_by_columns (new_outputs e) n v) up in
        omega arith

    pub column_taken : IsTaking (took e (steps ++ Add k ∷ []) k) gone now
    column_taken = record {
      follow = (step_is_pushed e nothing steps (Add k)).1 t.follow (low, t.ahead k (omega arith));
      low = omega (arith, low);
      columns = ap (λ ks. ks ++ count_down k) (columns_pushed steps (Add k)) ∙ append_assoc (columns_added steps) (k ∷ []) (count_down k) ∙ ap (λ n. columns_added steps ++ count_down n) (sym up) ∙ t.columns;
      added = λ j within from. ap (λ g. has g.added j) added_is ∙ adds j within from;
      ahead = λ j lt. ap (λ g. has g.added j) added_is ∙ ahead j lt;
      gone_room = t.gone_room;
      readers_room = lower.room ∙ t.readers_room;
      is_gone = λ v. t.is_gone v ∙ ap (λ g. has g.eliminated v) (sym added_is);
      reads = λ v. reads v ∙ ap (λ g. read_by_gates e.gates g.eliminated v + read_by_columns (new_outputs e) k v) (sym added_is);
    }

  -- steps between two groups stay there
  pub column_at_groups : (k : ℕ) (gs : List (List ℕ)) → below ≡ k + 1 → AreAtGroups e gs steps → AreAtGroups e gs (steps ++ Add k ∷ [])
  column_at_groups k gs next at = let few = t.low in column_is_pushed e gs steps k at (omega arith) (t.ahead k (omega arith))

  -- ---- a gate

  -- With these columns, a gate that isn't eliminated can go where nothing reads it any more.
  pub gate_can_go : (g : Taken) → g.added ≡ f.added → (x : Gate) → Contains e.gates x → has g.eliminated x.v ≡ false → read_by_gates e.gates g.eliminated x.v + read_by_columns (new_outputs e) below x.v ≡ 0 → CanEliminate e g x.v
  gate_can_go g same x there new unread = record {
    gate = gates_have e.gates x there;
    new = new;
    readers = All-from_recursion (λ y. (variable_of y.left ≡ x.v) ⊎ (variable_of y.right ≡ x.v) → has g.eliminated y.v ≡ true) e.gates (gates_none e.gates g.eliminated x.v (omega (arith, unread)));
    outputs = λ k l is reads. ap (λ ks. has ks k) same ∙ t.added k (outputs_within e k l is) (columns_none (new_outputs e) below x.v (omega (arith, unread)) k l is reads);
  }

  module _ (made : IsExtension e) (x : Gate) (there : Contains e.gates x) (new : has f.eliminated x.v ≡ false) where
    less : (v : ℕ) → read_by_gates e.gates f.eliminated v ≡ read_by_gate x v + read_by_gates e.gates (x.v ∷ f.eliminated) v
    less v = gates_less e.gates f.eliminated x v there.0 x (pairs_recursion ◌≢◌ (map (λ y. y.v) e.gates) (gates_of_defined e made)) there.1 there.2 new

    pub left_is_read : 0 < slice_index_or readers (variable_of x.left) 0
    left_is_read =
        let all = t.reads (variable_of x.left) in
        let split = less (variable_of x.left) in
        let one = one_same (variable_of x.left) (variable_of x.left) refl in
        omega arith

    pub right_is_read : (between : List ℕ) → LowersByOne (variable_of x.left) readers between → 0 < slice_index_or between (variable_of x.right) 0
    right_is_read between lower =
        let all = t.reads (variable_of x.right) in
        let split = less (variable_of x.right) in
        let one = one_same (variable_of x.right) (variable_of x.right) refl in
        let one_less = lower.each (variable_of x.right) in
        omega arith

    module _ (unread : still_read (took e steps below) x.v ≡ 0) (between now : List ℕ) (first : LowersByOne (variable_of x.left) readers between) (second : LowersByOne (variable_of x.right) between now) where
      gone_is : taken nothing (steps ++ Eliminate x.v ∷ []) ≡ record { added = f.added; eliminated = x.v ∷ f.eliminated }
      gone_is = after (Eliminate x.v)

      reads_on : (v : ℕ) → slice_index_or now v 0 ≡ read_by_gates e.gates (x.v ∷ f.eliminated) v + read_by_columns (new_outputs e) below v
      reads_on v = let all = t.reads v in let split = less v in let a = first.each v in let b = second.each v in omega arith

      within : x.v < length gone
      within = let low : x.v ≤ e.max = subst (λ y. y.v ≤ e.max) there.2 (made.gates_in_range there.0 x there.1) in omega (arith, t.gone_room)

      pub gate_taken : IsTaking (took e (steps ++ Eliminate x.v ∷ []) below) (slice_set gone x.v true) now
      gate_taken = record {
        follow = (step_is_pushed e nothing steps (Eliminate x.v)).1 t.follow (gate_can_go f refl x there new unread);
        low = t.low;
        columns = ap (λ ks. ks ++ count_down below) (columns_pushed steps (Eliminate x.v) ∙ append_nil (columns_added steps)) ∙ t.columns;
        added = λ j low from. ap (λ g. has g.added j) gone_is ∙ t.added j low from;
        ahead = λ j lt. ap (λ g. has g.added j) gone_is ∙ t.ahead j lt;
        gone_room = length-set gone x.v true ∙ t.gone_room;
        readers_room = second.room ∙ first.room ∙ t.readers_room;
        is_gone = λ v. set_at gone f.eliminated x.v t.is_gone within v ∙ ap (λ g. has g.eliminated v) (sym gone_is);
        reads = λ v. reads_on v ∙ ap (λ g. read_by_gates e.gates g.eliminated v + read_by_columns (new_outputs e) below v) (sym gone_is);
      }

  -- ---- the end

  pub finished : IsExtension e → below ≡ 0 → All (λ x. ¬ (IsReadyGate (took e steps below) x.v)) e.gates → IsPlan e steps
  finished made none stuck = record {
    follow = t.follow;
    last = record {
      all_columns = λ k low. t.added k low (omega arith);
      all_gates = all_gone e.gates f.eliminated made.acyclic (λ k d low.
          let v = (slice_index_or e.gates k d).v in
          ⊎_elim (λ is. inl is) (λ new. inr (read_on v (λ unread. stuck k d low (new, unread)))) (cases_Bool (has f.eliminated v)));
    };
  }
    where
      read_on : (v : ℕ) → (still_read (took e steps below) v ≢ 0) → 0 < read_by_gates e.gates f.eliminated v
      read_on v h =
          let columns : read_by_columns (new_outputs e) below v ≡ 0 = ap (λ n. read_by_columns (new_outputs e) n v) none ∙ columns_zero (new_outputs e) v in
          omega (arith, h)

  pub all_added : below ≡ 0 → columns_added steps ≡ count_down (length e.graph.outputs)
  all_added none = sym (append_nil (columns_added steps)) ∙ ap (λ n. columns_added steps ++ count_down n) (sym none) ∙ t.columns

-- Eliminating a gate leaves fewer.
pub fewer_left : (old new : Took) (x : Gate) → new.extended ≡ old.extended → new.steps ≡ old.steps ++ Eliminate x.v ∷ [] → Contains old.extended.gates x → IsReadyGate old x.v →
    left_count new.extended.gates (taken nothing new.steps).eliminated < left_count old.extended.gates (taken nothing old.steps).eliminated
fewer_left old new x same steps there ready =
    let e = old.extended in
    let f = taken nothing old.steps in
    let now : (taken nothing new.steps).eliminated ≡ x.v ∷ f.eliminated = ap (λ ss. (taken nothing ss).eliminated) steps ∙ ap (λ (g : Taken). g.eliminated) (step_is_pushed e nothing old.steps (Eliminate x.v)).0 in
    subst (λ us. left_count new.extended.gates us < left_count e.gates f.eliminated) (sym now)
    (subst (λ (d : Extended). left_count d.gates (x.v ∷ f.eliminated) < left_count e.gates f.eliminated) (sym same) (left_less e.gates f.eliminated x.v there.0 x there.1 (ap (λ (y : Gate). y.v) there.2) ready.0))
