-- What the two tests of a list of gates find.
use Rattle.std.specs.Prelude.{◌≡◌, ◌≢◌, ℕ, zero, suc, ◌<◌, ◌≤◌, ◌⊎◌, Bool, true, false, List, [], ◌∷◌, map, length, slice_get, slice_index_or, ◌==◌}
use Rattle.std.specs.declared.option.Option.TheVariants.{Some}
use Rattle.std.specs.List.{All, Any, Contains}
use Rattle.std.proofs.Common.{sym, ap, subst, ◌∙◌, arith, ⊎_elim, eqb-true, true≢false}
use Rattle.std.proofs.lemmas.Bool.{cases_lt, or_cases}
use Rattle.graph_core.specs.declared.gate.Gate.{Gate}
use Rattle.graph_core.specs.Graph.Literals.{variable_of}
use Rattle.graph_core.specs.Graph.Extended.{Extended}
use Rattle.frontier_core.specs.Sets.{has}
use Rattle.slice_planner.specs.AdderLists.{AreAddersAndProducts, ReadsNoGate}
use Rattle.slice_planner.specs.GroupPlans.{AreInOrder}
use Rattle.slice_planner.specs.Groups.{groups}
use Rattle.slice_planner.specs.Arranged.{IsLater, ReadsGate, variables}
use Rattle.slice_planner.proofs.GroupSteps.{one_of_lists}

-- ---- gates alone

-- A gate that is a group alone and reads another: so the gates aren't adders and products.
pub single_refutes : (gates : List Gate) (gs : List (List Gate)) (k : ℕ) (group : List Gate) (x : Gate) → slice_get gs k ≡ Some group → group ≡ x ∷ [] → ReadsGate gates x → All (Contains gates) group → map variables gs ≡ groups gates →
    AreAddersAndProducts gates → ⊥
single_refutes gates gs k group x there is reads among lists adders =
    let in_gates : Contains gates x = subst (All (Contains gates)) is among 0 x (omega arith) in
    let at = subst (λ ls. Contains ls (variables group)) lists (one_of_lists gs k group there) in
    let alone : Any (λ u. u ≡ x.v ∷ []) (groups gates) = (at.0, variables group, at.1, at.2, ap variables is) in
    let none : ReadsNoGate gates x = subst (λ (y : Gate). Any (λ u. u ≡ y.v ∷ []) (groups gates) → ReadsNoGate gates y) in_gates.2 (adders in_gates.0 x in_gates.1) alone in
    ⊎_elim (λ left. true≢false (sym left ∙ none.0)) (λ right. true≢false (sym right ∙ none.1)) reads

-- ---- the order of the list

-- where a variable's gate stands
record Standing (gates : List Gate) (v : ℕ) : Type 0 where
  place : ℕ
  low : place < length gates
  is : (d : Gate) → (slice_index_or gates place d).v ≡ v

standing : (gates : List Gate) (v : ℕ) → has (variables gates) v ≡ true → Standing gates v
standing [] v h = absurd (true≢false (sym h))
standing (x ∷ gates) v h =
    ⊎_elim (λ here. record { place = 0; low = omega arith; is = λ d. eqb-true x.v v here })
    (λ there. let s = standing gates v there in let low = s.low in record { place = suc s.place; low = omega arith; is = s.is })
    (or_cases (x.v == v) (has (variables gates) v) h)

-- a gate reads none that is listed from its place on
order_at : (gates : List Gate) (i p : ℕ) (d : Gate) → AreInOrder gates → i ≤ p → p < length gates →
    (variable_of (slice_index_or gates i d).left ≢ (slice_index_or gates p d).v) × (variable_of (slice_index_or gates i d).right ≢ (slice_index_or gates p d).v)
order_at [] i p d order le low = absurd (omega arith)
order_at (x ∷ gates) zero p d order le low = order.0 p d low
order_at (x ∷ gates) (suc i) zero d order le low = absurd (omega arith)
order_at (x ∷ gates) (suc i) (suc p) d order le low = order_at gates i p d order.1 (omega arith) (omega arith)

-- Where the gates so far are in a table, a gate that reads one that isn't is out of order.
pub later_refutes : (e : Extended) (table : List Bool) (i : ℕ) (d : Gate) → AreInOrder e.gates → ((k : ℕ) (d : Gate) → k < i → slice_index_or table (slice_index_or e.gates k d).v false ≡ true) →
    IsLater e table (slice_index_or e.gates i d).left ⊎ IsLater e table (slice_index_or e.gates i d).right → ⊥
later_refutes e table i d order so_far later =
    ⊎_elim (λ l. at (variable_of (slice_index_or e.gates i d).left) (λ p le low. (order_at e.gates i p d order le low).0) l.0 l.2)
    (λ r. at (variable_of (slice_index_or e.gates i d).right) (λ p le low. (order_at e.gates i p d order le low).1) r.0 r.2) later
  where
    at : (v : ℕ) → ((p : ℕ) → i ≤ p → p < length e.gates → v ≢ (slice_index_or e.gates p d).v) → has (variables e.gates) v ≡ true → slice_index_or table v false ≡ false → ⊥
    at v other there absent =
        let s = standing e.gates v there in
        ⊎_elim (λ lt. true≢false (sym (so_far s.place d lt) ∙ ap (λ u. slice_index_or table u false) (s.is d) ∙ absent)) (λ ge. other s.place ge s.low (sym (s.is d))) (cases_lt s.place i)
