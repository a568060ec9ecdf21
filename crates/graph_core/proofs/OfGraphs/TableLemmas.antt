-- What the tables of a graph say of one variable.
use Rattle.std.specs.Prelude.{◌≡◌, ◌≢◌, ℕ, zero, suc, ◌-◌, ◌<◌, ◌≤◌, List, length, take, slice_index_or, get_or}
use Rattle.std.proofs.Common.{refl, sym, subst, arith, inl, inr}
use Rattle.std.proofs.lemmas.List.{get_or_read}
use Rattle.std.proofs.lemmas.List.Elements.{All-contains}
use Rattle.graph_core.specs.declared.gate.Gate.{Gate}
use Rattle.graph_core.specs.Graph.Literals.{variable_of}
use Rattle.graph_core.specs.Graph.{Aig, IsFree, IsGateOf, IsBuilt}
use Rattle.graph_core.specs.Graph.Tables.{Tables, HasTables, IsSchedule, IsSettled, IsTable, IsPlace}

-- what is read at a variable's place
pub table_read : (max : ℕ) (P : ℕ → ℕ → Type 0) (table : List ℕ) (v n : ℕ) → IsTable max P table → v ≤ max → n ≡ get_or table v n → P v n
table_read max P table v n t low read =
    let size = t.0 in
    subst (P v) (sym (get_or_read table v n (omega arith) read 0)) (t.1 v low)

-- the gate at the place before the number
pub place_read : (gates : List Gate) (v n : ℕ) → IsPlace gates v n → n ≢ 0 → (n - 1 < length gates) × ((d : Gate) → (slice_index_or gates (n - 1) d).v ≡ v)
place_read gates v zero p h = absurd (h refl)
place_read gates v (suc k) p h =
    let r = p.some k refl in
    subst (λ m. (m < length gates) × ((d : Gate) → (slice_index_or gates m d).v ≡ v)) (omega arith) r

pub place_gate : (gates : List Gate) (v n : ℕ) (x : Gate) → IsPlace gates v n → n ≢ 0 → x ≡ get_or gates (n - 1) x → IsGateOf gates v x
place_gate gates v n x p h read =
    let r = place_read gates v n p h in
    ((n - 1, r.0, sym read), subst (λ y. y.v ≡ v) (sym read) (r.1 x))

pub not_free_place : (gates : List Gate) (v n : ℕ) → IsPlace gates v n → n ≢ 0 → (x : Gate) → IsFree gates v → x ≡ get_or gates (n - 1) x → ⊥
not_free_place gates v n p h x f read = let r = place_read gates v n p h in f (n - 1) x r.0 (r.1 x)

-- the graph that is seen has the tables' facts
pub seen_built : {a g : Aig} {t : Tables} → HasTables a t → a ≡ g → IsBuilt g
seen_built h e = subst IsBuilt e h.built

settled_in : (gates schedule done : List Gate) (v : ℕ) → IsSchedule gates schedule → IsSettled schedule done v → IsSettled gates done v
settled_in gates schedule done v s (inl f) = inl (λ k d l. All-contains (λ x. x.v ≢ v) schedule (slice_index_or gates k d) f (s.all k d l))
settled_in gates schedule done v s (inr c) = inr c

-- what a gate reads stands before it
pub scheduled_left : (gates schedule : List Gate) (i : ℕ) (d : Gate) → IsSchedule gates schedule → i < length schedule → IsSettled gates (take i schedule) (variable_of (slice_index_or schedule i d).left)
scheduled_left gates schedule i d s below = settled_in gates schedule (take i schedule) (variable_of (slice_index_or schedule i d).left) s (s.ordered.left i d below)

pub scheduled_right : (gates schedule : List Gate) (i : ℕ) (d : Gate) → IsSchedule gates schedule → i < length schedule → IsSettled gates (take i schedule) (variable_of (slice_index_or schedule i d).right)
scheduled_right gates schedule i d s below = settled_in gates schedule (take i schedule) (variable_of (slice_index_or schedule i d).right) s (s.ordered.right i d below)

pub seen_schedule : {a g : Aig} {t : Tables} (gates : List Gate) → HasTables a t → a ≡ g → gates ≡ t.schedule → IsSchedule g.gates gates
seen_schedule gates h e same = subst (λ b. IsSchedule b.gates gates) e (rw same h.schedule)
