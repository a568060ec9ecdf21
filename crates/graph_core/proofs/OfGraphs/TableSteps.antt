-- One more gate or literal in the tables of a graph.
use Rattle.std.specs.Prelude.{◌≡◌, ◌≢◌, ℕ, zero, suc, ◌+◌, ◌*◌, ◌<◌, ◌≤◌, max, Bool, ◌==◌, List, [], ◌∷◌, ◌++◌, map, take, length, slice_index, slice_index_or, slice_set, get_or, replicate}
use Rattle.std.specs.List.{Contains}
use Rattle.std.proofs.Common.{refl, sym, ap, subst, ◌∙◌, arith, inl, inr, ⊎_elim, length-set, get_or-set_same, get_or-set_other, append_assoc}
use Rattle.std.proofs.lemmas.Bool.{cases_eq}
use Rattle.std.proofs.lemmas.List.{take_more, take_all, length-take, length-map, get_or-map, get_or-take, get_or_default, length-replicate, map_push, flat_map_more}
use Rattle.std.proofs.lemmas.List.Elements.{All-more, Contains-get_or, Contains-push_cases}
use Rattle.std.proofs.lemmas.List.Sums.{count_by-le-length}
use Rattle.graph_core.specs.declared.literal.Lit.{Lit}
use Rattle.graph_core.specs.declared.gate.Gate.{Gate}
use Rattle.graph_core.specs.Graph.Literals.{variable_of}
use Rattle.graph_core.specs.Graph.{IsLevel, free, above}
use Rattle.graph_core.specs.Graph.Tables.{IsTable, IsPlace, IsSettled, IsOrdered, AreCounts, gates_read}
use Rattle.graph_core.proofs.OfGraphs.WellFormedGates.{free_or_some}

-- ---- places

zero_at : (n v : ℕ) → slice_index (replicate n 0) v ≡ 0
zero_at zero v = refl
zero_at (suc n) zero = refl
zero_at (suc n) (suc v) = zero_at n v

module _ (gates : List Gate) (k : ℕ) (d : Gate) (below : k < length gates) where
  abbrev x : Gate
  x = slice_index_or gates k d

  abbrev next : ℕ
  next = k + 1

  length-next : length (take next gates) ≡ k + 1
  length-next = omega (arith, length-take next gates)

  place_same : (v : ℕ) → v ≡ x.v → IsPlace (take next gates) v next
  place_same v e = record {
    none = λ z. absurd (omega arith);
    some = λ j s. let same : j ≡ k = omega arith in
        (omega (arith, length-next), λ c. ap (λ i. (slice_index_or (take next gates) i c).v) same ∙ ap (λ y. y.v) (get_or-take next gates k c (omega arith) ∙ get_or_at c) ∙ sym e);
  }
    where
      get_or_at : (c : Gate) → get_or gates k c ≡ get_or gates k d
      get_or_at c = get_or_default gates k c d below

  place_other : (v n : ℕ) → v ≢ x.v → IsPlace (take k gates) v n → IsPlace (take next gates) v n
  place_other v n ne p = record {
    none = λ z. All-more (λ y. y.v ≢ v) gates k d below (p.none z) (λ e. ne (sym e));
    some = λ j s. let r = p.some j s in
        let l = r.0 in
        let short : j < k = omega (arith, length-take k gates) in
        (omega (arith, length-next), λ c. ap (λ y. y.v) (get_or-take next gates j c (omega arith) ∙ sym (get_or-take k gates j c short)) ∙ r.1 c);
  }

  pub place_written : (m : ℕ) (table : List ℕ) → x.v ≤ m → IsTable m (IsPlace (take k gates)) table → IsTable m (IsPlace (take next gates)) (slice_set table x.v next)
  place_written m table low t =
      let size = t.0 in (
        length-set table x.v next ∙ size,
        λ v l. ⊎_elim
            (λ e. subst (IsPlace (take next gates) v) (sym (ap (λ i. slice_index (slice_set table x.v next) i) e ∙ get_or-set_same table x.v next 0 (omega arith))) (place_same v e))
            (λ ne. subst (IsPlace (take next gates) v) (sym (get_or-set_other table x.v v next 0 ne)) (place_other v (slice_index table v) ne (t.1 v l)))
            (cases_eq v x.v),
      )

-- ---- levels

-- so many gates have their levels
pub record LevelsWritten (m : ℕ) (gates : List Gate) (i : ℕ) (table : List ℕ) : Type 0 where
  pub size : length table ≡ m + 1
  pub settled : (v : ℕ) → v ≤ m → IsSettled gates (take i gates) v → IsLevel gates v (slice_index table v)
  pub few : (v : ℕ) → slice_index table v ≤ i

pub no_levels : (m : ℕ) (gates : List Gate) → LevelsWritten m gates 0 (replicate (m + 1) 0)
no_levels m gates = record { size = length-replicate (m + 1) 0; settled = λ v low s. subst (IsLevel gates v) (sym (zero_at (m + 1) v)) (⊎_elim (λ f. free v f) (λ c. let l = c.1 in absurd (omega arith)) s); few = λ v. omega (arith, zero_at (m + 1) v) }

module _ (m : ℕ) (gates : List Gate) (i : ℕ) (d : Gate) (below : i < length gates) (table : List ℕ) (w : LevelsWritten m gates i table) where
  abbrev y : Gate
  y = slice_index_or gates i d

  abbrev higher : ℕ
  higher = max (slice_index table (variable_of y.left)) (slice_index table (variable_of y.right)) + 1

  high : higher ≤ i + 1
  high = let l = w.few (variable_of y.left) in let r = w.few (variable_of y.right) in omega arith

  is_above : (v : ℕ) → v ≡ y.v → variable_of y.left ≤ m → variable_of y.right ≤ m → IsOrdered gates → IsLevel gates v higher
  is_above v e left right o =
      let l = w.settled (variable_of y.left) left (o.left i d below) in
      let r = w.settled (variable_of y.right) right (o.right i d below) in
      let same : suc (max (slice_index table (variable_of y.left)) (slice_index table (variable_of y.right))) ≡ higher = omega arith in
      subst (λ u. IsLevel gates u higher) (sym e) (subst (IsLevel gates y.v) same (above y _ _ (Contains-get_or gates i d below) l r))

  before : (v : ℕ) → v ≢ y.v → IsSettled gates (take (i + 1) gates) v → IsSettled gates (take i gates) v
  before v n (inl f) = inl f
  before v n (inr k) =
      ⊎_elim inr (λ e. absurd (n (sym e))) (Contains-push_cases (map (λ z. z.v) (take i gates)) y.v v
      (subst (λ vs. Contains vs v) (ap (map (λ z. z.v)) (take_more gates i d below) ∙ map_push (λ z. z.v) (take i gates) y) k))

  pub level_written : y.v ≤ m → variable_of y.left ≤ m → variable_of y.right ≤ m → IsOrdered gates → LevelsWritten m gates (i + 1) (slice_set table y.v higher)
  level_written own left right o =
      let size = w.size in
      record {
        size = length-set table y.v higher ∙ size;
        settled = λ v low s. ⊎_elim
            (λ e. subst (IsLevel gates v) (sym (ap (slice_index (slice_set table y.v higher)) e ∙ get_or-set_same table y.v higher 0 (omega arith))) (is_above v e left right o))
            (λ n. subst (IsLevel gates v) (sym (get_or-set_other table y.v v higher 0 n)) (w.settled v low (before v n s))) (cases_eq v y.v);
        few = λ v. ⊎_elim
            (λ e. let h = high in let r = ap (slice_index (slice_set table y.v higher)) e ∙ get_or-set_same table y.v higher 0 (omega arith) in omega arith)
            (λ n. let f = w.few v in let r = get_or-set_other table y.v v higher 0 n in omega arith) (cases_eq v y.v);
      }

pub all_levels : (m : ℕ) (gates : List Gate) (i : ℕ) (table : List ℕ) → length gates ≤ i → LevelsWritten m gates i table → IsTable m (IsLevel gates) table
all_levels m gates i table all w = (w.size, λ v low. w.settled v low (⊎_elim inl settled (free_or_some gates v)))
  where
    contains_map : (xs : List Gate) (x : Gate) → Contains xs x → Contains (map (λ z. z.v) xs) x.v
    contains_map xs x h = let l = h.1 in (h.0, omega (arith, length-map xs (λ z. z.v)), get_or-map (λ z. z.v) xs h.0 x x.v l ∙ ap (λ z. z.v) h.2)

    settled : {v : ℕ} → (x : Gate) × Contains gates x × (x.v ≡ v) → IsSettled gates (take i gates) v
    settled {v} r = rw (take_all i gates all) (inr (subst (Contains (map (λ z. z.v) gates)) r.2 (contains_map gates r.0 r.1)))

-- ---- readers

abbrev is_read : ℕ → Lit → Bool
is_read v l = variable_of l == v

-- a count is at most the number of literals
pub count_low : (read : List Lit) (table : List ℕ) (v : ℕ) → v < length table → AreCounts read table → slice_index table v ≤ length read
count_low read table v low c = let few = count_by-le-length (is_read v) read in let same = c v low in omega arith

pub length-gates_read : (gates : List Gate) → length (gates_read gates) ≡ 2 * length gates
length-gates_read [] = refl
length-gates_read (x ∷ gates) = let r = length-gates_read gates in omega arith

pub gates_read_more : (front : List Lit) (gates : List Gate) (i : ℕ) (d : Gate) → i < length gates →
    ((front ++ gates_read (take i gates)) ++ (slice_index_or gates i d).left ∷ []) ++ (slice_index_or gates i d).right ∷ [] ≡ front ++ gates_read (take (i + 1) gates)
gates_read_more front gates i d below =
    append_assoc (front ++ gates_read (take i gates)) ((slice_index_or gates i d).left ∷ []) ((slice_index_or gates i d).right ∷ []) ∙
    flat_map_more (λ x. x.left ∷ x.right ∷ []) front (take i gates) (slice_index_or gates i d) ∙ ap (λ gs. front ++ gates_read gs) (sym (take_more gates i d below))
