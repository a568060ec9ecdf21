-- What a walk says of levels: done variables have one, and a path that comes back to itself has none.
use Rattle.std.specs.Prelude.{◌≡◌, ◌≢◌, ℕ, zero, suc, ◌+◌, ◌-◌, ◌<◌, ◌≤◌, max, List, [], map, take, length, slice_index_or}
use Rattle.std.specs.List.{All, AllPairs, Contains}
use Rattle.std.proofs.Common.{refl, sym, ap, subst, ◌∙◌, arith, inl, inr, ⊎_elim}
use Rattle.std.proofs.lemmas.List.{length-map, length-take, get_or-map, get_or-take}
use Rattle.std.proofs.lemmas.List.Elements.{All-contains, Contains-get_or}
use Rattle.graph_core.specs.declared.gate.Gate.{Gate}
use Rattle.graph_core.specs.declared.graph.schedule.Mark.{Mark}
use Rattle.graph_core.specs.declared.graph.schedule.Mark.TheVariants.{New, Open, Done}
use Rattle.graph_core.specs.Graph.Literals.{variable_of}
use Rattle.graph_core.specs.Graph.{IsLevel, free, above}
use Rattle.graph_core.specs.Aiger.Refusal.{HasLevel}
use Rattle.graph_core.specs.Graph.Tables.{IsSettled, IsSchedule}
use Rattle.graph_core.specs.Graph.Walk.{Visits, AreVisits, FitsPlaces, ReadsVariable, mark_of}
use Rattle.graph_core.proofs.OfGraphs.Levels.{contains_in, distinct_from, distinct_same, level_inverted, not_free, one_level}
use Rattle.graph_core.proofs.OfGraphs.TableLemmas.{scheduled_left, scheduled_right}
use Rattle.graph_core.proofs.OfGraphs.WellFormedGates.{free_or_some}
use Rattle.graph_core.proofs.OfGraphs.WalkSteps.{contains_variable, variable_contained}

-- a variable that a gate reads has a lower level
reads_lower : (gates : List Gate) → AllPairs ◌≢◌ (map (λ x. x.v) gates) → (x : Gate) (u k : ℕ) → Contains gates x → ReadsVariable x u → IsLevel gates x.v k → (m : ℕ) × IsLevel gates u m × (m < k)
reads_lower gates apart x u k some reads level = ⊎_elim (λ a. absurd (not_free gates x x.v (contains_in x gates some) refl a.0)) go (level_inverted gates x.v k level)
  where
    go : (y : Gate) × (i j : ℕ) × Contains gates y × (y.v ≡ x.v) × IsLevel gates (variable_of y.left) i × IsLevel gates (variable_of y.right) j × (k ≡ suc (max i j)) → (m : ℕ) × IsLevel gates u m × (m < k)
    go (y, i, j, c, e, l, r, q) =
        let same : y ≡ x = distinct_same gates (distinct_from gates apart) x y (contains_in x gates some) (contains_in y gates c) (sym e) in
        ⊎_elim
        (λ h. (i, subst (λ v. IsLevel gates v i) (ap (λ z. variable_of z.left) same ∙ h) l, omega arith))
        (λ h. (j, subst (λ v. IsLevel gates v j) (ap (λ z. variable_of z.right) same ∙ h) r, omega arith)) reads

-- gates that stand after those that they read have levels
module _ (gates done : List Gate) (some : All (Contains gates) done) (left : (i : ℕ) (d : Gate) → i < length done → IsSettled gates (take i done) (variable_of (slice_index_or done i d).left))
    (right : (i : ℕ) (d : Gate) → i < length done → IsSettled gates (take i done) (variable_of (slice_index_or done i d).right)) where
  settled_has : (before : List Gate) (v : ℕ) → ((y : Gate) → Contains before y → HasLevel gates y.v) → IsSettled gates before v → HasLevel gates v
  settled_has before v all (inl f) = (0, free v f)
  settled_has before v all (inr c) = let y = variable_contained before v c in subst (HasLevel gates) y.2 (all y.0 y.1)

  gate_has : (n i : ℕ) (d : Gate) → i < n → i < length done → HasLevel gates (slice_index_or done i d).v
  gate_has zero i d low within = absurd (omega arith)
  gate_has (suc n) i d low within =
      let before : (y : Gate) → Contains (take i done) y → HasLevel gates y.v = λ y c.
      let size = length-take i done in
      let short = c.1 in
      let e : slice_index_or done c.0 y ≡ y = sym (get_or-take i done c.0 y (omega arith)) ∙ c.2 in
      subst (λ z. HasLevel gates z.v) e (gate_has n c.0 y (omega arith) (omega arith)) in
      let l = settled_has (take i done) (variable_of (slice_index_or done i d).left) before (left i d within) in
      let r = settled_has (take i done) (variable_of (slice_index_or done i d).right) before (right i d within) in
      (suc (max l.0 r.0), above (slice_index_or done i d) l.0 r.0 (some i d within) l.1 r.1)

  pub settled_levels : (v : ℕ) → IsSettled gates done v → HasLevel gates v
  settled_levels v s = settled_has done v (λ y c. let short = c.1 in subst (λ z. HasLevel gates z.v) c.2 (gate_has (length done) c.0 y (omega arith) (omega arith))) s

pub schedule_levels : (gates schedule : List Gate) → IsSchedule gates schedule → (v : ℕ) → HasLevel gates v
schedule_levels gates schedule order v =
    settled_levels gates schedule order.some (λ i d l. scheduled_left gates schedule i d order l) (λ i d l. scheduled_right gates schedule i d order l) v
    (⊎_elim inl (λ r. inr (subst (Contains (map (λ y. y.v) schedule)) r.2 (contains_variable schedule r.0 (All-contains (Contains schedule) gates r.0 order.all r.1)))) (free_or_some gates v))

module _ (w : Visits) (is : AreVisits w) where
  -- along the path levels fall
  descends : (d : Gate) (i n k : ℕ) → i + n < length w.path → IsLevel w.gates (slice_index_or w.path i d).v k → (m : ℕ) × IsLevel w.gates (slice_index_or w.path (i + n) d).v m × (m + n ≤ k)
  descends d i zero k below level = let e : i ≡ i + 0 = omega arith in (k, subst (λ j. IsLevel w.gates (slice_index_or w.path j d).v k) e level, omega arith)
  descends d i (suc n) k below level =
      let upper = descends d i n k (omega arith) level in
      let next : i + n + 1 ≡ i + suc n = omega arith in
      let lower = reads_lower w.gates is.distinct (slice_index_or w.path (i + n) d) (slice_index_or w.path (i + n + 1) d).v upper.0 (is.on_path (i + n) d (omega arith)) (is.chain (i + n) d (omega arith)) upper.1 in
      let high = upper.2 in
      let low = lower.2 in
      (lower.0, subst (λ j. IsLevel w.gates (slice_index_or w.path j d).v lower.0) next lower.1, omega arith)

  -- where the last gate of the path reads a variable of the path, the first has no level
  pub no_level : (d x : Gate) (u : ℕ) → 0 < length w.path → slice_index_or w.path (length w.path - 1) d ≡ x → ReadsVariable x u → mark_of w u ≡ Open → HasLevel w.gates (slice_index_or w.path 0 d).v → ⊥
  no_level d x u some last reads marked level =
      let at = is.opened u marked in
      let i : ℕ = at.0 in
      let size = length-map w.path (λ y. y.v) in
      let low = at.1 in
      let within : i < length w.path = omega arith in
      let here : (slice_index_or w.path i d).v ≡ u = sym (get_or-map (λ y. y.v) w.path i d u within) ∙ at.2 in
      let first = descends d 0 i level.0 (omega arith) level.1 in
      let reached : 0 + i ≡ i = omega arith in
      let up : IsLevel w.gates (slice_index_or w.path i d).v first.0 = subst (λ j. IsLevel w.gates (slice_index_or w.path j d).v first.0) reached first.1 in
      let second = descends d i (length w.path - 1 - i) first.0 (omega arith) up in
      let end : i + (length w.path - 1 - i) ≡ length w.path - 1 = omega arith in
      let down : IsLevel w.gates x.v second.0 = subst (λ y. IsLevel w.gates y.v second.0) last (subst (λ j. IsLevel w.gates (slice_index_or w.path j d).v second.0) end second.1) in
      let on : Contains w.gates x = subst (Contains w.gates) last (is.on_path (length w.path - 1) d (omega arith)) in
      let back = reads_lower w.gates is.distinct x u second.0 on reads down in
      let one = (one_level w.gates is.distinct (slice_index_or w.path i d).v first.0 up).1 back.0 (subst (λ v. IsLevel w.gates v back.0) (sym here) back.1) in
      let high = second.2 in
      let less = back.2 in
      omega arith

  pub path_fits : (x : Gate) → Contains w.path x → FitsPlaces (length w.marks) x
  path_fits x c = All-contains (FitsPlaces (length w.marks)) w.gates x is.in_range (All-contains (Contains w.gates) w.path x is.on_path c)

  pub done_has : (v : ℕ) → mark_of w v ≡ Done → HasLevel w.gates v
  done_has v h = settled_levels w.gates w.schedule is.some is.left is.right v (is.done v h)

  -- what was reached is done once the path is empty
  pub reached_done : w.path ≡ [] → (v : ℕ) → mark_of w v ≢ New → mark_of w v ≡ Done
  reached_done path v n = go (mark_of w v) refl
    where
      go : (m : Mark) → mark_of w v ≡ m → mark_of w v ≡ Done
      go New e = absurd (n e)
      go Open e = let at = subst (λ p. Contains (map (λ y. y.v) p) v) path (is.opened v e) in let low = at.1 in absurd (omega arith)
      go Done e = e

  settled_itself : (done : List Gate) (v : ℕ) → IsSettled w.gates done v → IsSettled w.schedule done v
  settled_itself done v (inl f) = inl (λ k d l. All-contains (λ x. x.v ≢ v) w.gates (slice_index_or w.schedule k d) f (is.some k d l))
  settled_itself done v (inr c) = inr c

  pub finished : ((v : ℕ) → v < length w.marks → mark_of w v ≡ Done) → IsSchedule w.gates w.schedule
  finished all = record {
    some = is.some;
    all = λ k d l. whole (slice_index_or w.gates k d) (Contains-get_or w.gates k d l) (is.done (slice_index_or w.gates k d).v (all (slice_index_or w.gates k d).v (is.in_range k d l).own));
    once = is.once;
    ordered = record {
      left = λ i d l. settled_itself (take i w.schedule) (variable_of (slice_index_or w.schedule i d).left) (is.left i d l);
      right = λ i d l. settled_itself (take i w.schedule) (variable_of (slice_index_or w.schedule i d).right) (is.right i d l);
    };
  }
    where
      whole : (x : Gate) → Contains w.gates x → IsSettled w.gates w.schedule x.v → Contains w.schedule x
      whole x c (inl f) = absurd (All-contains (λ y. y.v ≢ x.v) w.gates x f c refl)
      whole x c (inr h) =
          let y = variable_contained w.schedule x.v h in
          let on : Contains w.gates y.0 = All-contains (Contains w.gates) w.schedule y.0 is.some y.1 in
          subst (Contains w.schedule) (distinct_same w.gates (distinct_from w.gates is.distinct) x y.0 (contains_in x w.gates c) (contains_in y.0 w.gates on) (sym y.2)) y.1
