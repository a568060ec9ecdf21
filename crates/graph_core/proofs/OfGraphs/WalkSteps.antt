-- The steps of a walk over gates keep what is known of it.
use Rattle.std.specs.Prelude.{◌≡◌, ◌≢◌, ℕ, zero, suc, ◌+◌, ◌-◌, ◌<◌, ◌≤◌, List, [], ◌∷◌, ◌++◌, map, take, length, slice_get, Some, None, slice_index_or, slice_set, get_or, Bool, true, false, cond, ◌==◌}
use Rattle.std.specs.List.{All, AllPairs, Contains, sum_by}
use Rattle.std.proofs.Common.{refl, sym, ap, ap₂, subst, ◌∙◌, arith, inl, inr, ⊎_elim, length-set, length-append, get_or-set_same, get_or-set_other, eq-eqb, eqb-true}
use Rattle.std.proofs.lemmas.Bool.{cases_eq}
use Rattle.std.proofs.lemmas.List.{length-map, map_push, get_or-map, get_or_append_left, get_or_push, get_or_read, get_or-take, length-take, take-append-le, take_at, take_all, take_more, get_or_past}
use Rattle.std.proofs.lemmas.Option.{slice_get_within, slice_get-get_or, get_or_from_slice_get}
use Rattle.std.proofs.lemmas.List.Sums.{sum_by-set}
use Rattle.std.proofs.lemmas.List.Elements.{All-nil, All-contains, All-push, Contains-get_or, Contains-push, Contains-push_cases, Contains-append_left}
use Rattle.std.proofs.lemmas.List.Quantifiers.{all_pairs_push}
use Rattle.graph_core.specs.declared.gate.Gate.{Gate}
use Rattle.graph_core.specs.declared.graph.schedule.Mark.{Mark}
use Rattle.graph_core.specs.declared.graph.schedule.Mark.TheVariants.{New, Open, Done}
use Rattle.graph_core.specs.Graph.Literals.{variable_of}
use Rattle.graph_core.specs.Graph.{IsFree, IsGateOf}
use Rattle.graph_core.specs.Aiger.Refusal.{HasLevel}
use Rattle.graph_core.specs.Graph.Tables.{IsSettled}
use Rattle.graph_core.specs.Graph.Walk.{Visits, AreVisits, FitsPlaces, AreGatePlaces, ReadsVariable, KeepsReached, mark_of, first_mark, entered, left}
use Rattle.graph_core.proofs.OfGraphs.TableLemmas.{place_read}
use Rattle.graph_core.proofs.OfGraphs.WrittenValues.{below_or_not}

-- ---- lists

pub contains_variable : (xs : List Gate) (x : Gate) → Contains xs x → Contains (map (λ y. y.v) xs) x.v
contains_variable xs x h = let l = h.1 in (h.0, omega (arith, length-map xs (λ y. y.v)), get_or-map (λ y. y.v) xs h.0 x x.v l ∙ ap (λ y. y.v) h.2)

pub variable_contained : (xs : List Gate) (v : ℕ) → Contains (map (λ y. y.v) xs) v → (x : Gate) × Contains xs x × (x.v ≡ v)
variable_contained xs v h =
    let d : Gate = record { v = v; left = record { 0 = 0 }; right = record { 0 = 0 } } in
    let l = h.1 in
    let within : h.0 < length xs = omega (arith, length-map xs (λ y. y.v)) in
    (get_or xs h.0 d, Contains-get_or xs h.0 d within, sym (get_or-map (λ y. y.v) xs h.0 d v within) ∙ h.2)

all_front : {X : Type 0} (P : X → Type 0) (xs ys : List X) → All P (xs ++ ys) → All P xs
all_front P xs ys h k d l = subst P (get_or_append_left xs ys d k l) (h k d (omega (arith, length-append xs ys)))

pairs_front : {X : Type 0} (R : X → X → Type 0) (xs ys : List X) → AllPairs R (xs ++ ys) → AllPairs R xs
pairs_front R xs ys h i j d below within =
    let first = get_or_append_left xs ys d i (omega arith) in
    let second = get_or_append_left xs ys d j within in
    subst (R (get_or xs i d)) second (subst (λ z. R z (get_or (xs ++ ys) j d)) first (h i j d below (omega (arith, length-append xs ys))))

variables_pushed : (xs : List Gate) (x : Gate) → AllPairs ◌≢◌ (map (λ y. y.v) xs) → All (λ y. y.v ≢ x.v) xs → AllPairs ◌≢◌ (map (λ y. y.v) (xs ++ x ∷ []))
variables_pushed xs x h other =
    subst (AllPairs ◌≢◌) (sym (map_push (λ y. y.v) xs x))
    (all_pairs_push ◌≢◌ (map (λ y. y.v) xs) x.v h
    (λ k d l. let e : Gate = x in let within : k < length xs = omega (arith, length-map xs (λ y. y.v)) in
    λ same. other k e within (sym (get_or-map (λ y. y.v) xs k e d within) ∙ same)))

-- ---- marks

new_open : {m : Mark} → m ≡ New → m ≡ Open → ⊥
new_open a b = cc

new_done : {m : Mark} → m ≡ New → m ≡ Done → ⊥
new_done a b = cc

open_done : {m : Mark} → m ≡ Open → m ≡ Done → ⊥
open_done a b = cc

module _ (w : Visits) (is : AreVisits w) (x : Gate) (some : Contains w.gates x) where
  abbrev marked : Mark → ℕ → Mark
  marked m v = slice_index_or (slice_set w.marks x.v m) v Done

  own_fits : x.v < length w.marks
  own_fits = (All-contains (FitsPlaces (length w.marks)) w.gates x is.in_range some).own

  pub marked_here : (m : Mark) (v : ℕ) → v ≡ x.v → marked m v ≡ m
  marked_here m v e = ap (marked m) e ∙ get_or-set_same w.marks x.v m Done own_fits

  pub marked_other : (m : Mark) (v : ℕ) → v ≢ x.v → marked m v ≡ mark_of w v
  marked_other m v n = get_or-set_other w.marks x.v v m Done n

  still_in_range : (m : Mark) → All (FitsPlaces (length (slice_set w.marks x.v m))) w.gates
  still_in_range m = subst (λ n. All (FitsPlaces n) w.gates) (sym (length-set w.marks x.v m)) is.in_range

  still_free : (m : Mark) (v : ℕ) → IsFree w.gates v → marked m v ≡ Done
  still_free m v f = marked_other m v (λ e. All-contains (λ y. y.v ≢ v) w.gates x f some (sym e)) ∙ is.free v f

  -- gates whose mark differs from that of x have other variables, and their marks stay
  all_still : (m old : Mark) (gates : List Gate) → (mark_of w x.v ≡ old → ⊥) → All (λ y. mark_of w y.v ≡ old) gates → All (λ y. marked m y.v ≡ old) gates
  all_still m old gates n h k d l = marked_other m (slice_index_or gates k d).v (λ e. n (ap (mark_of w) (sym e) ∙ h k d l)) ∙ h k d l

  others : (old : Mark) (gates : List Gate) → (mark_of w x.v ≡ old → ⊥) → All (λ y. mark_of w y.v ≡ old) gates → All (λ y. y.v ≢ x.v) gates
  others old gates n h k d l e = n (ap (mark_of w) (sym e) ∙ h k d l)

  module _ (new : mark_of w x.v ≡ New) (read : (d : Gate) → 0 < length w.path → ReadsVariable (slice_index_or w.path (length w.path - 1) d) x.v) where
    entered_done : (v : ℕ) → marked Open v ≡ Done → IsSettled w.gates w.schedule v
    entered_done v h = ⊎_elim (λ e. absurd (open_done (marked_here Open v e) h)) (λ n. is.done v (sym (marked_other Open v n) ∙ h)) (cases_eq v x.v)

    entered_opened : (v : ℕ) → marked Open v ≡ Open → Contains (map (λ y. y.v) (w.path ++ x ∷ [])) v
    entered_opened v h =
        subst (λ vs. Contains vs v) (sym (map_push (λ y. y.v) w.path x))
        (⊎_elim (λ e. subst (Contains (map (λ y. y.v) w.path ++ x.v ∷ [])) (sym e) (Contains-push (map (λ y. y.v) w.path) x.v))
        (λ n. Contains-append_left (map (λ y. y.v) w.path) (x.v ∷ []) v (is.opened v (sym (marked_other Open v n) ∙ h))) (cases_eq v x.v))

    entered_chain : (i : ℕ) (d : Gate) → i + 1 < length (w.path ++ x ∷ []) → ReadsVariable (slice_index_or (w.path ++ x ∷ []) i d) (slice_index_or (w.path ++ x ∷ []) (i + 1) d).v
    entered_chain i d below =
        let size = length-append w.path (x ∷ []) in
        let before = get_or_append_left w.path (x ∷ []) d i (omega arith) in
        ⊎_elim
        (λ e. let last = get_or_push w.path x d (i + 1) (sym e) in
        let at : length w.path - 1 ≡ i = omega arith in
        subst (λ y. ReadsVariable (slice_index_or (w.path ++ x ∷ []) i d) y.v) (sym last) (subst (λ y. ReadsVariable y x.v) (sym before) (subst (λ k. ReadsVariable (slice_index_or w.path k d) x.v) at (read d (omega arith)))))
        (λ n. let within : i + 1 < length w.path = omega arith in
        let next = get_or_append_left w.path (x ∷ []) d (i + 1) within in
        subst (λ y. ReadsVariable (slice_index_or (w.path ++ x ∷ []) i d) y.v) (sym next) (subst (λ y. ReadsVariable y (slice_index_or w.path (i + 1) d).v) (sym before) (is.chain i d within)))
        (cases_eq (i + 1) (length w.path))

    pub visits_entered : AreVisits (entered w x)
    visits_entered = record {
      in_range = still_in_range Open;
      distinct = is.distinct;
      free = still_free Open;
      done = entered_done;
      some = is.some;
      scheduled = all_still Open Done w.schedule (λ e. new_done new e) is.scheduled;
      once = is.once;
      left = is.left;
      right = is.right;
      on_path = All-push (Contains w.gates) w.path x is.on_path some;
      «open» = All-push (λ y. marked Open y.v ≡ Open) w.path x (all_still Open Open w.path (λ e. new_open new e) is.«open») (marked_here Open x.v refl);
      opened = entered_opened;
      apart = variables_pushed w.path x is.apart (others Open w.path (λ e. new_open new e) is.«open»);
      chain = entered_chain;
    }

-- the last gate of the path leaves it for the schedule
module _ (w : Visits) (is : AreVisits w) (front : List Gate) (x : Gate) (path : w.path ≡ front ++ x ∷ []) where
  whole : AllPairs ◌≢◌ (map (λ y. y.v) front ++ x.v ∷ [])
  whole = subst (AllPairs ◌≢◌) (ap (map (λ y. y.v)) path ∙ map_push (λ y. y.v) front x) is.apart

  pub last_on_path : Contains w.gates x
  last_on_path = All-contains (Contains w.gates) (front ++ x ∷ []) x (subst (All (Contains w.gates)) path is.on_path) (Contains-push front x)

  pub last_open : mark_of w x.v ≡ Open
  last_open = All-contains (λ y. mark_of w y.v ≡ Open) (front ++ x ∷ []) x (subst (All (λ y. mark_of w y.v ≡ Open)) path is.«open») (Contains-push front x)

  front_open : All (λ y. mark_of w y.v ≡ Open) front
  front_open = all_front (λ y. mark_of w y.v ≡ Open) front (x ∷ []) (subst (All (λ y. mark_of w y.v ≡ Open)) path is.«open»)

  front_other : All (λ y. y.v ≢ x.v) front
  front_other k d l e =
      let size = length-map front (λ y. y.v) in
      let total = length-append (map (λ y. y.v) front) (x.v ∷ []) in
      whole k (length front) 0 l (omega arith)
      (get_or_append_left (map (λ y. y.v) front) (x.v ∷ []) 0 k (omega arith) ∙ get_or-map (λ y. y.v) front k d 0 l ∙ e ∙ sym (get_or_push (map (λ y. y.v) front) x.v 0 (length front) size))

  left_still_open : All (λ y. marked w is x last_on_path Done y.v ≡ Open) front
  left_still_open k d l = marked_other w is x last_on_path Done (slice_index_or front k d).v (front_other k d l) ∙ front_open k d l

  left_opened : (v : ℕ) → marked w is x last_on_path Done v ≡ Open → Contains (map (λ y. y.v) front) v
  left_opened v h =
      ⊎_elim (λ e. absurd (open_done h (marked_here w is x last_on_path Done v e)))
      (λ n. ⊎_elim (λ c. c) (λ e. absurd (n (sym e))) (Contains-push_cases (map (λ y. y.v) front) x.v v
      (subst (λ vs. Contains vs v) (ap (map (λ y. y.v)) path ∙ map_push (λ y. y.v) front x) (is.opened v (sym (marked_other w is x last_on_path Done v n) ∙ h))))) (cases_eq v x.v)

  left_chain : (i : ℕ) (d : Gate) → i + 1 < length front → ReadsVariable (slice_index_or front i d) (slice_index_or front (i + 1) d).v
  left_chain i d below =
      let size = length-append front (x ∷ []) in
      let before = ap (λ p. slice_index_or p i d) path ∙ get_or_append_left front (x ∷ []) d i (omega arith) in
      let next = ap (λ p. slice_index_or p (i + 1) d) path ∙ get_or_append_left front (x ∷ []) d (i + 1) below in
      subst (λ y. ReadsVariable (slice_index_or front i d) y.v) next (subst (λ y. ReadsVariable y (slice_index_or w.path (i + 1) d).v) before (is.chain i d (omega (arith, ap length path))))

  left_settled : (v : ℕ) → IsSettled w.gates w.schedule v → IsSettled w.gates (w.schedule ++ x ∷ []) v
  left_settled v (inl f) = inl f
  left_settled v (inr c) = inr (subst (λ vs. Contains vs v) (sym (map_push (λ y. y.v) w.schedule x)) (Contains-append_left (map (λ y. y.v) w.schedule) (x.v ∷ []) v c))

  left_done : (v : ℕ) → marked w is x last_on_path Done v ≡ Done → IsSettled w.gates (w.schedule ++ x ∷ []) v
  left_done v h =
      ⊎_elim (λ e. inr (subst (Contains (map (λ y. y.v) (w.schedule ++ x ∷ []))) (sym e) (contains_variable (w.schedule ++ x ∷ []) x (Contains-push w.schedule x))))
      (λ n. left_settled v (is.done v (sym (marked_other w is x last_on_path Done v n) ∙ h))) (cases_eq v x.v)

  -- what a scheduled gate reads stands before it
  behind : (side : Gate → ℕ) → ((i : ℕ) (d : Gate) → i < length w.schedule → IsSettled w.gates (take i w.schedule) (side (slice_index_or w.schedule i d))) → mark_of w (side x) ≡ Done →
      (i : ℕ) (d : Gate) → i < length (w.schedule ++ x ∷ []) → IsSettled w.gates (take i (w.schedule ++ x ∷ [])) (side (slice_index_or (w.schedule ++ x ∷ []) i d))
  behind side old here i d below =
      let size = length-append w.schedule (x ∷ []) in
      ⊎_elim
      (λ e. let last = get_or_push w.schedule x d i (sym e) in
      subst (λ y. IsSettled w.gates (take i (w.schedule ++ x ∷ [])) (side y)) (sym last)
      (subst (λ zs. IsSettled w.gates zs (side x)) (sym (take_at w.schedule (x ∷ []) i (sym e))) (is.done (side x) here)))
      (λ n. let within : i < length w.schedule = omega arith in
      subst (λ y. IsSettled w.gates (take i (w.schedule ++ x ∷ [])) (side y)) (sym (get_or_append_left w.schedule (x ∷ []) d i within))
      (subst (λ zs. IsSettled w.gates zs (side (slice_index_or w.schedule i d))) (sym (take-append-le i w.schedule (x ∷ []) (omega arith))) (old i d within)))
      (cases_eq i (length w.schedule))

  pub visits_left : mark_of w (variable_of x.left) ≡ Done → mark_of w (variable_of x.right) ≡ Done → AreVisits (left w front x)
  visits_left first second = record {
    in_range = still_in_range w is x last_on_path Done;
    distinct = is.distinct;
    free = still_free w is x last_on_path Done;
    done = left_done;
    some = All-push (Contains w.gates) w.schedule x is.some last_on_path;
    scheduled = All-push (λ y. marked w is x last_on_path Done y.v ≡ Done) w.schedule x (all_still w is x last_on_path Done Done w.schedule (λ e. open_done last_open e) is.scheduled) (marked_here w is x last_on_path Done x.v refl);
    once = variables_pushed w.schedule x is.once (others w is x last_on_path Done w.schedule (λ e. open_done last_open e) is.scheduled);
    left = behind (λ y. variable_of y.left) is.left first;
    right = behind (λ y. variable_of y.right) is.right second;
    on_path = all_front (Contains w.gates) front (x ∷ []) (subst (All (Contains w.gates)) path is.on_path);
    «open» = left_still_open;
    opened = left_opened;
    apart = pairs_front ◌≢◌ (map (λ y. y.v) front) (x.v ∷ []) whole;
    chain = left_chain;
  }

-- the gate of a variable that isn't reached yet
pub new_gate : (w : Visits) (places : List ℕ) (v : ℕ) → AreVisits w → AreGatePlaces w.gates (length w.marks) places → v < length w.marks → mark_of w v ≡ New →
    (get_or places v 0 - 1 < length w.gates) × ((d : Gate) → IsGateOf w.gates v (get_or w.gates (get_or places v 0 - 1) d))
new_gate w places v is table low new =
    let place = table.each v low in
    let some : get_or places v 0 ≢ 0 = λ z. new_done new (is.free v (place.none z)) in
    let read = place_read w.gates v (get_or places v 0) place some in
    (read.0, λ d. (Contains-get_or w.gates (get_or places v 0 - 1) d read.0, read.1 d))

pub split_last : (xs : List Gate) (x : Gate) → 0 < length xs → ((d : Gate) → get_or xs (length xs - 1) d ≡ x) → xs ≡ take (length xs - 1) xs ++ x ∷ []
split_last xs x some last =
    let here : length xs - 1 + 1 ≡ length xs = omega arith in
    sym (take_all (length xs) xs (omega arith)) ∙ ap (λ n. take n xs) (sym here) ∙ take_more xs (length xs - 1) x (omega arith) ∙ ap (λ y. take (length xs - 1) xs ++ y ∷ []) (last x)

-- before the first gate
module _ (gates : List Gate) (places : List ℕ) (fits : All (FitsPlaces (length places)) gates) (distinct : AllPairs ◌≢◌ (map (λ x. x.v) gates)) (table : AreGatePlaces gates (length places) places) where
  abbrev before : Visits
  before = record { gates = gates; marks = map first_mark places; path = []; schedule = [] }

  done_first : (n : ℕ) → n ≡ 0 → first_mark n ≡ Done
  done_first n e = ap (λ b. cond b Done New) (eq-eqb n 0 e)

  zero_first : (n : ℕ) → first_mark n ≡ Done → n ≡ 0
  zero_first n h = go (n == 0) refl h
    where
      go : (b : Bool) → (n == 0) ≡ b → cond b Done New ≡ Done → n ≡ 0
      go true e f = eqb-true n 0 e
      go false e f = absurd (new_done refl f)

  open_first : (n : ℕ) → first_mark n ≡ Open → ⊥
  open_first n h = go (n == 0) h
    where
      go : (b : Bool) → cond b Done New ≡ Open → ⊥
      go true f = open_done refl (sym f)
      go false f = new_open refl f

  mark_at : (v : ℕ) → v < length places → mark_of before v ≡ first_mark (get_or places v 0)
  mark_at v low = get_or-map first_mark places v 0 Done low

  mark_past : (v : ℕ) → length places ≤ v → mark_of before v ≡ Done
  mark_past v high = get_or_past (map first_mark places) v Done (omega (arith, length-map places first_mark))

  first_free : (v : ℕ) → IsFree gates v → mark_of before v ≡ Done
  first_free v f =
      ⊎_elim (λ low. mark_at v low ∙ done_first (get_or places v 0) (no_place f low (get_or places v 0) refl)) (mark_past v) (below_or_not v (length places))
    where
      no_place : {u : ℕ} → IsFree gates u → u < length places → (n : ℕ) → get_or places u 0 ≡ n → get_or places u 0 ≡ 0
      no_place f low zero e = e
      no_place {u} f low (suc k) e = let r = (table.each u low).some k e in let d : Gate = record { v = 0; left = record { 0 = 0 }; right = record { 0 = 0 } } in absurd (f k d r.0 (r.1 d))

  first_done : (v : ℕ) → mark_of before v ≡ Done → IsSettled gates [] v
  first_done v h =
      inl (⊎_elim (λ low. (table.each v low).none (zero_first (get_or places v 0) (sym (mark_at v low) ∙ h)))
      (λ high. λ k d l. let own = (fits k d l).own in omega arith) (below_or_not v (length places)))

  pub visits_before : AreVisits before
  visits_before = record {
    in_range = subst (λ n. All (FitsPlaces n) gates) (sym (length-map places first_mark)) fits;
    distinct = distinct;
    free = first_free;
    done = first_done;
    some = All-nil (Contains gates);
    scheduled = All-nil (λ x. mark_of before x.v ≡ Done);
    once = λ i j d a b. absurd (omega arith);
    left = λ i d l. absurd (omega arith);
    right = λ i d l. absurd (omega arith);
    on_path = All-nil (Contains gates);
    «open» = All-nil (λ x. mark_of before x.v ≡ Open);
    opened = λ v h. absurd (⊎_elim (λ low. open_first (get_or places v 0) (sym (mark_at v low) ∙ h)) (λ high. open_done h (mark_past v high)) (below_or_not v (length places)));
    apart = λ i j d a b. absurd (omega arith);
    chain = λ i d l. absurd (omega arith);
  }

-- ---- what the calls leave

pub sized : {gates : List Gate} {places : List ℕ} (marks : List Mark) (v : ℕ) (m : Mark) → AreGatePlaces gates (length marks) places → AreGatePlaces gates (length (slice_set marks v m)) places
sized {gates} {places} marks v m h = subst (λ n. AreGatePlaces gates n places) (sym (length-set marks v m)) h

module _ (w : Visits) (places : List ℕ) (v : ℕ) (d : Gate) (path : List Gate) (is : AreVisits w) (table : AreGatePlaces w.gates (length w.marks) places) (low : v < length w.marks) (new : mark_of w v ≡ New)
    (pushed : path ≡ w.path ++ get_or w.gates (get_or places v 0 - 1) d ∷ []) where
  is_gate : IsGateOf w.gates v (get_or w.gates (get_or places v 0 - 1) d)
  is_gate = (new_gate w places v is table low new).1 d

  pub is_entered : (x : Gate) × IsGateOf w.gates v x × (record { gates = w.gates; marks = slice_set w.marks v Open; path = path; schedule = w.schedule } ≡ entered w x)
  is_entered = (
    get_or w.gates (get_or places v 0 - 1) d,
    is_gate,
    ap₂ (λ u p. record { gates = w.gates; marks = slice_set w.marks u Open; path = p; schedule = w.schedule }) (sym is_gate.1) pushed,
  )

  pub enter_keeps : ((e : Gate) → 0 < length w.path → ReadsVariable (slice_index_or w.path (length w.path - 1) e) v) → AreVisits (record { gates = w.gates; marks = slice_set w.marks v Open; path = path; schedule = w.schedule })
  enter_keeps read =
      let x = is_entered.0 in
      let same : x.v ≡ v = is_entered.1.1 in
      subst AreVisits (sym is_entered.2)
      (visits_entered w is x is_entered.1.0 (ap (mark_of w) same ∙ new) (λ e some. subst (ReadsVariable (slice_index_or w.path (length w.path - 1) e)) (sym same) (read e some)))

-- ---- on the way

-- the last gate of a path, as it is read
pub record IsLast (path : List Gate) (x : Gate) : Type 0 where
  pub some : 0 < length path
  pub at : (d : Gate) → slice_index_or path (length path - 1) d ≡ x
  pub on : Contains path x

pub is_last : (path : List Gate) (x : Gate) → slice_get path (length path - 1) ≡ Some x → IsLast path x
is_last path x h =
    let below = slice_get_within path (length path - 1) x h in
    record {
      some = omega arith;
      at = λ d. get_or_from_slice_get path (length path - 1) x d h;
      on = (length path - 1, below, get_or_from_slice_get path (length path - 1) x x h);
    }

-- the same of a walk's path that a reference leads to
pub last_read : (inside w : Visits) (path : List Gate) (x : Gate) → path ≡ inside.path → inside ≡ w → slice_get path (length path - 1) ≡ Some x → IsLast w.path x
last_read inside w path x own same read = is_last w.path x (subst (λ p. slice_get p (length p - 1) ≡ Some x) (own ∙ ap (λ v. v.path) same) read)

-- a path without a last gate is empty
no_last : (path : List Gate) → slice_get path (length path - 1) ≡ None → path ≡ []
no_last [] h = refl
no_last (x ∷ xs) h = let some = slice_get-get_or (x ∷ xs) (length (x ∷ xs) - 1) x (omega arith) in cc

pub none_read : (inside w : Visits) (path : List Gate) → path ≡ inside.path → inside ≡ w → slice_get path (length path - 1) ≡ None → w.path ≡ []
none_read inside w path own same read = subst (λ p. p ≡ []) (own ∙ ap (λ v. v.path) same) (no_last path read)

-- the path has the gate that it began with
abbrev pub SameStart : Visits → Visits → Type 0
SameStart old new = (d : Gate) → 0 < length new.path → slice_index_or new.path 0 d ≡ slice_index_or old.path 0 d

pub goes_on_by_entering : (old w new : Visits) (x : Gate) → AreVisits w → Contains w.gates x → KeepsReached old w → new ≡ entered w x → KeepsReached old new
goes_on_by_entering old w new x is some on e = subst (KeepsReached old) (sym e) (record {
  gates = on.gates;
  size = length-set w.marks x.v Open ∙ on.size;
  reached = λ v n. ⊎_elim (λ same. λ fresh. new_open fresh (marked_here w is x some Open v same)) (λ other. λ fresh. on.reached v n (sym (marked_other w is x some Open v other) ∙ fresh)) (cases_eq v x.v);
})

pub start_by_entering : (old w new : Visits) (x : Gate) → 0 < length w.path → SameStart old w → new ≡ entered w x → SameStart old new
start_by_entering old w new x some start e = subst (SameStart old) (sym e) (λ d more. get_or_append_left w.path (x ∷ []) d 0 some ∙ start d some)

-- a step brings a mark closer to done
marks_fall : (f : Mark → ℕ) (marks : List Mark) (v : ℕ) (m : Mark) → v < length marks → f m < f (slice_index_or marks v Done) → sum_by f (slice_set marks v m) < sum_by f marks
marks_fall f marks v m low less = let sums = sum_by-set f marks v m Done low in omega arith

pub falls_by_entering : (f : Mark → ℕ) (w new : Visits) (x : Gate) → AreVisits w → Contains w.gates x → mark_of w x.v ≡ New → new ≡ entered w x → f Open < f New → sum_by f new.marks < sum_by f w.marks
falls_by_entering f w new x is some fresh e low = subst (λ v. sum_by f v.marks < sum_by f w.marks) (sym e) (marks_fall f w.marks x.v Open (own_fits w is x some) (subst (λ m. f Open < f m) (sym fresh) low))

-- the last gate of the path leaves it
module _ (old w new : Visits) (x : Gate) (is : AreVisits w) (on : Contains w.path x) (e : new ≡ left w (take (length w.path - 1) w.path) x) where
  here_open : mark_of w x.v ≡ Open
  here_open = All-contains (λ y. mark_of w y.v ≡ Open) w.path x is.«open» on

  here_some : Contains w.gates x
  here_some = All-contains (Contains w.gates) w.path x is.on_path on

  pub goes_on_by_leaving : KeepsReached old w → KeepsReached old new
  goes_on_by_leaving on = subst (KeepsReached old) (sym e) (record {
    gates = on.gates;
    size = length-set w.marks x.v Done ∙ on.size;
    reached = λ v n. ⊎_elim (λ same. λ fresh. new_done fresh (marked_here w is x here_some Done v same)) (λ other. λ fresh. on.reached v n (sym (marked_other w is x here_some Done v other) ∙ fresh)) (cases_eq v x.v);
  })

  pub start_by_leaving : SameStart old w → SameStart old new
  start_by_leaving start = subst (SameStart old) (sym e) (λ d more. let size = length-take (length w.path - 1) w.path in get_or-take (length w.path - 1) w.path 0 d (omega arith) ∙ start d (omega arith))

  pub falls_by_leaving : (f : Mark → ℕ) → f Done < f Open → sum_by f new.marks < sum_by f w.marks
  falls_by_leaving f low = subst (λ v. sum_by f v.marks < sum_by f w.marks) (sym e) (marks_fall f w.marks x.v Done (own_fits w is x here_some) (subst (λ m. f Done < f m) (sym here_open) low))

-- what is read of a mark
pub mark_read : (marks : List Mark) (v : ℕ) (m : Mark) → v < length marks → m ≡ get_or marks v m → slice_index_or marks v Done ≡ m
mark_read marks v m low read = sym (get_or_read marks v m low read Done)

-- a mark that is read and is none of the others
pub still_new : (inside w : Visits) (v : ℕ) (m : Mark) → inside ≡ w → v < length w.marks → m ≡ get_or inside.marks v m → m ≢ Open → mark_of w v ≢ Done → mark_of w v ≡ New
still_new inside w v m same low read shut undone = go (mark_of w v) refl
  where
    go : (n : Mark) → mark_of w v ≡ n → mark_of w v ≡ New
    go New e = e
    go Open e = absurd (shut (sym (mark_read w.marks v m low (subst (λ u. m ≡ get_or u.marks v m) same read)) ∙ e))
    go Done e = absurd (undone e)

pub reads_in_range : (n : ℕ) (x : Gate) (v : ℕ) → FitsPlaces n x → ReadsVariable x v → v < n
reads_in_range n x v fits (inl e) = let l = fits.left in omega arith
reads_in_range n x v fits (inr e) = let r = fits.right in omega arith

pub goes_on_itself : (w : Visits) → KeepsReached w w
goes_on_itself w = record { gates = refl; size = refl; reached = λ v n. n }

pub goes_on_twice : (old mid new : Visits) → KeepsReached old mid → KeepsReached mid new → KeepsReached old new
goes_on_twice old mid new a b = record { gates = b.gates ∙ a.gates; size = b.size ∙ a.size; reached = λ v n. b.reached v (a.reached v n) }

-- the first gate of a path that was empty
pub first_entered : (w new : Visits) (x : Gate) (v : ℕ) → w.path ≡ [] → x.v ≡ v → new ≡ entered w x → HasLevel w.gates v → HasLevel new.gates (slice_index_or new.path 0 x).v
first_entered w new x v empty own e level =
    let path : new.path ≡ x ∷ [] = ap (λ y. y.path) e ∙ ap (λ p. p ++ x ∷ []) empty in
    subst (λ p. HasLevel new.gates (slice_index_or p 0 x).v) (sym path) (subst (λ gs. HasLevel gs x.v) (sym (ap (λ y. y.gates) e)) (subst (HasLevel w.gates) (sym own) level))

-- what was put on a path is reached
pub entered_reached : (w new : Visits) (x : Gate) (v : ℕ) → AreVisits w → Contains w.gates x → x.v ≡ v → new ≡ entered w x → mark_of new v ≢ New
entered_reached w new x v is some own e fresh = new_open (subst (λ u. mark_of u v ≡ New) e fresh) (marked_here w is x some Open v (sym own))
