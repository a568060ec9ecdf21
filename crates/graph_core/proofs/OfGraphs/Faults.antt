-- The first fault by computing is the first fault of the lists, and there is none exactly where the lists have no fault.
use Rattle.std.specs.Prelude.{◌≡◌, ◌≢◌, ℕ, zero, suc, ◌+◌, ◌*◌, ◌%◌, ◌<◌, ◌≤◌, ◌⊎◌, Bool, true, false, cond, not, ◌&&◌, ◌||◌, List, [], ◌∷◌, ◌++◌, map, length, ◌==◌, nat_lt, Option, Some, None}
use Rattle.std.specs.List.{AllByRecursion, AllPairs, Contains, find, flat_map, list_any}
use Rattle.std.proofs.Common.{refl, sym, ap, ap₂, subst, ◌∙◌, arith, inl, inr, ⊎_elim, eq-eqb, eqb-true, ne_eqb, ltb-true}
use Rattle.std.proofs.lemmas.Bool.{eqb-false, ltb-false}
use Rattle.std.proofs.lemmas.List.Elements.{All-from_recursion, recursion_from_All}
use Rattle.std.proofs.lemmas.List.Kept.{AllPairs-cons}
use Rattle.std.proofs.lemmas.Option.{same_Some}
use Rattle.graph_core.specs.declared.literal.Lit.{Lit}
use Rattle.graph_core.specs.declared.gate.Gate.{Gate}
use Rattle.graph_core.specs.declared.fault.GraphFault.{GraphFault}
use Rattle.graph_core.specs.declared.fault.GraphFault.TheVariants.{Range, Left, Twice, Undefined, Cycle}
use Rattle.graph_core.specs.Graph.Literals.{variable_of}
use Rattle.graph_core.specs.Graph.{IsWellFormed, free, defined, read_literals}
use Rattle.graph_core.specs.Aiger.{Listing, graph_of, IsFaultless}
use Rattle.graph_core.specs.Graph.Searches.{AreSound}
use Rattle.graph_core.specs.Aiger.Refusal.{literals, left_sides, first_above, first_no_left, first_repeated, first_undefined, HasLevel, shown, IsFault, levelled, first_without, first_unlevelled, fault_or, fault_of, FaultIsFound, NoFaultIsFound}
use Rattle.graph_core.proofs.OfGraphs.Evaluation.{Distinct}
use Rattle.graph_core.proofs.OfTexts.Numerals.{not_below}
use Rattle.graph_core.proofs.OfGraphs.Levels.{In, in_contains, contains_in, all_in, all_from_in, or_cases, level_is, has_level_computed, levels_order, acyclic_levels}

-- ---- the chain of faults

or_some : {A : Type 0} (fault : A → GraphFault) (o : Option A) (other : Option GraphFault) (f : GraphFault) → fault_or fault o other ≡ Some f → ((x : A) × (o ≡ Some x) × (fault x ≡ f)) ⊎ ((o ≡ None) × (other ≡ Some f))
or_some fault None other f h = inr (refl, h)
or_some fault (Some x) other f h = inl (x, refl, same_Some (fault x) f h)

or_none : {A : Type 0} (fault : A → GraphFault) (o : Option A) (other : Option GraphFault) → fault_or fault o other ≡ None → (o ≡ None) × (other ≡ None)
or_none fault None other h = (refl, h)
or_none fault (Some x) other h = absurd (cc)

-- ---- the first number without a level

without_some : (test : ℕ → Bool) (k s v : ℕ) → first_without test s k ≡ Some v → (s ≤ v) × (v < s + k) × (test v ≡ false) × ((w : ℕ) → s ≤ w → w < v → test w ≡ true)
without_some test zero s v h = absurd (cc)
without_some test (suc k) s v h = go (test s) refl h (without_some test k (suc s) v)
  where
    go : (b : Bool) → test s ≡ b → cond b (first_without test (suc s) k) (Some s) ≡ Some v → (first_without test (suc s) k ≡ Some v → (suc s ≤ v) × (v < suc s + k) × (test v ≡ false) × ((w : ℕ) → suc s ≤ w → w < v → test w ≡ true)) →
        (s ≤ v) × (v < s + suc k) × (test v ≡ false) × ((w : ℕ) → s ≤ w → w < v → test w ≡ true)
    go true e f more =
        let r = more f in
        let low = r.0 in
        let high = r.1 in
        (omega arith, omega arith, r.2, λ w a b. ⊎_elim (λ q. ap test (sym q) ∙ e) (λ l. r.3 w l b) (split s w a))
      where
        split : (a b : ℕ) → a ≤ b → (a ≡ b) ⊎ (suc a ≤ b)
        split a b l = split_at (a == b) refl
          where
            split_at : (c : Bool) → (a == b) ≡ c → (a ≡ b) ⊎ (suc a ≤ b)
            split_at true q = inl (eqb-true a b q)
            split_at false q = let n = eqb-false a b q in inr (omega arith)
    go false e f more =
        let same = same_Some s v f in
        (omega arith, omega arith, ap test (sym same) ∙ e, λ w a b. absurd (omega arith))

without_again : (test : ℕ → Bool) (k s v : ℕ) → s ≤ v → v < s + k → test v ≡ false → ((w : ℕ) → s ≤ w → w < v → test w ≡ true) → first_without test s k ≡ Some v
without_again test zero s v low high f all = absurd (omega arith)
without_again test (suc k) s v low high f all = go (s == v) refl (λ n. without_again test k (suc s) v (omega arith) (omega arith) f (λ w a b. all w (omega arith) b))
  where
    go : (c : Bool) → (s == v) ≡ c → (s ≢ v → first_without test (suc s) k ≡ Some v) → first_without test s (suc k) ≡ Some v
    go true q deeper =
        let same = eqb-true s v q in
        ap (λ b. cond b (first_without test (suc s) k) (Some s)) (ap test same ∙ f) ∙ ap Some same
    go false q deeper =
        let n = eqb-false s v q in
        ap (λ b. cond b (first_without test (suc s) k) (Some s)) (all s (omega arith) (omega arith)) ∙ deeper n

without_none : (test : ℕ → Bool) (k s : ℕ) → first_without test s k ≡ None → (w : ℕ) → s ≤ w → w < s + k → test w ≡ true
without_none test zero s h w a b = absurd (omega arith)
without_none test (suc k) s h w a b = go (test s) refl h (without_none test k (suc s))
  where
    go : (c : Bool) → test s ≡ c → cond c (first_without test (suc s) k) (Some s) ≡ None → (first_without test (suc s) k ≡ None → (x : ℕ) → suc s ≤ x → x < suc s + k → test x ≡ true) → test w ≡ true
    go true e f more = at (s == w) refl
      where
        at : (d : Bool) → (s == w) ≡ d → test w ≡ true
        at true q = ap test (sym (eqb-true s w q)) ∙ e
        at false q = let n = eqb-false s w q in more f w (omega arith) (omega arith)
    go false e f more = absurd (cc)

none_without : (test : ℕ → Bool) (k s : ℕ) → ((w : ℕ) → w < s + k → test w ≡ true) → first_without test s k ≡ None
none_without test zero s h = refl
none_without test (suc k) s h = ap (λ b. cond b (first_without test (suc s) k) (Some s)) (h s (omega arith)) ∙ none_without test k (suc s) (λ w l. h w (omega arith))

-- ---- the first fault

computed_level : (g : Listing) (v : ℕ) → levelled (graph_of g).gates (length (graph_of g).gates) v ≡ false → HasLevel (graph_of g).gates v → ⊥
computed_level g v e h = let both = sym (has_level_computed (graph_of g).gates v h) ∙ e in cc

level_computed : (g : Listing) (v : ℕ) → (HasLevel (graph_of g).gates v → ⊥) → levelled (graph_of g).gates (length (graph_of g).gates) v ≡ false
level_computed g v n = go (levelled (graph_of g).gates (length (graph_of g).gates) v) refl
  where
    go : (b : Bool) → levelled (graph_of g).gates (length (graph_of g).gates) v ≡ b → levelled (graph_of g).gates (length (graph_of g).gates) v ≡ false
    go true e = absurd (n (level_is (graph_of g).gates (length (graph_of g).gates) v e))
    go false e = e

repeated : Listing → Option ℕ
repeated g = first_repeated [] (map variable_of (left_sides g))

fault_found : (g : Listing) (f : GraphFault) → fault_of g ≡ Some f → IsFault g f
unfolding fault_of
fault_found g f h =
    ⊎_elim (λ a. subst (IsFault g) a.2 (a.0, a.1, refl))
    (λ a. ⊎_elim (λ b. subst (IsFault g) b.2 (a.0, b.1))
    (λ b. ⊎_elim (λ c. subst (IsFault g) c.2 (a.0, b.0, c.1))
    (λ c. ⊎_elim (λ d. subst (IsFault g) d.2 (a.0, b.0, c.0, d.1))
    (λ d. ⊎_elim (λ e. subst (IsFault g) e.2 (cycle e.0 a.0 b.0 c.0 d.0 e.1)) (λ e. let n = e.1 in absurd (cc))
    (or_some Cycle (first_unlevelled g) None f d.1))
    (or_some Undefined (first_undefined g) (fault_or Cycle (first_unlevelled g) None) f c.1))
    (or_some Twice (first_repeated [] (map variable_of (left_sides g))) (fault_or Undefined (first_undefined g) (fault_or Cycle (first_unlevelled g) None)) f b.1))
    (or_some Left (first_no_left g) (fault_or Twice (first_repeated [] (map variable_of (left_sides g))) (fault_or Undefined (first_undefined g) (fault_or Cycle (first_unlevelled g) None))) f a.1))
    (or_some (λ l. Range (shown l)) (first_above g) (fault_or Left (first_no_left g) (fault_or Twice (first_repeated [] (map variable_of (left_sides g))) (fault_or Undefined (first_undefined g) (fault_or Cycle (first_unlevelled g) None)))) f h)
  where
    cycle : (v : ℕ) → first_above g ≡ None → first_no_left g ≡ None → first_repeated [] (map variable_of (left_sides g)) ≡ None → first_undefined g ≡ None → first_unlevelled g ≡ Some v → IsFault g (Cycle v)
    cycle v a b c d e =
        let r = without_some (levelled (graph_of g).gates (length (graph_of g).gates)) (suc g.max) 0 v e in
        let high = r.1 in
        (a, b, c, d, omega arith, computed_level g v r.2, λ w l. level_is (graph_of g).gates (length (graph_of g).gates) w (r.3 w (omega arith) l))

first_fault : (g : Listing) (f : GraphFault) → IsFault g f → fault_of g ≡ Some f
unfolding fault_of
first_fault g (Range l) h =
    ap (λ o. fault_or (λ x. Range (shown x)) o (fault_or Left (first_no_left g) (fault_or Twice (first_repeated [] (map variable_of (left_sides g))) (fault_or Undefined (first_undefined g) (fault_or Cycle (first_unlevelled g) None))))) h.1 ∙ ap (λ x. Some (Range x)) (sym h.2)
first_fault g (Left l) h =
    ap₂ (λ o p. fault_or (λ x. Range (shown x)) o (fault_or Left p (fault_or Twice (first_repeated [] (map variable_of (left_sides g))) (fault_or Undefined (first_undefined g) (fault_or Cycle (first_unlevelled g) None))))) h.0 h.1
first_fault g (Twice v) h =
    ap₂ (λ o p. fault_or (λ x. Range (shown x)) o (fault_or Left p (fault_or Twice (first_repeated [] (map variable_of (left_sides g))) (fault_or Undefined (first_undefined g) (fault_or Cycle (first_unlevelled g) None))))) h.0 h.1 ∙
    ap (λ o. fault_or Twice o (fault_or Undefined (first_undefined g) (fault_or Cycle (first_unlevelled g) None))) h.2
first_fault g (Undefined l) h =
    ap₂ (λ o p. fault_or (λ x. Range (shown x)) o (fault_or Left p (fault_or Twice (first_repeated [] (map variable_of (left_sides g))) (fault_or Undefined (first_undefined g) (fault_or Cycle (first_unlevelled g) None))))) h.0 h.1 ∙
    ap₂ (λ o p. fault_or Twice o (fault_or Undefined p (fault_or Cycle (first_unlevelled g) None))) h.2 h.3
first_fault g (Cycle v) h =
    let low = h.4 in
    let found : first_unlevelled g ≡ Some v =
    without_again (levelled (graph_of g).gates (length (graph_of g).gates)) (suc g.max) 0 v (omega arith) (omega arith) (level_computed g v h.5) (λ w a b. has_level_computed (graph_of g).gates w (h.6 w b)) in
    ap₂ (λ o p. fault_or (λ x. Range (shown x)) o (fault_or Left p (fault_or Twice (first_repeated [] (map variable_of (left_sides g))) (fault_or Undefined (first_undefined g) (fault_or Cycle (first_unlevelled g) None))))) h.0 h.1 ∙
    ap₂ (λ o p. fault_or Twice o (fault_or Undefined p (fault_or Cycle (first_unlevelled g) None))) h.2 h.3 ∙ ap (λ o. fault_or Cycle o None) found

pub fault_is_found : FaultIsFound
fault_is_found g f = (fault_found g f, first_fault g f)

-- ---- no fault: each search finds nothing

record NothingFound (g : Listing) : Type 0 where
  above : first_above g ≡ None
  no_left : first_no_left g ≡ None
  twice : first_repeated [] (map variable_of (left_sides g)) ≡ None
  undefined : first_undefined g ≡ None
  unlevelled : first_unlevelled g ≡ None

nothing_found : (g : Listing) → fault_of g ≡ None → NothingFound g
unfolding fault_of
nothing_found g h =
    let a = or_none (λ l. Range (shown l)) (first_above g) (fault_or Left (first_no_left g) (fault_or Twice (first_repeated [] (map variable_of (left_sides g))) (fault_or Undefined (first_undefined g) (fault_or Cycle (first_unlevelled g) None)))) h in
    let b = or_none Left (first_no_left g) (fault_or Twice (first_repeated [] (map variable_of (left_sides g))) (fault_or Undefined (first_undefined g) (fault_or Cycle (first_unlevelled g) None))) a.1 in
    let c = or_none Twice (first_repeated [] (map variable_of (left_sides g))) (fault_or Undefined (first_undefined g) (fault_or Cycle (first_unlevelled g) None)) b.1 in
    let d = or_none Undefined (first_undefined g) (fault_or Cycle (first_unlevelled g) None) c.1 in
    let e = or_none Cycle (first_unlevelled g) None d.1 in
    record { above = a.0; no_left = b.0; twice = c.0; undefined = d.0; unlevelled = e.0 }

found_nothing : (g : Listing) → NothingFound g → fault_of g ≡ None
unfolding fault_of
found_nothing g n =
    ap₂ (λ o p. fault_or (λ x. Range (shown x)) o (fault_or Left p (fault_or Twice (first_repeated [] (map variable_of (left_sides g))) (fault_or Undefined (first_undefined g) (fault_or Cycle (first_unlevelled g) None))))) n.above n.no_left ∙
    ap₂ (λ o p. fault_or Twice o (fault_or Undefined p (fault_or Cycle (first_unlevelled g) None))) n.twice n.undefined ∙ ap (λ o. fault_or Cycle o None) n.unlevelled

-- ---- searches

pub find_none : {X : Type 0} (p : X → Bool) (xs : List X) → find p xs ≡ None → (x : X) → In x xs → p x ≡ false
find_none p [] h x i = absurd i
find_none {X} p (y ∷ ys) h x i = go (p y) refl h (find_none p ys) i
  where
    go : (b : Bool) → p y ≡ b → cond b (Some y) (find p ys) ≡ None → (find p ys ≡ None → (z : X) → In z ys → p z ≡ false) → In x (y ∷ ys) → p x ≡ false
    go true e f more j = absurd (cc)
    go false e f more (inl q) = ap p (sym q) ∙ e
    go false e f more (inr j) = more f x j

none_find : {X : Type 0} (p : X → Bool) (xs : List X) → ((x : X) → In x xs → p x ≡ false) → find p xs ≡ None
none_find p [] h = refl
none_find p (y ∷ ys) h = ap (λ b. cond b (Some y) (find p ys)) (h y (inl refl)) ∙ none_find p ys (λ x i. h x (inr i))

pub in_left : {X : Type 0} (x : X) (xs ys : List X) → In x xs → In x (xs ++ ys)
in_left x [] ys h = absurd h
in_left x (z ∷ xs) ys (inl e) = inl e
in_left x (z ∷ xs) ys (inr h) = inr (in_left x xs ys h)

pub in_right : {X : Type 0} (x : X) (xs ys : List X) → In x ys → In x (xs ++ ys)
in_right x [] ys h = h
in_right x (z ∷ xs) ys h = inr (in_right x xs ys h)

pub in_parts : {X : Type 0} (x : X) (xs ys : List X) → In x (xs ++ ys) → In x xs ⊎ In x ys
in_parts x [] ys h = inr h
in_parts x (z ∷ xs) ys (inl e) = inl (inl e)
in_parts x (z ∷ xs) ys (inr h) = ⊎_elim (λ i. inl (inr i)) inr (in_parts x xs ys h)

pub in_map : {X Y : Type 0} (f : X → Y) (x : X) (xs : List X) → In x xs → In (f x) (map f xs)
in_map f x [] h = absurd h
in_map f x (y ∷ ys) (inl e) = inl (ap f e)
in_map f x (y ∷ ys) (inr h) = inr (in_map f x ys h)

pub map_in : {X Y : Type 0} (f : X → Y) (y : Y) (xs : List X) → In y (map f xs) → (x : X) × In x xs × (f x ≡ y)
map_in f y [] h = absurd h
map_in f y (x ∷ xs) (inl e) = (x, inl refl, e)
map_in f y (x ∷ xs) (inr h) = let r = map_in f y xs h in (r.0, inr r.1, r.2)

-- ---- no number twice

abbrev pub Apart : List ℕ → Type 0
Apart [] = Unit {0}
Apart (v ∷ vs) = AllByRecursion (λ w. v ≢ w) vs × Apart vs

pub apart_pairs : (vs : List ℕ) → Apart vs → AllPairs ◌≢◌ vs
apart_pairs [] h = λ i j d a b. absurd (omega arith)
apart_pairs (v ∷ vs) h = AllPairs-cons ◌≢◌ v vs (All-from_recursion (λ w. v ≢ w) vs h.0) (apart_pairs vs h.1)

pairs_apart : (vs : List ℕ) → AllPairs ◌≢◌ vs → Apart vs
pairs_apart [] h = tt
pairs_apart (v ∷ vs) h = (recursion_from_All (λ w. v ≢ w) vs (λ k d l. h 0 (suc k) d (omega arith) (omega arith)), pairs_apart vs (λ i j d l k. h (suc i) (suc j) d (omega arith) (omega arith)))

any_false : (v : ℕ) (seen : List ℕ) → list_any (λ w. w == v) seen ≡ false → (w : ℕ) → In w seen → w ≢ v
any_false v [] h w i = absurd i
any_false v (u ∷ seen) h w i = go (u == v) refl h i (any_false v seen)
  where
    go : (b : Bool) → (u == v) ≡ b → (b || list_any (λ x. x == v) seen) ≡ false → In w (u ∷ seen) → (list_any (λ x. x == v) seen ≡ false → (x : ℕ) → In x seen → x ≢ v) → w ≢ v
    go true e f j more = absurd (cc)
    go false e f (inl q) more = λ s. eqb-false u v e (q ∙ s)
    go false e f (inr j) more = more f w j

false_any : (v : ℕ) (seen : List ℕ) → ((w : ℕ) → In w seen → w ≢ v) → list_any (λ w. w == v) seen ≡ false
false_any v [] h = refl
false_any v (u ∷ seen) h = ap (λ b. b || list_any (λ x. x == v) seen) (ne_eqb u v (h u (inl refl))) ∙ false_any v seen (λ w i. h w (inr i))

-- nothing is repeated: no number stands before itself, or among those seen
repeated_none : (vs seen : List ℕ) → first_repeated seen vs ≡ None → Apart vs × ((v : ℕ) → In v vs → (w : ℕ) → In w seen → w ≢ v)
repeated_none [] seen h = (tt, λ v i. absurd i)
repeated_none (u ∷ vs) seen h = go (list_any (λ w. w == u) seen) refl h (repeated_none vs (u ∷ seen))
  where
    go : (b : Bool) → list_any (λ w. w == u) seen ≡ b → cond b (Some u) (first_repeated (u ∷ seen) vs) ≡ None →
        (first_repeated (u ∷ seen) vs ≡ None → Apart vs × ((v : ℕ) → In v vs → (w : ℕ) → In w (u ∷ seen) → w ≢ v)) → Apart (u ∷ vs) × ((v : ℕ) → In v (u ∷ vs) → (w : ℕ) → In w seen → w ≢ v)
    go true e f more = absurd (cc)
    go false e f more =
        let r = more f in
        ((all_from_in (λ w. u ≢ w) vs (λ w i. r.1 w i u (inl refl)), r.0), apart e r.1)
      where
        apart : list_any (λ w. w == u) seen ≡ false → ((v : ℕ) → In v vs → (w : ℕ) → In w (u ∷ seen) → w ≢ v) → (v : ℕ) → In v (u ∷ vs) → (w : ℕ) → In w seen → w ≢ v
        apart q later v (inl s) w i = λ t. any_false u seen q w i (t ∙ sym s)
        apart q later v (inr j) w i = later v j w (inr i)

none_repeated : (vs seen : List ℕ) → Apart vs → ((v : ℕ) → In v vs → (w : ℕ) → In w seen → w ≢ v) → first_repeated seen vs ≡ None
none_repeated [] seen a h = refl
none_repeated (u ∷ vs) seen a h =
    ap (λ b. cond b (Some u) (first_repeated (u ∷ seen) vs)) (false_any u seen (h u (inl refl))) ∙
    none_repeated vs (u ∷ seen) a.1 (λ v i w j. ⊎_elim (λ e. λ s. all_in (λ x. u ≢ x) vs v a.0 i (e ∙ s)) (h v (inr i) w) j)

-- ---- the facts that the searches are about

abbrev gate_of : (Lit × Lit × Lit) → Gate
gate_of t = record { v = variable_of t.0; left = t.1; right = t.2 }

abbrev operands : Gate → List Lit
operands x = x.left ∷ x.right ∷ []

abbrev three : (Lit × Lit × Lit) → List Lit
three t = t.0 ∷ t.1 ∷ t.2 ∷ []

operands_in : (l : Lit) (ts : List (Lit × Lit × Lit)) → In l (flat_map operands (map gate_of ts)) → In l (flat_map three ts)
operands_in l [] h = absurd h
operands_in l (t ∷ ts) (inl e) = inr (inl e)
operands_in l (t ∷ ts) (inr (inl e)) = inr (inr (inl e))
operands_in l (t ∷ ts) (inr (inr h)) = inr (inr (inr (operands_in l ts h)))

pub left_in : (t : Lit × Lit × Lit) (ts : List (Lit × Lit × Lit)) → In t ts → In t.0 (flat_map three ts)
left_in t [] h = absurd h
left_in t (u ∷ ts) (inl e) = inl (ap (λ x. x.0) e)
left_in t (u ∷ ts) (inr h) = inr (inr (inr (left_in t ts h)))

pub three_in : (l : Lit) (ts : List (Lit × Lit × Lit)) → In l (flat_map three ts) → ((t : Lit × Lit × Lit) × In t ts × (t.0 ≡ l)) ⊎ In l (flat_map operands (map gate_of ts))
three_in l [] h = absurd h
three_in l (t ∷ ts) (inl e) = inl (t, inl refl, e)
three_in l (t ∷ ts) (inr (inl e)) = inr (inl e)
three_in l (t ∷ ts) (inr (inr (inl e))) = inr (inr (inl e))
three_in l (t ∷ ts) (inr (inr (inr h))) = ⊎_elim (λ r. inl (r.0, inr r.1, r.2)) (λ i. inr (inr (inr i))) (three_in l ts h)

pub left_variables : (ls : List Lit) (ts : List (Lit × Lit × Lit)) → map variable_of (ls ++ map (λ t. t.0) ts) ≡ map variable_of ls ++ map (λ x. x.v) (map gate_of ts)
left_variables [] [] = refl
left_variables [] (t ∷ ts) = ap (λ vs. variable_of t.0 ∷ vs) (left_variables [] ts)
left_variables (l ∷ ls) ts = ap (λ vs. variable_of l ∷ vs) (left_variables ls ts)

pub apart_right : (xs ys : List ℕ) → Apart (xs ++ ys) → Apart ys
apart_right [] ys h = h
apart_right (x ∷ xs) ys h = apart_right xs ys h.1

distinct_gates : (gates : List Gate) → Apart (map (λ x. x.v) gates) → Distinct gates
distinct_gates [] h = tt
distinct_gates (x ∷ gates) h = (apart_gates gates h.0, distinct_gates gates h.1)
  where
    apart_gates : (ys : List Gate) → AllByRecursion (λ w. x.v ≢ w) (map (λ y. y.v) ys) → AllByRecursion (λ y. x.v ≢ y.v) ys
    apart_gates [] a = tt
    apart_gates (y ∷ ys) a = (a.0, apart_gates ys a.1)

low_from : (max n : ℕ) → nat_lt (2 * max + 1) n ≡ false → n ≤ 2 * max + 1
low_from max n h = ltb-false (2 * max + 1) n h

abbrev no_left : Lit → Bool
no_left l = l.0 == 0 || l.0 % 2 == 1

left_from : (l : Lit) → no_left l ≡ false → (l.0 % 2 ≡ 0) × (0 < variable_of l)
left_from l h = go (l.0 == 0) refl h
  where
    go : (b : Bool) → (l.0 == 0) ≡ b → (b || l.0 % 2 == 1) ≡ false → (l.0 % 2 ≡ 0) × (0 < variable_of l)
    go true e f = absurd (cc)
    go false e f = let a = eqb-false l.0 0 e in let b = eqb-false (l.0 % 2) 1 f in (omega arith, omega arith)

left_back : (l : Lit) → l.0 % 2 ≡ 0 → 0 < variable_of l → no_left l ≡ false
left_back l even some = ap₂ ◌||◌ (ne_eqb l.0 0 (omega arith)) (ne_eqb (l.0 % 2) 1 (omega arith))

abbrev unknown : Listing → Lit → Bool
unknown g l = not (variable_of l == 0) && not (list_any (λ v. v == variable_of l) (defined (graph_of g)))

any_in : (v : ℕ) (vs : List ℕ) → list_any (λ w. w == v) vs ≡ true → In v vs
any_in v [] h = absurd (cc)
any_in v (w ∷ vs) h = ⊎_elim (λ e. inl (eqb-true w v e)) (λ e. inr (any_in v vs e)) (or_cases (w == v) (list_any (λ x. x == v) vs) h)

in_any : (v : ℕ) (vs : List ℕ) → In v vs → list_any (λ w. w == v) vs ≡ true
in_any v [] h = absurd h
in_any v (w ∷ vs) (inl e) = ap (λ b. b || list_any (λ x. x == v) vs) (eq-eqb w v e)
in_any v (w ∷ vs) (inr h) = or_true (w == v) (list_any (λ x. x == v) vs) (in_any v vs h)
  where
    or_true : (b c : Bool) → c ≡ true → (b || c) ≡ true
    or_true true c e = refl
    or_true false c e = e

known_from : (g : Listing) (l : Lit) → unknown g l ≡ false → (variable_of l ≡ 0) ⊎ Contains (defined (graph_of g)) (variable_of l)
known_from g l h = go (variable_of l == 0) refl (list_any (λ v. v == variable_of l) (defined (graph_of g))) refl h
  where
    go : (b : Bool) → (variable_of l == 0) ≡ b → (c : Bool) → list_any (λ v. v == variable_of l) (defined (graph_of g)) ≡ c → (not b && not c) ≡ false → (variable_of l ≡ 0) ⊎ Contains (defined (graph_of g)) (variable_of l)
    go true e c f q = inl (eqb-true (variable_of l) 0 e)
    go false e true f q = inr (in_contains (variable_of l) (defined (graph_of g)) (any_in (variable_of l) (defined (graph_of g)) f))
    go false e false f q = absurd (cc)

known_back : (g : Listing) (l : Lit) → (variable_of l ≡ 0) ⊎ Contains (defined (graph_of g)) (variable_of l) → unknown g l ≡ false
known_back g l (inl e) = ap (λ b. not b && not (list_any (λ v. v == variable_of l) (defined (graph_of g)))) (eq-eqb (variable_of l) 0 e)
known_back g l (inr c) = go (variable_of l == 0)
  where
    known : list_any (λ v. v == variable_of l) (defined (graph_of g)) ≡ true
    known = in_any (variable_of l) (defined (graph_of g)) (contains_in (variable_of l) (defined (graph_of g)) c)

    go : (b : Bool) → (not b && not (list_any (λ v. v == variable_of l) (defined (graph_of g)))) ≡ false
    go true = refl
    go false = ap not known

module _ (g : Listing) (n : AreSound g) where
  low : (l : Lit) → In l (literals g) → l.0 ≤ 2 * g.max + 1
  low l i = low_from g.max l.0 (find_none (λ x. nat_lt (2 * g.max + 1) x.0) (literals g) n.above l i)

  even_left : (l : Lit) → In l (left_sides g) → (l.0 % 2 ≡ 0) × (0 < variable_of l)
  even_left l i = left_from l (find_none no_left (left_sides g) n.no_left l i)

  input_low : (l : Lit) → In l g.inputs → In l (literals g)
  input_low l i = in_left l (g.inputs ++ g.outputs) (flat_map three g.gates) (in_left l g.inputs g.outputs i)

  output_low : (l : Lit) → In l g.outputs → In l (literals g)
  output_low l i = in_left l (g.inputs ++ g.outputs) (flat_map three g.gates) (in_right l g.inputs g.outputs i)

  gate_low : (l : Lit) → In l (flat_map three g.gates) → In l (literals g)
  gate_low l i = in_right l (g.inputs ++ g.outputs) (flat_map three g.gates) i

  pub read_low : (l : Lit) → In l (g.inputs ++ read_literals (graph_of g)) → l.0 ≤ 2 * g.max + 1
  read_low l i =
      ⊎_elim (λ j. low l (input_low l j))
      (λ j. ⊎_elim (λ k. low l (output_low l k)) (λ k. low l (gate_low l (operands_in l g.gates k))) (in_parts l g.outputs (flat_map operands (map gate_of g.gates)) j))
      (in_parts l g.inputs (read_literals (graph_of g)) i)

  gate_left : (t : Lit × Lit × Lit) → In t g.gates → In t.0 (left_sides g)
  gate_left t i = in_right t.0 g.inputs (map (λ u. u.0) g.gates) (in_map (λ u. u.0) t g.gates i)

  pub gates_low : (x : Gate) → In x (graph_of g).gates → (x.v ≤ g.max) × (0 < x.v)
  gates_low x i =
      let r = map_in gate_of x g.gates i in
      let l = low r.0.0 (gate_low r.0.0 (left_in r.0 g.gates r.1)) in
      let e = even_left r.0.0 (gate_left r.0 r.1) in
      let some = e.1 in
      let bound : (gate_of r.0).v ≤ g.max = omega arith in
      (subst (λ y. y.v ≤ g.max) r.2 bound, subst (λ y. 0 < y.v) r.2 some)

  pub apart : Apart (defined (graph_of g))
  apart = subst Apart (left_variables g.inputs g.gates) (repeated_none (map variable_of (left_sides g)) [] n.repeated).0

  all_levels : first_unlevelled g ≡ None → (v : ℕ) → HasLevel (graph_of g).gates v
  all_levels unlevelled v = go (nat_lt g.max v) refl
    where
      go : (b : Bool) → nat_lt g.max v ≡ b → HasLevel (graph_of g).gates v
      go true e =
          let high = ltb-true g.max v e in
          (0, free v (All-from_recursion (λ x. x.v ≢ v) (graph_of g).gates (all_from_in (λ x. x.v ≢ v) (graph_of g).gates (λ x i. let l = (gates_low x i).0 in omega arith))))
      go false e =
          let l = ltb-false g.max v e in
          level_is (graph_of g).gates (length (graph_of g).gates) v (without_none (levelled (graph_of g).gates (length (graph_of g).gates)) (suc g.max) 0 unlevelled v (omega arith) (omega arith))

  pub faultless_from : ((v : ℕ) → HasLevel (graph_of g).gates v) → IsFaultless g
  faultless_from levels = record {
    left = All-from_recursion (λ t. t.0.0 % 2 ≡ 0) g.gates (all_from_in (λ t. t.0.0 % 2 ≡ 0) g.gates (λ t i. (even_left t.0 (gate_left t i)).0));
    graph = record {
      in_range = All-from_recursion (λ l. l.0 ≤ 2 * g.max + 1) (g.inputs ++ read_literals (graph_of g)) (all_from_in (λ l. l.0 ≤ 2 * g.max + 1) (g.inputs ++ read_literals (graph_of g)) read_low);
      gates_in_range = All-from_recursion (λ x. x.v ≤ g.max) (graph_of g).gates (all_from_in (λ x. x.v ≤ g.max) (graph_of g).gates (λ x i. (gates_low x i).0));
      defined_once = record {
        inputs = All-from_recursion (λ l. (l.0 % 2 ≡ 0) × (0 < variable_of l)) g.inputs (all_from_in (λ l. (l.0 % 2 ≡ 0) × (0 < variable_of l)) g.inputs (λ l i. even_left l (in_left l g.inputs (map (λ t. t.0) g.gates) i)));
        gates = All-from_recursion (λ x. 0 < x.v) (graph_of g).gates (all_from_in (λ x. 0 < x.v) (graph_of g).gates (λ x i. (gates_low x i).1));
        once = apart_pairs (defined (graph_of g)) apart;
      };
      known = All-from_recursion (λ l. (variable_of l ≡ 0) ⊎ Contains (defined (graph_of g)) (variable_of l)) (read_literals (graph_of g))
          (all_from_in (λ l. (variable_of l ≡ 0) ⊎ Contains (defined (graph_of g)) (variable_of l)) (read_literals (graph_of g)) (λ l i. known_from g l (find_none (unknown g) (read_literals (graph_of g)) n.undefined l i)));
      acyclic = levels_order (graph_of g).gates (distinct_gates (graph_of g).gates (apart_right (map variable_of g.inputs) (map (λ x. x.v) (graph_of g).gates) apart)) levels;
    };
  }

module _ (g : Listing) (f : IsFaultless g) where
  well : IsWellFormed (graph_of g)
  well = f.graph

  read_in_range : (l : Lit) → In l (g.inputs ++ read_literals (graph_of g)) → l.0 ≤ 2 * g.max + 1
  read_in_range l i = all_in (λ x. x.0 ≤ 2 * g.max + 1) (g.inputs ++ read_literals (graph_of g)) l (recursion_from_All (λ x. x.0 ≤ 2 * g.max + 1) (g.inputs ++ read_literals (graph_of g)) well.in_range) i

  gate_fact : (t : Lit × Lit × Lit) → In t g.gates → (t.0.0 % 2 ≡ 0) × (0 < variable_of t.0) × (variable_of t.0 ≤ g.max)
  gate_fact t i =
      let x = in_map gate_of t g.gates i in (
        all_in (λ u. u.0.0 % 2 ≡ 0) g.gates t (recursion_from_All (λ u. u.0.0 % 2 ≡ 0) g.gates f.left) i,
        all_in (λ y. 0 < y.v) (graph_of g).gates (gate_of t) (recursion_from_All (λ y. 0 < y.v) (graph_of g).gates well.defined_once.gates) x,
        all_in (λ y. y.v ≤ g.max) (graph_of g).gates (gate_of t) (recursion_from_All (λ y. y.v ≤ g.max) (graph_of g).gates well.gates_in_range) x,
      )

  literal_low : (l : Lit) → In l (literals g) → l.0 ≤ 2 * g.max + 1
  literal_low l i =
      ⊎_elim
      (λ j. ⊎_elim (λ k. read_in_range l (in_left l g.inputs (read_literals (graph_of g)) k))
      (λ k. read_in_range l (in_right l g.inputs (read_literals (graph_of g)) (in_left l g.outputs (flat_map operands (map gate_of g.gates)) k))) (in_parts l g.inputs g.outputs j))
      (λ j. ⊎_elim (λ r. let q = gate_fact r.0 r.1 in let even = q.0 in let bound = q.2 in let b : r.0.0.0 ≤ 2 * g.max + 1 = omega arith in subst (λ x. x.0 ≤ 2 * g.max + 1) r.2 b)
      (λ k. read_in_range l (in_right l g.inputs (read_literals (graph_of g)) (in_right l g.outputs (flat_map operands (map gate_of g.gates)) k))) (three_in l g.gates j))
      (in_parts l (g.inputs ++ g.outputs) (flat_map three g.gates) i)

  left_good : (l : Lit) → In l (left_sides g) → no_left l ≡ false
  left_good l i =
      ⊎_elim (λ j. let q = all_in (λ x. (x.0 % 2 ≡ 0) × (0 < variable_of x)) g.inputs l (recursion_from_All (λ x. (x.0 % 2 ≡ 0) × (0 < variable_of x)) g.inputs well.defined_once.inputs) j in left_back l q.0 q.1)
      (λ j. let r = map_in (λ t. t.0) l g.gates j in let q = gate_fact r.0 r.1 in subst (λ x. no_left x ≡ false) r.2 (left_back r.0.0 q.0 q.1))
      (in_parts l g.inputs (map (λ t. t.0) g.gates) i)

  found_from : NothingFound g
  found_from = record {
    above = none_find (λ x. nat_lt (2 * g.max + 1) x.0) (literals g) (λ l i. not_below (2 * g.max + 1) l.0 (literal_low l i));
    no_left = none_find no_left (left_sides g) left_good;
    twice = none_repeated (map variable_of (left_sides g)) [] (subst Apart (sym (left_variables g.inputs g.gates)) (pairs_apart (defined (graph_of g)) well.defined_once.once)) (λ v i w j. absurd j);
    undefined = none_find (unknown g) (read_literals (graph_of g)) (λ l i. known_back g l
        (all_in (λ x. (variable_of x ≡ 0) ⊎ Contains (defined (graph_of g)) (variable_of x)) (read_literals (graph_of g)) l (recursion_from_All (λ x. (variable_of x ≡ 0) ⊎ Contains (defined (graph_of g)) (variable_of x)) (read_literals (graph_of g)) well.known) i));
    unlevelled = none_without (levelled (graph_of g).gates (length (graph_of g).gates)) (suc g.max) 0 (λ w l. has_level_computed (graph_of g).gates w (acyclic_levels (graph_of g).gates well.acyclic w));
  }

sound_from : (g : Listing) → NothingFound g → AreSound g
sound_from g n = record { above = n.above; no_left = n.no_left; repeated = n.twice; undefined = n.undefined }

pub no_fault_is_found : NoFaultIsFound
no_fault_is_found g = (
  (λ h. let n = nothing_found g h in faultless_from g (sound_from g n) (all_levels g (sound_from g n) n.unlevelled)),
  (λ f. found_nothing g (found_from g f)),
)
