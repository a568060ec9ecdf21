-- The plain order: each front of it leaves a frontier, and there is at most one.
use Rattle.std.specs.Prelude.{◌≡◌, ◌≢◌, ℕ, zero, suc, ◌+◌, ◌<◌, ◌≤◌, max, ◌⊎◌, true, false, ◌||◌, List, [], ◌∷◌, ◌++◌, map, length, take, drop, slice_get, slice_index_or, ◌==◌}
use Rattle.std.specs.declared.option.Option.TheVariants.{Some}
use Rattle.std.specs.List.{All, AllByRecursion, AllPairs, Contains}
use Rattle.std.proofs.Common.{refl, sym, ap, ap₂, subst, ◌∙◌, arith, inl, inr, ⊎_elim, eqb-true, eq-eqb, ne_eqb, true≢false, take-append-drop}
use Rattle.std.proofs.lemmas.Bool.{cases_Bool, cases_eq, or_cases, or_left, or_right}
use Rattle.std.proofs.lemmas.List.{length-map, take_all}
use Rattle.std.proofs.lemmas.List.Folds.{list_any-append}
use Rattle.std.proofs.lemmas.List.Sorted.{list_any-IsPermutation, length_permutation}
use Rattle.std.proofs.lemmas.List.Elements.{All-from_recursion, recursion_from_All, All-contains_itself, All-take}
use Rattle.std.proofs.lemmas.Option.{slice_get_within}
use Rattle.graph_core.specs.declared.literal.Lit.{Lit}
use Rattle.graph_core.specs.declared.gate.Gate.{Gate}
use Rattle.graph_core.specs.Graph.Literals.{variable_of}
use Rattle.graph_core.specs.Graph.{IsLevel, above, IsAcyclic}
use Rattle.graph_core.specs.Graph.Extended.{Extended, Column}
use Rattle.ripple_graft.specs.Extension.{outputs_from, new_outputs, IsExtension}
use Rattle.graph_core.proofs.OfGraphs.CallerLemmas.{acyclic_levels, all_split, all_weaker}
use Rattle.frontier_core.specs.Sets.{has, count_from}
use Rattle.frontier_core.specs.Columns.{all_columns}
use Rattle.frontier_core.specs.Frontier.{IsFrontier, IsLastFrontier}
use Rattle.frontier_core.specs.PlainOrder.{ComesBefore, IsPlainOrder, PlainOrderLeavesFrontiers, PlainOrderIsOne, PlainOrderFinishes}
use Rattle.frontier_core.proofs.Everywhere.{all_has, all_had}

-- as many new outputs as old ones
pub length-outputs_from : (cs : List Column) (k : ℕ) (ls : List Lit) → length (outputs_from cs k ls) ≡ length ls
length-outputs_from cs k [] = refl
length-outputs_from cs k (l ∷ ls) = ap suc (length-outputs_from cs (suc k) ls)

-- each element with each later one
abbrev pub Pairs : (ℕ → ℕ → Type 0) → List ℕ → Type 0
Pairs R [] = Unit {0}
Pairs R (x ∷ xs) = AllByRecursion (R x) xs × Pairs R xs

pub pairs_recursion : (R : ℕ → ℕ → Type 0) (xs : List ℕ) → AllPairs R xs → Pairs R xs
pairs_recursion R [] h = tt
pairs_recursion R (x ∷ xs) h =
    (recursion_from_All (R x) xs (λ k d l. h 0 (suc k) d (omega arith) (omega arith)), pairs_recursion R xs (λ i j d a b. h (suc i) (suc j) d (omega arith) (omega arith)))

pub pairs_from : (R : ℕ → ℕ → Type 0) (xs : List ℕ) → Pairs R xs → AllPairs R xs
pairs_from R [] h i j d lt within = absurd (omega arith)
pairs_from R (x ∷ xs) h zero zero d lt within = absurd (omega arith)
pairs_from R (x ∷ xs) h zero (suc j) d lt within = All-from_recursion (R x) xs h.0 j d (omega arith)
pairs_from R (x ∷ xs) h (suc i) zero d lt within = absurd (omega arith)
pairs_from R (x ∷ xs) h (suc i) (suc j) d lt within = pairs_from R xs h.1 i j d (omega arith) (omega arith)

-- the pairs of a front, and those of it with the rest
pub pairs_split : (R : ℕ → ℕ → Type 0) (xs ys : List ℕ) → Pairs R (xs ++ ys) → Pairs R xs × AllByRecursion (λ x. AllByRecursion (R x) ys) xs
pairs_split R [] ys h = (tt, tt)
pairs_split R (x ∷ xs) ys h =
    let parts = all_split (R x) xs ys h.0 in
    let rest = pairs_split R xs ys h.1 in
    ((parts.0, rest.0), (parts.1, rest.1))

pairs_weaker : (R Q : ℕ → ℕ → Type 0) (xs : List ℕ) → ((x y : ℕ) → R x y → Q x y) → Pairs R xs → Pairs Q xs
pairs_weaker R Q [] f h = tt
pairs_weaker R Q (x ∷ xs) f h = (all_weaker (R x) (Q x) xs (f x) h.0, pairs_weaker R Q xs f h.1)

pub has_level : (gates : List Gate) → IsAcyclic gates → (v : ℕ) → (i : ℕ) × IsLevel gates v i
has_level gates acyclic v = acyclic_levels gates acyclic v

-- nothing comes before itself, nor before what comes before it
pub comes_once : (gates : List Gate) → IsAcyclic gates → (v w : ℕ) → ComesBefore gates v w → v ≢ w
comes_once gates acyclic v w before same =
    let level = has_level gates acyclic v in
    let there : IsLevel gates w level.0 = subst (λ u. IsLevel gates u level.0) same level.1 in
    ⊎_elim (λ lt. absurd (omega arith)) (λ eq. let low = eq.1 in absurd (omega arith)) (before level.0 level.0 level.1 there)

pub comes_one_way : (gates : List Gate) → IsAcyclic gates → (v w : ℕ) → ComesBefore gates v w → ComesBefore gates w v → ⊥
comes_one_way gates acyclic v w before after =
    let i = has_level gates acyclic v in
    let j = has_level gates acyclic w in
    ⊎_elim
    (λ a. ⊎_elim (λ b. absurd (omega arith)) (λ b. let same = b.0 in absurd (omega arith)) (after j.0 i.0 j.1 i.1))
    (λ a. let same = a.0 in let low = a.1 in ⊎_elim (λ b. absurd (omega arith)) (λ b. let other = b.1 in absurd (omega arith)) (after j.0 i.0 j.1 i.1))
    (before i.0 j.0 i.1 j.1)

-- a gate that reads a variable doesn't come after it
reads_before : (gates : List Gate) → IsAcyclic gates → (x : Gate) → Contains gates x → (l : Lit) → (l ≡ x.left) ⊎ (l ≡ x.right) → ComesBefore gates (variable_of l) x.v → ⊥
reads_before gates acyclic x is l side before =
    let i = has_level gates acyclic (variable_of x.left) in
    let j = has_level gates acyclic (variable_of x.right) in
    let here = above x i.0 j.0 is i.1 j.1 in
    ⊎_elim
    (λ e.
    let level : IsLevel gates (variable_of l) i.0 = subst (λ k. IsLevel gates (variable_of k) i.0) (sym e) i.1 in
    ⊎_elim (λ a. absurd (omega arith)) (λ a. let same = a.0 in absurd (omega arith)) (before i.0 (suc (max i.0 j.0)) level here))
    (λ e.
    let level : IsLevel gates (variable_of l) j.0 = subst (λ k. IsLevel gates (variable_of k) j.0) (sym e) j.1 in
    ⊎_elim (λ a. absurd (omega arith)) (λ a. let same = a.0 in absurd (omega arith)) (before j.0 (suc (max i.0 j.0)) level here))
    side

-- the numbers from k on
count_within : (k n : ℕ) → AllByRecursion (λ j. j < k + n) (count_from k n)
count_within k zero = tt
count_within k (suc n) = (omega arith, all_weaker (λ j. j < suc k + n) (λ j. j < k + suc n) (count_from (suc k) n) (λ j h. omega arith) (count_within (suc k) n))

count_above : (k n b : ℕ) → b ≤ k → AllByRecursion (λ j. b ≤ j) (count_from k n)
count_above k zero b h = tt
count_above k (suc n) b h = (h, count_above (suc k) n b (omega arith))

count_once : (k n : ℕ) → Pairs ◌≢◌ (count_from k n)
count_once k zero = tt
count_once k (suc n) = (all_weaker (λ j. suc k ≤ j) (λ j. k ≢ j) (count_from (suc k) n) (λ j h e. absurd (omega arith)) (count_above (suc k) n (suc k) (omega arith)), count_once (suc k) n)

pub count_has : (k n j : ℕ) → k ≤ j → j < k + n → has (count_from k n) j ≡ true
count_has k zero j low high = absurd (omega arith)
count_has k (suc n) j low high =
    ⊎_elim (λ e. or_left (k == j) (has (count_from (suc k) n) j) (eq-eqb k j e))
    (λ ne. or_right (k == j) (has (count_from (suc k) n) j) (count_has (suc k) n j (omega arith) (omega arith))) (cases_eq k j)

pub all_columns_have : (e : Extended) (k : ℕ) → k < length e.graph.outputs → has (all_columns e) k ≡ true
all_columns_have e k h = count_has 0 (length e.graph.outputs) k (omega arith) (omega arith)

columns_within : (e : Extended) → All (λ k. k < length e.graph.outputs) (all_columns e)
columns_within e =
    All-from_recursion (λ k. k < length e.graph.outputs) (all_columns e)
    (all_weaker (λ k. k < 0 + length e.graph.outputs) (λ k. k < length e.graph.outputs) (all_columns e) (λ k h. omega arith) (count_within 0 (length e.graph.outputs)))

pub gates_had : (gates : List Gate) → All (λ x. has (map (λ y. y.v) gates) x.v ≡ true) gates
gates_had gates = All-from_recursion (λ x. has (map (λ y. y.v) gates) x.v ≡ true) gates (go gates (λ v h. h))
  where
    go : (xs : List Gate) → ((v : ℕ) → has (map (λ y. y.v) xs) v ≡ true → has (map (λ y. y.v) gates) v ≡ true) → AllByRecursion (λ x. has (map (λ y. y.v) gates) x.v ≡ true) xs
    go [] h = tt
    go (x ∷ xs) h = (h x.v (or_left (x.v == x.v) (has (map (λ y. y.v) xs) x.v) (eq-eqb x.v x.v refl)), go xs (λ v t. h v (or_right (x.v == v) (has (map (λ y. y.v) xs) v) t)))

module _ (e : Extended) (vs : List ℕ) (t : ℕ) (made : IsExtension e) (plain : IsPlainOrder e.gates vs) where
  same_have : (v : ℕ) → has vs v ≡ has (map (λ x. x.v) e.gates) v
  same_have v = list_any-IsPermutation (λ u. u == v) vs (map (λ x. x.v) e.gates) plain.0

  gates_in : All (λ x. has vs x.v ≡ true) e.gates
  gates_in k d h = same_have (slice_index_or e.gates k d).v ∙ gates_had e.gates k d h

  split : Pairs (ComesBefore e.gates) (take t vs) × AllByRecursion (λ x. AllByRecursion (ComesBefore e.gates x) (drop t vs)) (take t vs)
  split = pairs_split (ComesBefore e.gates) (take t vs) (drop t vs) (subst (Pairs (ComesBefore e.gates)) (sym (take-append-drop t vs)) (pairs_recursion (ComesBefore e.gates) vs plain.1))

  front_or_rest : (v : ℕ) → has vs v ≡ true → (has (take t vs) v ≡ true) ⊎ (has (drop t vs) v ≡ true)
  front_or_rest v h =
      or_cases (has (take t vs) v) (has (drop t vs) v)
      (sym (list_any-append (λ u. u == v) (take t vs) (drop t vs)) ∙ ap (λ us. has us v) (take-append-drop t vs) ∙ h)

  read : (x : Gate) → Contains e.gates x → has vs x.v ≡ true → (l : Lit) → (l ≡ x.left) ⊎ (l ≡ x.right) → has (take t vs) (variable_of l) ≡ true → has (take t vs) x.v ≡ true
  read x is here l side h =
      ⊎_elim (λ f. f)
      (λ r. absurd
      (reads_before e.gates made.acyclic x is l side
      (all_has (λ w. ComesBefore e.gates (variable_of l) w) (drop t vs) x.v (all_has (λ u. AllByRecursion (ComesBefore e.gates u) (drop t vs)) (take t vs) (variable_of l) split.1 h) r)))
      (front_or_rest x.v here)

  front_leaves_frontier : IsFrontier e (all_columns e) (take t vs)
  front_leaves_frontier = record {
    columns = columns_within e;
    gates = All-take (λ v. has (map (λ x. x.v) e.gates) v ≡ true) t vs (λ k d h. sym (same_have (slice_index_or vs k d)) ∙ all_had vs k d h);
    columns_once = pairs_from ◌≢◌ (all_columns e) (count_once 0 (length e.graph.outputs));
    gates_once = pairs_from ◌≢◌ (take t vs) (pairs_weaker (ComesBefore e.gates) ◌≢◌ (take t vs) (comes_once e.gates made.acyclic) split.0);
    readers = λ k d h.
        let x = slice_index_or e.gates k d in
        ⊎_elim (λ l. read x (All-contains_itself e.gates k d h) (gates_in k d h) x.left (inl refl) l) (λ r. read x (All-contains_itself e.gates k d h) (gates_in k d h) x.right (inr refl) r);
    outputs = λ k l is h. all_columns_have e k (omega (arith, slice_get_within (new_outputs e) k l is, length-outputs_from e.replaced 0 e.graph.outputs));
  }

  all_leaves_last : length e.gates ≤ t → IsLastFrontier e (all_columns e) (take t vs)
  all_leaves_last long =
      let size : length vs ≡ length e.gates = sym (length_permutation vs (map (λ x. x.v) e.gates) plain.0) ∙ length-map e.gates (λ x. x.v) in
      let whole : take t vs ≡ vs = take_all t vs (omega arith) in
      record { all_columns = all_columns_have e; all_gates = λ k d h. ap (λ us. has us (slice_index_or e.gates k d).v) whole ∙ gates_in k d h }

pub plain_order_leaves_frontiers : PlainOrderLeavesFrontiers
plain_order_leaves_frontiers e vs t made plain = (front_leaves_frontier e vs t made plain, all_leaves_last e vs t made plain)

-- two lists in one order, with the same elements, are one
ordered_one : (gates : List Gate) → IsAcyclic gates → (vs ws : List ℕ) → Pairs (ComesBefore gates) vs → Pairs (ComesBefore gates) ws → ((u : ℕ) → has vs u ≡ has ws u) → vs ≡ ws
ordered_one gates acyclic [] [] a b h = refl
ordered_one gates acyclic [] (w ∷ ws) a b h = absurd (true≢false (sym (h w ∙ or_left (w == w) (has ws w) (eq-eqb w w refl))))
ordered_one gates acyclic (v ∷ vs) [] a b h = absurd (true≢false (sym (or_left (v == v) (has vs v) (eq-eqb v v refl)) ∙ h v))
ordered_one gates acyclic (v ∷ vs) (w ∷ ws) a b h =
    let first : v ≡ w =
    ⊎_elim (λ e. e)
    (λ ne.
    let w_in : has vs w ≡ true = in_rest v w vs ne (h w ∙ or_left (w == w) (has ws w) (eq-eqb w w refl)) in
    let v_in : has ws v ≡ true = in_rest w v ws (λ e. ne (sym e)) (sym (h v) ∙ or_left (v == v) (has vs v) (eq-eqb v v refl)) in
    absurd (comes_one_way gates acyclic v w (all_has (ComesBefore gates v) vs w a.0 w_in) (all_has (ComesBefore gates w) ws v b.0 v_in)))
    (cases_eq v w) in
    let b' : AllByRecursion (ComesBefore gates v) ws = subst (λ k. AllByRecursion (ComesBefore gates k) ws) (sym first) b.0 in
    ap₂ ◌∷◌ first
    (ordered_one gates acyclic vs ws a.1 b.1
    (λ u. ⊎_elim
    (λ e. subst (λ k. has vs k ≡ has ws k) (eqb-true v u e) (not_later gates acyclic v vs a.0 ∙ sym (not_later gates acyclic v ws b')))
    (λ f. sym (ap (λ c. c || has vs u) f) ∙ h u ∙ ap (λ c. c || has ws u) (ap (λ k. k == u) (sym first) ∙ f))
    (cases_Bool (v == u))))
  where
    in_rest : (x y : ℕ) (us : List ℕ) → x ≢ y → has (x ∷ us) y ≡ true → has us y ≡ true
    in_rest x y us ne t = ap (λ c. c || has us y) (sym (ne_eqb x y ne)) ∙ t

    not_later : (gs : List Gate) → IsAcyclic gs → (x : ℕ) (us : List ℕ) → AllByRecursion (ComesBefore gs x) us → has us x ≡ false
    not_later gs acyclic' x us k = ⊎_elim (λ t. absurd (comes_once gs acyclic' x x (all_has (ComesBefore gs x) us x k t) refl)) (λ f. f) (cases_Bool (has us x))

pub plain_order_is_one : PlainOrderIsOne
plain_order_is_one gates vs ws acyclic a b =
    ordered_one gates acyclic vs ws (pairs_recursion (ComesBefore gates) vs a.1) (pairs_recursion (ComesBefore gates) ws b.1)
    (λ u. list_any-IsPermutation (λ k. k == u) vs (map (λ x. x.v) gates) a.0 ∙ sym (list_any-IsPermutation (λ k. k == u) ws (map (λ x. x.v) gates) b.0))

-- what stands at a place is the first of the rest
at_place : (vs : List ℕ) (t v : ℕ) → slice_get vs t ≡ Some v → (rest : List ℕ) × (drop t vs ≡ v ∷ rest)
at_place [] t v h = absurd (cc)
at_place (w ∷ vs) zero v h = (vs, ap (λ u. u ∷ vs) (some_same h))
  where
    some_same : {x y : ℕ} → Some x ≡ Some y → x ≡ y
    some_same e = cc
at_place (w ∷ vs) (suc t) v h = at_place vs t v h

pub plain_order_finishes : PlainOrderFinishes
plain_order_finishes e eliminated vs t v acyclic plain before is k d low reads =
    let x = slice_index_or e.gates k d in
    let place = at_place vs t v is in
    let same_have : has vs x.v ≡ has (map (λ y. y.v) e.gates) x.v = list_any-IsPermutation (λ u. u == x.v) vs (map (λ y. y.v) e.gates) plain.0 in
    let in_order : has vs x.v ≡ true = same_have ∙ gates_had e.gates k d low in
    let rest_pairs = rest_of (ComesBefore e.gates) (take t vs) (drop t vs) (subst (Pairs (ComesBefore e.gates)) (sym (take-append-drop t vs)) (pairs_recursion (ComesBefore e.gates) vs plain.1)) in
    let here : Pairs (ComesBefore e.gates) (v ∷ place.0) = subst (Pairs (ComesBefore e.gates)) place.1 rest_pairs in
    let left_low : acyclic.0 (variable_of x.left) < acyclic.0 x.v = acyclic.1.left k d low in
    let right_low : acyclic.0 (variable_of x.right) < acyclic.0 x.v = acyclic.1.right k d low in
    let self : x.v ≢ v = λ s. ⊎_elim (λ l. let same = ap acyclic.0 (l ∙ sym s) in omega arith) (λ r. let same = ap acyclic.0 (r ∙ sym s) in omega arith) reads in
    ⊎_elim
    (λ f. all_has (λ w. has eliminated w ≡ true) (take t vs) x.v (recursion_from_All (λ w. has eliminated w ≡ true) (take t vs) before) f)
    (λ r.
    let later : has place.0 x.v ≡ true =
    ⊎_elim (λ s. absurd (self (sym (eqb-true v x.v s)))) (λ s. s) (or_cases (v == x.v) (has place.0 x.v) (ap (λ us. has us x.v) (sym place.1) ∙ r)) in
    let comes : ComesBefore e.gates v x.v = all_has (λ w. ComesBefore e.gates v w) place.0 x.v here.0 later in
    absurd
    (⊎_elim
    (λ l. reads_before e.gates acyclic x (All-contains_itself e.gates k d low) x.left (inl refl) (subst (λ w. ComesBefore e.gates w x.v) (sym l) comes))
    (λ l. reads_before e.gates acyclic x (All-contains_itself e.gates k d low) x.right (inr refl) (subst (λ w. ComesBefore e.gates w x.v) (sym l) comes))
    reads))
    (or_cases (has (take t vs) x.v) (has (drop t vs) x.v) (sym (list_any-append (λ u. u == x.v) (take t vs) (drop t vs)) ∙ ap (λ us. has us x.v) (take-append-drop t vs) ∙ in_order))
  where
    rest_of : (R : ℕ → ℕ → Type 0) (xs ys : List ℕ) → Pairs R (xs ++ ys) → Pairs R ys
    rest_of R [] ys h = h
    rest_of R (x ∷ xs) ys h = rest_of R xs ys h.1
