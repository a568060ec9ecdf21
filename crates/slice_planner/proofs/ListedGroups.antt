-- The groups of a list of gates, and the gates in the plain order, are groups in which readers come first.
use Rattle.std.specs.declared.option.Option.TheVariants.{Some}
use Rattle.std.specs.Prelude.{◌≡◌, ◌≢◌, ℕ, zero, suc, ◌+◌, ◌<◌, ◌≤◌, ◌⊎◌, Bool, true, false, cond, List, [], ◌∷◌, ◌++◌, map, length, take, drop, reverse, slice_get, ◌==◌}
use Rattle.std.specs.List.{All, AllByRecursion, AllPairs, concat}
use Rattle.std.proofs.Common.{refl, sym, ap, subst, ◌∙◌, arith, ⊎_elim, eq-eqb}
use Rattle.std.proofs.lemmas.Bool.{or_left, or_right}
use Rattle.std.proofs.lemmas.List.{reverse-append, length-reverse, take-append-drop}
use Rattle.std.proofs.lemmas.List.Elements.{recursion_from_All, All-from_recursion}
use Rattle.graph_core.specs.declared.gate.Gate.{Gate}
use Rattle.graph_core.specs.Graph.Literals.{variable_of}
use Rattle.graph_core.specs.Graph.{defined}
use Rattle.graph_core.proofs.OfGraphs.CallerLemmas.{Apart, all_join, all_split, all_weaker, apart_from_pairs, rest_apart}
use Rattle.ripple_graft.specs.Extension.{whole}
use Rattle.ripple_graft.proofs.MoreGates.{pairs_from_apart}
use Rattle.frontier_core.specs.Sets.{has}
use Rattle.frontier_core.proofs.Everywhere.{all_of_map}
use Rattle.frontier_core.proofs.PlainOrders.{plain_order_leaves_frontiers, plain_order_finishes}
use Rattle.slice_planner.specs.Groups.{ends_full, ends_half, group_size, groups_of, groups}
use Rattle.slice_planner.specs.GroupPlans.{AreReadersFirst, AreInOrder, ListedGroupsServe, PlainGroupsServe}
use Rattle.slice_planner.proofs.GroupPlans.{has_reversed, all_has_itself, all_reversed}

-- ---- the groups together are the list

map_append : {X Y : Type 0} (f : X → Y) (xs ys : List X) → map f (xs ++ ys) ≡ map f xs ++ map f ys
map_append f [] ys = refl
map_append f (x ∷ xs) ys = ap (λ zs. f x ∷ zs) (map_append f xs ys)

pub map_reverse : {X Y : Type 0} (f : X → Y) (xs : List X) → map f (reverse xs) ≡ reverse (map f xs)
map_reverse f [] = refl
map_reverse f (x ∷ xs) =
    ap (map f) (reverse-append (x ∷ []) xs) ∙ map_append f (reverse xs) (x ∷ []) ∙ ap (λ ys. ys ++ f x ∷ []) (map_reverse f xs) ∙ sym (reverse-append (f x ∷ []) (map f xs))

size_positive : (gs : List Gate) → 0 < group_size gs
size_positive gs = go (ends_full gs) (ends_half gs)
  where
    go : (a b : Bool) → 0 < cond a 7 (cond b 3 1)
    go true b = omega arith
    go false true = omega arith
    go false false = omega arith

drop_short : (s : ℕ) (gs : List Gate) → length (drop s gs) ≤ length gs
drop_short zero gs = omega arith
drop_short (suc s) [] = omega arith
drop_short (suc s) (y ∷ gs) = omega (arith, drop_short s gs)

drop_shorter : (s : ℕ) → 0 < s → (y : Gate) (gs : List Gate) → length (drop s (y ∷ gs)) ≤ length gs
drop_shorter zero p y gs = absurd (omega arith)
drop_shorter (suc s) p y gs = drop_short s gs

-- as many steps as there are gates are enough
pub fuel : (j k : ℕ) (gates : List Gate) → length gates ≤ j → length gates ≤ k → groups_of j gates ≡ groups_of k gates
fuel zero zero gates h i = refl
fuel zero (suc k) [] h i = refl
fuel zero (suc k) (x ∷ gates) h i = absurd (omega arith)
fuel (suc j) zero [] h i = refl
fuel (suc j) zero (x ∷ gates) h i = absurd (omega arith)
fuel (suc j) (suc k) [] h i = refl
fuel (suc j) (suc k) (x ∷ gates) h i =
    let s = group_size (x ∷ gates) in
    let short = drop_shorter s (size_positive (x ∷ gates)) x gates in
    ap (λ gs. map (λ y. y.v) (take s (x ∷ gates)) ∷ gs) (fuel j k (drop s (x ∷ gates)) (omega arith) (omega arith))

-- the groups of a list with the last gate first
abbrev pub all_groups : List Gate → List (List ℕ)
all_groups gates = groups_of (length gates) gates

pub first_group : (s : ℕ) (x : Gate) (gates : List Gate) → group_size (x ∷ gates) ≡ s → length (drop s (x ∷ gates)) ≤ length gates →
    all_groups (x ∷ gates) ≡ map (λ y. y.v) (take s (x ∷ gates)) ∷ all_groups (drop s (x ∷ gates))
first_group s x gates e short =
    ap (λ k. map (λ y. y.v) (take k (x ∷ gates)) ∷ groups_of (length gates) (drop k (x ∷ gates))) e ∙
    ap (λ gs. map (λ y. y.v) (take s (x ∷ gates)) ∷ gs) (fuel (length gates) (length (drop s (x ∷ gates))) (drop s (x ∷ gates)) short (omega arith))

-- they have all gates
concat_groups : (k : ℕ) (gs : List Gate) → length gs ≤ k → concat (groups_of k gs) ≡ map (λ x. x.v) gs
concat_groups zero [] h = refl
concat_groups zero (x ∷ gs) h = absurd (omega arith)
concat_groups (suc k) [] h = refl
concat_groups (suc k) (x ∷ gs) h =
    let s = group_size (x ∷ gs) in
    let short = drop_shorter s (size_positive (x ∷ gs)) x gs in
    ap (λ vs. map (λ y. y.v) (take s (x ∷ gs)) ++ vs) (concat_groups k (drop s (x ∷ gs)) (omega arith)) ∙
    sym (map_append (λ y. y.v) (take s (x ∷ gs)) (drop s (x ∷ gs))) ∙ ap (map (λ y. y.v)) (take-append-drop s (x ∷ gs))

listed : (gs : List Gate) → concat (groups gs) ≡ map (λ x. x.v) (reverse gs)
listed gs = concat_groups (length gs) (reverse gs) (omega (arith, length-reverse gs))

-- ---- readers first

append_assoc : {X : Type 0} (xs ys zs : List X) → (xs ++ ys) ++ zs ≡ xs ++ (ys ++ zs)
append_assoc [] ys zs = refl
append_assoc (x ∷ xs) ys zs = ap (λ ws. x ∷ ws) (append_assoc xs ys zs)

append_nil : {X : Type 0} (xs : List X) → xs ++ [] ≡ xs
append_nil [] = refl
append_nil (x ∷ xs) = ap (λ ws. x ∷ ws) (append_nil xs)

reverse_twice : {X : Type 0} (xs : List X) → reverse (reverse xs) ≡ xs
reverse_twice [] = refl
reverse_twice (x ∷ xs) = ap reverse (reverse-append (x ∷ []) xs) ∙ reverse-append (reverse xs) (x ∷ []) ∙ ap (λ ys. x ∷ ys) (reverse_twice xs)

-- the gates before one don't read it
front_apart : (front : List Gate) (x : Gate) (rest : List Gate) → AreInOrder (front ++ x ∷ rest) → AllByRecursion (λ y. (variable_of y.left ≢ x.v) × (variable_of y.right ≢ x.v)) front
front_apart [] x rest h = tt
front_apart (y ∷ front) x rest h =
    let all = recursion_from_All (λ z. (variable_of y.left ≢ z.v) × (variable_of y.right ≢ z.v)) (y ∷ (front ++ x ∷ rest)) h.0 in
    ((all_split (λ z. (variable_of y.left ≢ z.v) × (variable_of y.right ≢ z.v)) front (x ∷ rest) all.1).1.0, front_apart front x rest h.1)

rest_order : (front rest : List Gate) → AreInOrder (front ++ rest) → AreInOrder rest
rest_order [] rest h = h
rest_order (y ∷ front) rest h = rest_order front rest h.1

readers_first : (gates back post : List Gate) (seen : List ℕ) → AreInOrder gates → gates ≡ reverse back ++ post → AllByRecursion (λ y. has seen y.v ≡ true) post → AreReadersFirst gates seen (map (λ x. x.v) back)
readers_first gates [] post seen order is h = tt
readers_first gates (x ∷ back) post seen order is h =
    let is' : gates ≡ reverse back ++ (x ∷ post) = is ∙ ap (λ gs. gs ++ post) (reverse-append (x ∷ []) back) ∙ append_assoc (reverse back) (x ∷ []) post in
    let order' : AreInOrder (reverse back ++ (x ∷ post)) = subst AreInOrder is' order in
    let itself = (recursion_from_All (λ z. (variable_of x.left ≢ z.v) × (variable_of x.right ≢ z.v)) (x ∷ post) (rest_order (reverse back) (x ∷ post) order').0).0 in
    let front = all_weaker (λ y. (variable_of y.left ≢ x.v) × (variable_of y.right ≢ x.v)) (λ y. (variable_of y.left ≡ x.v) ⊎ (variable_of y.right ≡ x.v) → has seen y.v ≡ true) (reverse back)
    (λ y k r. ⊎_elim (λ s. absurd (k.0 s)) (λ s. absurd (k.1 s)) r) (front_apart (reverse back) x post order') in
    let behind = all_weaker (λ y. has seen y.v ≡ true) (λ y. (variable_of y.left ≡ x.v) ⊎ (variable_of y.right ≡ x.v) → has seen y.v ≡ true) post (λ y k r. k) h in (
      All-from_recursion (λ y. (variable_of y.left ≡ x.v) ⊎ (variable_of y.right ≡ x.v) → has seen y.v ≡ true) gates
          (subst (AllByRecursion (λ y. (variable_of y.left ≡ x.v) ⊎ (variable_of y.right ≡ x.v) → has seen y.v ≡ true)) (sym is')
          (all_join (λ y. (variable_of y.left ≡ x.v) ⊎ (variable_of y.right ≡ x.v) → has seen y.v ≡ true) (reverse back) (x ∷ post) front ((λ r. ⊎_elim (λ s. absurd (itself.0 s)) (λ s. absurd (itself.1 s)) r), behind))),
      readers_first gates back (x ∷ post) (x.v ∷ seen) order is'
          (or_left (x.v == x.v) (has seen x.v) (eq-eqb x.v x.v refl), all_weaker (λ y. has seen y.v ≡ true) (λ y. has (x.v ∷ seen) y.v ≡ true) post (λ y k. or_right (x.v == y.v) (has seen y.v) k) h),
    )

apart_one : (vs : List ℕ) (v : ℕ) → Apart vs → AllByRecursion (λ w. w ≢ v) vs → Apart (vs ++ v ∷ [])
apart_one [] v a b = (tt, tt)
apart_one (w ∷ vs) v a b = (all_join (λ x. w ≢ x) vs (v ∷ []) a.0 (b.0, tt), apart_one vs v a.1 b.1)

apart_reversed : (vs : List ℕ) → Apart vs → Apart (reverse vs)
apart_reversed [] h = tt
apart_reversed (v ∷ vs) h =
    subst Apart (sym (reverse-append (v ∷ []) vs)) (apart_one (reverse vs) v (apart_reversed vs h.1) (all_reversed (λ w. w ≢ v) vs (all_weaker (λ w. v ≢ w) (λ w. w ≢ v) vs (λ w k e. k (sym e)) h.0)))

pub listed_groups_serve : ListedGroupsServe
listed_groups_serve e made order =
    let V = map (λ x. x.v) e.gates in
    let is : concat (groups e.gates) ≡ reverse V = listed e.gates ∙ map_reverse (λ x. x.v) e.gates in
    let apart : Apart V = rest_apart (map variable_of e.graph.inputs) V (apart_from_pairs (defined (whole e)) made.defined_once.once) in
    record {
      all = subst (λ vs. All (λ x. has vs x.v ≡ true) e.gates) (sym is)
          (All-from_recursion (λ x. has (reverse V) x.v ≡ true) e.gates (all_weaker (λ x. has V x.v ≡ true) (λ x. has (reverse V) x.v ≡ true) e.gates (λ x t. has_reversed V x.v t) (all_of_map (λ v. has V v ≡ true) (λ x. x.v) e.gates (all_has_itself V))));
      gates = subst (All (λ v. has V v ≡ true)) (sym is) (All-from_recursion (λ v. has V v ≡ true) (reverse V) (all_reversed (λ v. has V v ≡ true) V (all_has_itself V)));
      once = subst (AllPairs ◌≢◌) (sym is) (pairs_from_apart (reverse V) (apart_reversed V apart));
      order = subst (AreReadersFirst e.gates []) (sym (listed e.gates)) (readers_first e.gates (reverse e.gates) [] [] order (sym (append_nil (reverse (reverse e.gates)) ∙ reverse_twice e.gates)) tt);
    }

-- ---- the plain order

singles_concat : (vs : List ℕ) → concat (map (λ v. v ∷ []) vs) ≡ vs
singles_concat [] = refl
singles_concat (v ∷ vs) = ap (λ us. v ∷ us) (singles_concat vs)

take_full : (t : ℕ) (vs : List ℕ) → length vs ≤ t → take t vs ≡ vs
take_full zero [] h = refl
take_full zero (v ∷ vs) h = absurd (omega arith)
take_full (suc t) [] h = refl
take_full (suc t) (v ∷ vs) h = ap (λ us. v ∷ us) (take_full t vs (omega arith))

take_seam : (done rest : List ℕ) → take (length done) (done ++ rest) ≡ done
take_seam [] rest = refl
take_seam (v ∷ done) rest = ap (λ us. v ∷ us) (take_seam done rest)

get_seam : (done : List ℕ) (v : ℕ) (rest : List ℕ) → slice_get (done ++ v ∷ rest) (length done) ≡ Some v
get_seam [] v rest = refl
get_seam (w ∷ done) v rest = get_seam done v rest

pub plain_groups_serve : PlainGroupsServe
plain_groups_serve e vs made plain =
    let t = length vs + length e.gates in
    let all : take t vs ≡ vs = take_full t vs (omega arith) in
    let laws = plain_order_leaves_frontiers e vs t made plain in
    record {
      all = subst (λ us. All (λ x. has us x.v ≡ true) e.gates) (all ∙ sym (singles_concat vs)) (laws.1 (omega arith)).all_gates;
      gates = subst (All (λ v. has (map (λ x. x.v) e.gates) v ≡ true)) (all ∙ sym (singles_concat vs)) laws.0.gates;
      once = subst (AllPairs ◌≢◌) (all ∙ sym (singles_concat vs)) laws.0.gates_once;
      order = subst (AreReadersFirst e.gates []) (sym (singles_concat vs)) (order [] vs [] refl tt);
    }
  where
    order : (done rest seen : List ℕ) → vs ≡ done ++ rest → AllByRecursion (λ w. has seen w ≡ true) done → AreReadersFirst e.gates seen rest
    order done [] seen is h = tt
    order done (v ∷ rest) seen is h = (
      plain_order_finishes e seen vs (length done) v made.acyclic plain
          (All-from_recursion (λ w. has seen w ≡ true) (take (length done) vs) (subst (AllByRecursion (λ w. has seen w ≡ true)) (sym (ap (take (length done)) is ∙ take_seam done (v ∷ rest))) h))
          (ap (λ us. slice_get us (length done)) is ∙ get_seam done v rest),
      order (done ++ v ∷ []) rest (v ∷ seen) (is ∙ sym (append_assoc done (v ∷ []) rest))
          (all_join (λ w. has (v ∷ seen) w ≡ true) done (v ∷ []) (all_weaker (λ w. has seen w ≡ true) (λ w. has (v ∷ seen) w ≡ true) done (λ w k. or_right (v == w) (has seen w) k) h) (or_left (v == v) (has seen v) (eq-eqb v v refl), tt)),
    )
