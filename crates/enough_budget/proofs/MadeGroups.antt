-- The groups of a made graph's gates are its adders and single products.
use Rattle.std.specs.declared.option.Option.{Option}
use Rattle.std.specs.declared.option.Option.TheVariants.{None, Some}
use Rattle.std.specs.Prelude.{◌≡◌, ◌≢◌, ℕ, ◌+◌, ◌*◌, ◌%◌, ◌≤◌, Bool, true, false, cond, ◌&&◌, ◌||◌, List, [], ◌∷◌, ◌++◌, map, reverse, ◌==◌}
use Rattle.std.specs.List.{AllByRecursion}
use Rattle.std.proofs.Common.{refl, sym, ap, ap₂, subst, ◌∙◌, arith, eq-eqb, ne_eqb}
use Rattle.std.proofs.lemmas.List.{reverse-append}
use Rattle.graph_core.specs.declared.literal.Lit.{Lit}
use Rattle.graph_core.specs.declared.gate.Gate.{Gate}
use Rattle.graph_core.specs.Graph.Literals.{negation_of}
use Rattle.graph_core.specs.Graph.Literals.{plain, inverted, and_gate}
use Rattle.graph_core.specs.Graph.Positions.{position}
use Rattle.graph_maker.specs.Cells.{half_gates}
use Rattle.slice_planner.specs.Positions.{reads, is_half, is_carried, is_full}
use Rattle.slice_planner.specs.Groups.{ends_full, ends_half}
use Rattle.slice_planner.proofs.ListedGroups.{all_groups, first_group}
use Rattle.enough_budget.proofs.Network.{Cell, gates_at, size_of, adder_gates}

-- ---- tests

same_number : (x : Lit) → (x.0 == x.0) ≡ true
same_number x = eq-eqb x.0 x.0 refl

reads_own : (v : ℕ) (x y : Lit) → reads (and_gate v x y) x y ≡ true
reads_own v x y = ap₂ (λ a b. (a && b) || ((x.0 == y.0) && (y.0 == x.0))) (same_number x) (same_number y)

half_is : (v : ℕ) (x y : Lit) → is_half (and_gate (v + 1) x y) (and_gate (v + 2) (negation_of x) (negation_of y)) (and_gate (v + 3) (inverted (v + 1)) (inverted (v + 2))) ≡ true
half_is v x y = ap₂ ◌&&◌ (reads_own (v + 2) (negation_of x) (negation_of y)) (reads_own (v + 3) (inverted (v + 1)) (inverted (v + 2)))

carried_is : (v : ℕ) (c : Lit) → is_carried (and_gate (v + 3) (inverted (v + 1)) (inverted (v + 2))) (and_gate (v + 4) (plain (v + 3)) c) (and_gate (v + 5) (inverted (v + 3)) (negation_of c)) ≡ true
carried_is v c =
    let f = and_gate (v + 5) (inverted (v + 3)) (negation_of c) in
    ap₂ (λ a b. (a && b) || ((c.0 == (plain (v + 3)).0) && reads f (inverted (v + 3)) (negation_of (plain (v + 3))))) (same_number (plain (v + 3))) (reads_own (v + 5) (inverted (v + 3)) (negation_of c))

full_is : (v : ℕ) (x y c : Lit) → is_full (and_gate (v + 1) x y) (and_gate (v + 2) (negation_of x) (negation_of y)) (and_gate (v + 3) (inverted (v + 1)) (inverted (v + 2))) (and_gate (v + 4) (plain (v + 3)) c)
    (and_gate (v + 5) (inverted (v + 3)) (negation_of c)) (and_gate (v + 6) (inverted (v + 4)) (inverted (v + 5))) (and_gate (v + 7) (inverted (v + 1)) (inverted (v + 4))) ≡ true
full_is v x y c =
    ap₂ ◌&&◌ (half_is v x y)
    (ap₂ ◌&&◌ (carried_is v c) (ap₂ ◌&&◌ (reads_own (v + 6) (inverted (v + 4)) (inverted (v + 5))) (reads_own (v + 7) (inverted (v + 1)) (inverted (v + 4)))))

-- the gate doesn't read either
reads_not : (g : Gate) (x y : Lit) → g.left.0 ≢ x.0 → g.left.0 ≢ y.0 → reads g x y ≡ false
reads_not g x y h k = ap₂ (λ a b. (a && (g.right.0 == y.0)) || (b && (g.right.0 == x.0))) (ne_eqb g.left.0 x.0 h) (ne_eqb g.left.0 y.0 k)

and_false : (a : Bool) → (a && false) ≡ false
and_false true = refl
and_false false = refl

-- no full adder ends with a gate whose left operand isn't one of the gates' negations
ends_full_not : (h s f : Gate) (rest : List Gate) → AllByRecursion (λ q. h.left.0 ≢ 2 * q.v + 1) rest → ends_full (h ∷ s ∷ f ∷ rest) ≡ false
ends_full_not h s f [] a = refl
ends_full_not h s f (e ∷ []) a = refl
ends_full_not h s f (e ∷ t ∷ []) a = refl
ends_full_not h s f (e ∷ t ∷ w ∷ []) a = refl
ends_full_not h s f (e ∷ t ∷ w ∷ u ∷ more) a =
    let none : reads h (inverted u.v) (inverted e.v) ≡ false = reads_not h (inverted u.v) (inverted e.v) a.1.1.1.0 a.0 in
    ap (λ b. is_half u w t && (is_carried t e f && (reads s (inverted e.v) (inverted f.v) && b))) none ∙
    ap (λ b. is_half u w t && (is_carried t e f && b)) (and_false (reads s (inverted e.v) (inverted f.v))) ∙ ap (λ b. is_half u w t && b) (and_false (is_carried t e f)) ∙ and_false (is_half u w t)

full_group : (v : ℕ) (x y c : Lit) (acc : List Gate) →
    all_groups (reverse (position v x y c) ++ acc) ≡ ((v + 7) ∷ (v + 6) ∷ (v + 5) ∷ (v + 4) ∷ (v + 3) ∷ (v + 2) ∷ (v + 1) ∷ []) ∷ all_groups acc
full_group v x y c acc =
    first_group 7 (and_gate (v + 7) (inverted (v + 1)) (inverted (v + 4)))
    (and_gate (v + 6) (inverted (v + 4)) (inverted (v + 5)) ∷ and_gate (v + 5) (inverted (v + 3)) (negation_of c) ∷ and_gate (v + 4) (plain (v + 3)) c ∷
    and_gate (v + 3) (inverted (v + 1)) (inverted (v + 2)) ∷ and_gate (v + 2) (negation_of x) (negation_of y) ∷ and_gate (v + 1) x y ∷ acc)
    (ap (λ b. cond b 7 (cond (ends_half (reverse (position v x y c) ++ acc)) 3 1)) (full_is v x y c)) (omega arith)

half_group : (v : ℕ) (x y : Lit) (acc : List Gate) → AllByRecursion (λ q. q.v ≤ v) acc →
    all_groups (reverse (half_gates v x y) ++ acc) ≡ ((v + 3) ∷ (v + 2) ∷ (v + 1) ∷ []) ∷ all_groups acc
half_group v x y acc low =
    let t = and_gate (v + 3) (inverted (v + 1)) (inverted (v + 2)) in
    let w = and_gate (v + 2) (negation_of x) (negation_of y) in
    let u = and_gate (v + 1) x y in
    first_group 3 t (w ∷ u ∷ acc)
    (ap₂ (λ a b. cond a 7 (cond b 3 1)) (ends_full_not t w u acc (others acc low)) (half_is v x y)) (omega arith)
  where
    others : (gs : List Gate) → AllByRecursion (λ q. q.v ≤ v) gs → AllByRecursion (λ q. 2 * (v + 1) + 1 ≢ 2 * q.v + 1) gs
    others [] h = tt
    others (q ∷ gs) h = ((λ e. omega (arith, h.0)), others gs h.1)

-- a gate that reads a variable as it stands
abbrev pub IsPlain : Gate → Type 0
IsPlain g = g.left.0 % 2 ≡ 0

single_group : (p : Gate) (acc : List Gate) → IsPlain p → all_groups (p ∷ acc) ≡ (p.v ∷ []) ∷ all_groups acc
single_group p acc even = first_group 1 p acc (ap₂ (λ a b. cond a 7 (cond b 3 1)) (not_full acc) (not_half acc)) (omega arith)
  where
    others : (gs : List Gate) → AllByRecursion (λ q. p.left.0 ≢ 2 * q.v + 1) gs
    others [] = tt
    others (q ∷ gs) = ((λ e. omega arith), others gs)

    not_full : (gs : List Gate) → ends_full (p ∷ gs) ≡ false
    not_full [] = refl
    not_full (s ∷ []) = refl
    not_full (s ∷ f ∷ rest) = ends_full_not p s f rest (others rest)

    not_half : (gs : List Gate) → ends_half (p ∷ gs) ≡ false
    not_half [] = refl
    not_half (w ∷ []) = refl
    not_half (w ∷ u ∷ rest) = ap (λ b. reads w (negation_of u.left) (negation_of u.right) && b) (reads_not p (inverted u.v) (inverted w.v) (λ e. omega arith) (λ e. omega arith)) ∙ and_false (reads w (negation_of u.left) (negation_of u.right))

-- ---- all adders

-- the group of an adder in the variables after v
abbrev pub group_at : ℕ → Option Lit → List ℕ
group_at v None = (v + 3) ∷ (v + 2) ∷ (v + 1) ∷ []
group_at v (Some c) = (v + 7) ∷ (v + 6) ∷ (v + 5) ∷ (v + 4) ∷ (v + 3) ∷ (v + 2) ∷ (v + 1) ∷ []

abbrev pub onto : List (List ℕ) → ℕ → List Cell → List (List ℕ)
onto gs v [] = gs
onto gs v (a ∷ cells) = onto (group_at v a.c ∷ gs) (v + size_of a.c) cells

adder_group : (v : ℕ) (x y : Lit) (c : Option Lit) (acc : List Gate) → AllByRecursion (λ q. q.v ≤ v) acc → all_groups (reverse (gates_at v x y c) ++ acc) ≡ group_at v c ∷ all_groups acc
adder_group v x y None acc low = half_group v x y acc low
adder_group v x y (Some c) acc low = full_group v x y c acc

adder_low : (v : ℕ) (x y : Lit) (c : Option Lit) (acc : List Gate) → AllByRecursion (λ q. q.v ≤ v) acc → AllByRecursion (λ q. q.v ≤ v + size_of c) (reverse (gates_at v x y c) ++ acc)
adder_low v x y None acc low = (omega arith, (omega arith, (omega arith, more acc low)))
  where
    more : (gs : List Gate) → AllByRecursion (λ q. q.v ≤ v) gs → AllByRecursion (λ q. q.v ≤ v + 3) gs
    more [] h = tt
    more (q ∷ gs) h = (omega (arith, h.0), more gs h.1)
adder_low v x y (Some c) acc low = (omega arith, (omega arith, (omega arith, (omega arith, (omega arith, (omega arith, (omega arith, more acc low)))))))
  where
    more : (gs : List Gate) → AllByRecursion (λ q. q.v ≤ v) gs → AllByRecursion (λ q. q.v ≤ v + 7) gs
    more [] h = tt
    more (q ∷ gs) h = (omega (arith, h.0), more gs h.1)

append-assoc : {X : Type 0} (xs ys zs : List X) → (xs ++ ys) ++ zs ≡ xs ++ (ys ++ zs)
append-assoc [] ys zs = refl
append-assoc (x ∷ xs) ys zs = ap (λ ws. x ∷ ws) (append-assoc xs ys zs)

pub adders_groups : (before : List Gate) (v : ℕ) (cells : List Cell) → AllByRecursion (λ q. q.v ≤ v) (reverse before) → all_groups (reverse (before ++ adder_gates v cells)) ≡ onto (all_groups (reverse before)) v cells
adders_groups before v [] low = ap (λ gs. all_groups (reverse gs)) (nil before)
  where
    nil : (gs : List Gate) → gs ++ [] ≡ gs
    nil [] = refl
    nil (q ∷ gs) = ap (λ rs. q ∷ rs) (nil gs)
adders_groups before v (a ∷ cells) low =
    let ga = gates_at v a.x a.y a.c in
    let flip : reverse (before ++ ga) ≡ reverse ga ++ reverse before = reverse-append before ga in
    ap (λ gs. all_groups (reverse gs)) (sym (append-assoc before ga (adder_gates (v + size_of a.c) cells))) ∙
    adders_groups (before ++ ga) (v + size_of a.c) cells (subst (AllByRecursion (λ q. q.v ≤ v + size_of a.c)) (sym flip) (adder_low v a.x a.y a.c (reverse before) low)) ∙
    ap (λ gs. onto gs (v + size_of a.c) cells) (ap all_groups flip ∙ adder_group v a.x a.y a.c (reverse before) low)

-- the groups of single gates
abbrev pub singles : List Gate → List (List ℕ)
singles gates = map (λ q. q.v ∷ []) gates

pub plain_groups : (gates : List Gate) → AllByRecursion IsPlain gates → all_groups gates ≡ singles gates
plain_groups [] h = refl
plain_groups (p ∷ gates) h = single_group p gates h.0 ∙ ap (λ gs. (p.v ∷ []) ∷ gs) (plain_groups gates h.1)
