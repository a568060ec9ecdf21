-- The order of the gates' operands doesn't matter.
use Rattle.std.specs.declared.option.Option.TheVariants.{Some}
use Rattle.std.specs.Prelude.{◌≡◌, ℕ, zero, suc, ◌+◌, ◌*◌, ◌%◌, ◌<◌, ◌≤◌, ◌⊎◌, true, cond, ◌&&◌, ◌||◌, List, [], ◌∷◌, map, length, take, drop, reverse, ◌==◌, nat_lt}
use Rattle.std.specs.List.{All, AllByRecursion, find}
use Rattle.std.proofs.Common.{refl, sym, ap, ap₂, subst, ◌∙◌, inl, inr, ⊎_elim}
use Rattle.std.proofs.Math.Bool.{and_comm, or_comm}
use Rattle.std.proofs.Math.Path.{fun_ext}
use Rattle.std.proofs.lemmas.List.{reverse-append, length-map}
use Rattle.std.proofs.lemmas.List.Elements.{recursion_from_All, All-from_recursion}
use Rattle.graph_core.specs.declared.literal.Lit.{Lit}
use Rattle.graph_core.specs.declared.gate.Gate.{Gate}
use Rattle.graph_core.specs.declared.order.Order.TheVariants.{Separate}
use Rattle.graph_core.specs.Graph.Assignments.{Assignment, literal}
use Rattle.graph_core.specs.Graph.Literals.{variable_of, negation_of, plain, inverted}
use Rattle.graph_core.specs.Graph.{Aig, computed, rounds, evaluation, greater_first}
use Rattle.graph_core.specs.Graph.Operands.{sides_of}
use Rattle.graph_core.specs.Graph.Extended.{without_cut, modulus}
use Rattle.algebra_core.specs.NormalForm.{HasSize}
use Rattle.ripple_graft.specs.Extension.{new_outputs}
use Rattle.frontier_core.specs.declared.step.Step.{Step}
use Rattle.frontier_core.specs.Sets.{has}
use Rattle.frontier_core.specs.Frontier.{IsFrontier, gates_among, frontier_value}
use Rattle.frontier_core.specs.Columns.{columns_sum}
use Rattle.frontier_core.specs.Plan.{nothing, taken, AreSteps}
use Rattle.graph_maker.specs.declared.kind.Kind.{Kind}
use Rattle.graph_maker.specs.declared.adder.Adder.TheVariants.{Ripple}
use Rattle.graph_core.proofs.OfGraphs.CallerLemmas.{all_join, by_cases}
use Rattle.graph_maker.specs.Made.{made}
use Rattle.slice_planner.specs.Positions.{reads, is_half, is_carried}
use Rattle.slice_planner.specs.Groups.{ends_full, ends_half, group_size, groups_of, groups, AreByGroups}
use Rattle.slice_planner.proofs.ListedGroups.{map_reverse}
use Rattle.enough_budget.specs.MadeSlices.{MadeSlicesAreSmall}
use Rattle.enough_budget.proofs.Needed.{IsReader}
use Rattle.enough_budget.proofs.SmallSlices.{fronts_all, fronts_first, by_groups_small}

-- one gate as another, but for the order of its operands
abbrev pub IsSame : Gate → Gate → Type 0
IsSame x y = (x.v ≡ y.v) × (((x.left ≡ y.left) × (x.right ≡ y.right)) ⊎ ((x.left ≡ y.right) × (x.right ≡ y.left)))

abbrev pub ArePairs : List (Gate × Gate) → Type 0
ArePairs ps = AllByRecursion (λ p. IsSame p.0 p.1) ps

abbrev pub firsts : List (Gate × Gate) → List Gate
firsts ps = map (λ p. p.0) ps

abbrev pub seconds : List (Gate × Gate) → List Gate
seconds ps = map (λ p. p.1) ps

-- ---- the pairs of two lists that are one up to operands

greater_same : (x : Gate) → IsSame x (greater_first x)
greater_same x = by_cases (λ t. IsSame x (cond t (record { v = x.v; left = x.right; right = x.left }) x)) (nat_lt x.left.0 x.right.0) (λ t. (refl, inr (refl, refl))) (λ t. (refl, inl (refl, refl)))

same_both : (x y z : Gate) → IsSame x z → IsSame y z → IsSame x y
same_both x y z h k = (
  h.0 ∙ sym k.0,
  ⊎_elim (λ a. ⊎_elim (λ b. inl (a.0 ∙ sym b.0, a.1 ∙ sym b.1)) (λ b. inr (a.0 ∙ sym b.1, a.1 ∙ sym b.0)) k.1)
      (λ a. ⊎_elim (λ b. inr (a.0 ∙ sym b.1, a.1 ∙ sym b.0)) (λ b. inl (a.0 ∙ sym b.0, a.1 ∙ sym b.1)) k.1) h.1,
)

abbrev head_or : Gate → List Gate → Gate
head_or d [] = d
head_or d (x ∷ xs) = x

abbrev tail : List Gate → List Gate
tail [] = []
tail (x ∷ xs) = xs

pub record IsPaired (gs hs : List Gate) : Type 0 where
  pub pairs : List (Gate × Gate)
  pub first : firsts pairs ≡ gs
  pub second : seconds pairs ≡ hs
  pub same : ArePairs pairs

pub paired : (gs hs : List Gate) → map greater_first gs ≡ map greater_first hs → IsPaired gs hs
paired [] [] e = record { pairs = []; first = refl; second = refl; same = tt }
paired [] (y ∷ hs) e = absurd (cc)
paired (x ∷ gs) [] e = absurd (cc)
paired (x ∷ gs) (y ∷ hs) e =
    let rest = paired gs hs (ap tail e) in
    let one : greater_first x ≡ greater_first y = ap (head_or x) e in
    record {
      pairs = (x, y) ∷ rest.pairs;
      first = ap (λ ls. x ∷ ls) rest.first;
      second = ap (λ ls. y ∷ ls) rest.second;
      same = (same_both x y (greater_first x) (greater_same x) (subst (IsSame y) (sym one) (greater_same y)), rest.same);
    }

-- ---- evaluation

computed_same : (σ : Assignment) (v : ℕ) (x y : Gate) → IsSame x y → (literal σ x.left && literal σ x.right) ≡ (literal σ y.left && literal σ y.right)
computed_same σ v x y h = ⊎_elim (λ a. ap₂ (λ l r. literal σ l && literal σ r) a.0 a.1) (λ a. ap₂ (λ l r. literal σ l && literal σ r) a.0 a.1 ∙ and_comm (literal σ y.right) (literal σ y.left)) h.1

find_same : (σ : Assignment) (v : ℕ) (ps : List (Gate × Gate)) → ArePairs ps → computed σ v (find (λ q. q.v == v) (firsts ps)) ≡ computed σ v (find (λ q. q.v == v) (seconds ps))
find_same σ v [] h = refl
find_same σ v (p ∷ ps) h =
    let rest = find_same σ v ps h.1 in
    ap (λ k. computed σ v (cond (k == v) (Some p.0) (find (λ q. q.v == v) (firsts ps)))) h.0.0 ∙
    by_cases (λ t. computed σ v (cond t (Some p.0) (find (λ q. q.v == v) (firsts ps))) ≡ computed σ v (cond t (Some p.1) (find (λ q. q.v == v) (seconds ps)))) (p.1.v == v) (λ t. computed_same σ v p.0 p.1 h.0) (λ t. rest)

rounds_same : (t : ℕ) (ps : List (Gate × Gate)) → ArePairs ps → (σ : Assignment) (v : ℕ) → rounds t (firsts ps) σ v ≡ rounds t (seconds ps) σ v
rounds_same zero ps h σ v = refl
rounds_same (suc t) ps h σ v =
    ap (λ τ. computed τ v (find (λ q. q.v == v) (firsts ps))) (fun_ext (rounds_same t ps h σ)) ∙ find_same (rounds t (seconds ps) σ) v ps h

evaluation_same : (ps : List (Gate × Gate)) → ArePairs ps → (σ : Assignment) → evaluation (firsts ps) σ ≡ evaluation (seconds ps) σ
evaluation_same ps h σ =
    ap (λ k. rounds k (firsts ps) σ) (length-map ps (λ p. p.0) ∙ sym (length-map ps (λ p. p.1))) ∙ fun_ext (rounds_same (length (seconds ps)) ps h σ)

record IsFiltered (E : List ℕ) (ps : List (Gate × Gate)) : Type 0 where
  kept : List (Gate × Gate)
  first : firsts kept ≡ gates_among E (firsts ps)
  second : seconds kept ≡ gates_among E (seconds ps)
  same : ArePairs kept

filtered : (E : List ℕ) (ps : List (Gate × Gate)) → ArePairs ps → IsFiltered E ps
filtered E [] h = record { kept = []; first = refl; second = refl; same = tt }
filtered E (p ∷ ps) h =
    let rest = filtered E ps h.1 in
    record {
      kept = cond (has E p.0.v) (p ∷ rest.kept) rest.kept;
      first = by_cases (λ t. firsts (cond t (p ∷ rest.kept) rest.kept) ≡ cond t (p.0 ∷ gates_among E (firsts ps)) (gates_among E (firsts ps))) (has E p.0.v) (λ t. ap (λ gs. p.0 ∷ gs) rest.first) (λ t. rest.first);
      second = by_cases (λ t. seconds (cond t (p ∷ rest.kept) rest.kept) ≡ cond t (p.1 ∷ gates_among E (seconds ps)) (gates_among E (seconds ps))) (has E p.0.v) (λ t. ap (λ gs. p.1 ∷ gs) rest.second) (λ t. rest.second) ∙
          ap (λ v. cond (has E v) (p.1 ∷ gates_among E (seconds ps)) (gates_among E (seconds ps))) h.0.0;
      same = by_cases (λ t. ArePairs (cond t (p ∷ rest.kept) rest.kept)) (has E p.0.v) (λ t. (h.0, rest.same)) (λ t. rest.same);
    }

among_same : (E : List ℕ) (ps : List (Gate × Gate)) → ArePairs ps → (σ : Assignment) → evaluation (gates_among E (firsts ps)) σ ≡ evaluation (gates_among E (seconds ps)) σ
among_same E ps h σ = let k = filtered E ps h in ap (λ gs. evaluation gs σ) (sym k.first) ∙ evaluation_same k.kept k.same σ ∙ ap (λ gs. evaluation gs σ) k.second

-- ---- groups

reads_flip : (g : Gate) (x y : Lit) → reads g x y ≡ reads g y x
reads_flip g x y = or_comm ((g.left.0 == x.0) && (g.right.0 == y.0)) ((g.left.0 == y.0) && (g.right.0 == x.0))

reads_same : (g h : Gate) (x y : Lit) → IsSame g h → reads g x y ≡ reads h x y
reads_same g h x y s =
    ⊎_elim (λ a. ap₂ (λ l r. ((l.0 == x.0) && (r.0 == y.0)) || ((l.0 == y.0) && (r.0 == x.0))) a.0 a.1)
    (λ a. ap₂ (λ l r. ((l.0 == x.0) && (r.0 == y.0)) || ((l.0 == y.0) && (r.0 == x.0))) a.0 a.1 ∙
    ap₂ ◌||◌ (and_comm (h.right.0 == x.0) (h.left.0 == y.0)) (and_comm (h.right.0 == y.0) (h.left.0 == x.0)) ∙ reads_flip h y x) s.1

half_same : (u u' w w' t t' : Gate) → IsSame u u' → IsSame w w' → IsSame t t' → is_half u w t ≡ is_half u' w' t'
half_same u u' w w' t t' a b c =
    ap₂ ◌&&◌
    (⊎_elim (λ s. ap₂ (λ l r. reads w (negation_of l) (negation_of r)) s.0 s.1) (λ s. ap₂ (λ l r. reads w (negation_of l) (negation_of r)) s.0 s.1 ∙ reads_flip w (negation_of u'.right) (negation_of u'.left)) a.1 ∙
    reads_same w w' (negation_of u'.left) (negation_of u'.right) b)
    (ap₂ (λ i j. reads t (inverted i) (inverted j)) a.0 b.0 ∙ reads_same t t' (inverted u'.v) (inverted w'.v) c)

carried_same : (t t' e e' f f' : Gate) → IsSame t t' → IsSame e e' → IsSame f f' → is_carried t e f ≡ is_carried t' e' f'
carried_same t t' e e' f f' a b c =
    ap (λ v. ((e.left.0 == (plain v).0) && reads f (inverted v) (negation_of e.right)) || ((e.right.0 == (plain v).0) && reads f (inverted v) (negation_of e.left))) a.0 ∙
    ⊎_elim (λ s. ap₂ (λ l r. ((l.0 == (plain t'.v).0) && reads f (inverted t'.v) (negation_of r)) || ((r.0 == (plain t'.v).0) && reads f (inverted t'.v) (negation_of l))) s.0 s.1)
    (λ s. ap₂ (λ l r. ((l.0 == (plain t'.v).0) && reads f (inverted t'.v) (negation_of r)) || ((r.0 == (plain t'.v).0) && reads f (inverted t'.v) (negation_of l))) s.0 s.1 ∙
    or_comm ((e'.right.0 == (plain t'.v).0) && reads f (inverted t'.v) (negation_of e'.left)) ((e'.left.0 == (plain t'.v).0) && reads f (inverted t'.v) (negation_of e'.right))) b.1 ∙
    ap₂ (λ p q. ((e'.left.0 == (plain t'.v).0) && p) || ((e'.right.0 == (plain t'.v).0) && q)) (reads_same f f' (inverted t'.v) (negation_of e'.right) c) (reads_same f f' (inverted t'.v) (negation_of e'.left) c)

full_ends_same : (ps : List (Gate × Gate)) → ArePairs ps → ends_full (firsts ps) ≡ ends_full (seconds ps)
full_ends_same [] h = refl
full_ends_same (a ∷ []) h = refl
full_ends_same (a ∷ b ∷ []) h = refl
full_ends_same (a ∷ b ∷ c ∷ []) h = refl
full_ends_same (a ∷ b ∷ c ∷ d ∷ []) h = refl
full_ends_same (a ∷ b ∷ c ∷ d ∷ t ∷ []) h = refl
full_ends_same (a ∷ b ∷ c ∷ d ∷ t ∷ w ∷ []) h = refl
full_ends_same (x ∷ s ∷ f ∷ d ∷ t ∷ w ∷ u ∷ more) h =
    let xs = h.0 in
    let ss = h.1.0 in
    let fs = h.1.1.0 in
    let ds = h.1.1.1.0 in
    let ts = h.1.1.1.1.0 in
    let ws = h.1.1.1.1.1.0 in
    let us = h.1.1.1.1.1.1.0 in
    ap₂ ◌&&◌ (half_same u.0 u.1 w.0 w.1 t.0 t.1 us ws ts)
    (ap₂ ◌&&◌ (carried_same t.0 t.1 d.0 d.1 f.0 f.1 ts ds fs)
    (ap₂ ◌&&◌ (ap₂ (λ i j. reads s.0 (inverted i) (inverted j)) ds.0 fs.0 ∙ reads_same s.0 s.1 (inverted d.1.v) (inverted f.1.v) ss)
    (ap₂ (λ i j. reads x.0 (inverted i) (inverted j)) us.0 ds.0 ∙ reads_same x.0 x.1 (inverted u.1.v) (inverted d.1.v) xs)))

half_ends_same : (ps : List (Gate × Gate)) → ArePairs ps → ends_half (firsts ps) ≡ ends_half (seconds ps)
half_ends_same [] h = refl
half_ends_same (a ∷ []) h = refl
half_ends_same (a ∷ b ∷ []) h = refl
half_ends_same (t ∷ w ∷ u ∷ more) h = half_same u.0 u.1 w.0 w.1 t.0 t.1 h.1.1.0 h.1.0 h.0

drop_firsts : (s : ℕ) (ps : List (Gate × Gate)) → drop s (firsts ps) ≡ firsts (drop s ps)
drop_firsts zero ps = refl
drop_firsts (suc s) [] = refl
drop_firsts (suc s) (p ∷ ps) = drop_firsts s ps

drop_seconds : (s : ℕ) (ps : List (Gate × Gate)) → drop s (seconds ps) ≡ seconds (drop s ps)
drop_seconds zero ps = refl
drop_seconds (suc s) [] = refl
drop_seconds (suc s) (p ∷ ps) = drop_seconds s ps

drop_pairs : (s : ℕ) (ps : List (Gate × Gate)) → ArePairs ps → ArePairs (drop s ps)
drop_pairs zero ps h = h
drop_pairs (suc s) [] h = tt
drop_pairs (suc s) (p ∷ ps) h = drop_pairs s ps h.1

take_same : (s : ℕ) (ps : List (Gate × Gate)) → ArePairs ps → map (λ q. q.v) (take s (firsts ps)) ≡ map (λ q. q.v) (take s (seconds ps))
take_same zero ps h = refl
take_same (suc s) [] h = refl
take_same (suc s) (p ∷ ps) h = ap₂ (λ v vs. v ∷ vs) h.0.0 (take_same s ps h.1)

groups_of_same : (k : ℕ) (ps : List (Gate × Gate)) → ArePairs ps → groups_of k (firsts ps) ≡ groups_of k (seconds ps)
groups_of_same zero ps h = refl
groups_of_same (suc k) [] h = refl
groups_of_same (suc k) (p ∷ ps) h =
    let s = group_size (seconds (p ∷ ps)) in
    let size : group_size (firsts (p ∷ ps)) ≡ s = ap₂ (λ a b. cond a 7 (cond b 3 1)) (full_ends_same (p ∷ ps) h) (half_ends_same (p ∷ ps) h) in
    ap (λ j. map (λ q. q.v) (take j (firsts (p ∷ ps))) ∷ groups_of k (drop j (firsts (p ∷ ps)))) size ∙
    ap₂ (λ x xs. x ∷ xs) (take_same s (p ∷ ps) h)
    (ap (groups_of k) (drop_firsts s (p ∷ ps)) ∙ groups_of_same k (drop s (p ∷ ps)) (drop_pairs s (p ∷ ps) h) ∙ ap (groups_of k) (sym (drop_seconds s (p ∷ ps))))

reverse_pairs : (ps : List (Gate × Gate)) → ArePairs ps → ArePairs (reverse ps)
reverse_pairs [] h = tt
reverse_pairs (p ∷ ps) h = subst ArePairs (sym (reverse-append (p ∷ []) ps)) (all_join (λ q. IsSame q.0 q.1) (reverse ps) (p ∷ []) (reverse_pairs ps h.1) (h.0, tt))

pub groups_same : (ps : List (Gate × Gate)) → ArePairs ps → groups (firsts ps) ≡ groups (seconds ps)
groups_same ps h =
    ap₂ groups_of (length-map ps (λ p. p.0)) (sym (map_reverse (λ p. p.0) ps)) ∙ groups_of_same (length ps) (reverse ps) (reverse_pairs ps h) ∙
    ap₂ groups_of (sym (length-map ps (λ p. p.1))) (map_reverse (λ p. p.1) ps)

-- ---- frontiers

pub variables_same : (ps : List (Gate × Gate)) → ArePairs ps → map (λ q. q.v) (firsts ps) ≡ map (λ q. q.v) (seconds ps)
variables_same [] h = refl
variables_same (p ∷ ps) h = ap₂ (λ v vs. v ∷ vs) h.0.0 (variables_same ps h.1)

readers_same : (E : List ℕ) (ps : List (Gate × Gate)) → ArePairs ps → AllByRecursion (IsReader E) (seconds ps) → AllByRecursion (IsReader E) (firsts ps)
readers_same E [] h r = tt
readers_same E (p ∷ ps) h r = (
  (λ s. ap (has E) h.0.0 ∙ r.0
      (⊎_elim
      (λ a. ⊎_elim (λ l. inl (ap (λ k. has E (variable_of k)) (sym a.0) ∙ l)) (λ m. inr (ap (λ k. has E (variable_of k)) (sym a.1) ∙ m)) s)
      (λ a. ⊎_elim (λ l. inr (ap (λ k. has E (variable_of k)) (sym a.0) ∙ l)) (λ m. inl (ap (λ k. has E (variable_of k)) (sym a.1) ∙ m)) s) h.0.1)),
  readers_same E ps h.1 r.1,
)

-- a graph with other gates
abbrev pub with_gates_of : Aig → List Gate → Aig
with_gates_of g gates = record { max = g.max; inputs = g.inputs; outputs = g.outputs; gates = gates }

frontier_same : (g : Aig) (ps : List (Gate × Gate)) → ArePairs ps → (K E : List ℕ) → IsFrontier (without_cut (with_gates_of g (seconds ps))) K E → IsFrontier (without_cut (with_gates_of g (firsts ps))) K E
frontier_same g ps h K E f = record {
  columns = f.columns;
  gates = subst (λ vs. All (λ v. has vs v ≡ true) E) (sym (variables_same ps h)) f.gates;
  columns_once = f.columns_once;
  gates_once = f.gates_once;
  readers = All-from_recursion (IsReader E) (firsts ps) (readers_same E ps h (recursion_from_All (IsReader E) (seconds ps) f.readers));
  outputs = f.outputs;
}

value_same : (g : Aig) (ps : List (Gate × Gate)) → ArePairs ps → (K E : List ℕ) (σ : Assignment) →
    frontier_value (without_cut (with_gates_of g (firsts ps))) (sides_of Separate g) K E σ ≡ frontier_value (without_cut (with_gates_of g (seconds ps))) (sides_of Separate g) K E σ
value_same g ps h K E σ =
    let m = modulus (without_cut g) in
    ap (λ τ. columns_sum m (sides_of Separate g) K 0 (new_outputs (without_cut g)) τ % m) (among_same E ps h σ)

swapped_small : (kind : Kind) (n : ℕ) (gates : List Gate) (steps : List Step) (size : ℕ) → 0 < n → map greater_first (made kind n Ripple).gates ≡ map greater_first gates →
    let g = with_gates_of (made kind n Ripple) gates in
    AreSteps (without_cut g) nothing steps → AreByGroups (groups g.gates) (taken nothing steps).eliminated →
    HasSize (modulus (without_cut g)) (frontier_value (without_cut g) (sides_of Separate g) (taken nothing steps).added (taken nothing steps).eliminated) size → size ≤ 8 * n * n + 64
swapped_small kind n gates steps size pos same can by has_size =
    let M = made kind n Ripple in
    let K = (taken nothing steps).added in
    let E = (taken nothing steps).eliminated in
    let is = paired M.gates gates same in
    let ps = is.pairs in
    let fronts = fronts_all (without_cut (with_gates_of M gates)) nothing steps (fronts_first (without_cut (with_gates_of M gates))) can in
    by_groups_small kind n pos K E
    (λ part whole both.
    subst (λ gs. IsFrontier (without_cut (with_gates_of M gs)) K whole) is.first
    (frontier_same M ps is.same K whole (subst (λ gs. IsFrontier (without_cut (with_gates_of M gs)) K whole) (sym is.second) (fronts part whole both))))
    (subst (λ gs. AreByGroups gs E) (ap groups (sym is.second) ∙ sym (groups_same ps is.same) ∙ ap groups is.first) by) size (
      has_size.0,
      has_size.1,
      (λ σ. has_size.2 σ ∙ ap (λ gs. frontier_value (without_cut (with_gates_of M gs)) (sides_of Separate M) K E σ) (sym is.second) ∙ sym (value_same M ps is.same K E σ) ∙
          ap (λ gs. frontier_value (without_cut (with_gates_of M gs)) (sides_of Separate M) K E σ) is.first),
      has_size.3,
    )

abbrev IsBounded : ℕ → List Step → ℕ → Aig → Type 0
IsBounded n steps size g = AreSteps (without_cut g) nothing steps → AreByGroups (groups g.gates) (taken nothing steps).eliminated →
    HasSize (modulus (without_cut g)) (frontier_value (without_cut g) (sides_of Separate g) (taken nothing steps).added (taken nothing steps).eliminated) size → size ≤ 8 * n * n + 64

pub made_slices_are_small : MadeSlicesAreSmall
made_slices_are_small kind n g steps size pos same =
    let M = made kind n Ripple in
    let is : with_gates_of M g.gates ≡ g = λ i. record { max = same.0 i; inputs = same.1 i; outputs = same.2 i; gates = g.gates } in
    subst (IsBounded n steps size) is (swapped_small kind n g.gates steps size pos same.3)
