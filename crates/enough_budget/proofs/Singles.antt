-- In a made graph a gate that is a group alone is a product of inputs.
use Rattle.std.specs.declared.option.Option.{Option}
use Rattle.std.specs.declared.option.Option.TheVariants.{None, Some}
use Rattle.std.specs.Prelude.{◌≡◌, ℕ, zero, suc, ◌+◌, ◌*◌, ◌<◌, ◌≤◌, false, ◌||◌, List, [], ◌∷◌, map, length, reverse}
use Rattle.std.specs.List.{AllByRecursion, Any}
use Rattle.std.proofs.Common.{refl, sym, ap, ap₂, subst, ◌∙◌, arith, ⊎_elim, ne_eqb}
use Rattle.std.proofs.lemmas.List.Elements.{All-from_recursion}
use Rattle.graph_core.specs.declared.literal.Lit.{Lit}
use Rattle.graph_core.specs.declared.gate.Gate.{Gate}
use Rattle.graph_core.specs.Graph.Literals.{variable_of}
use Rattle.graph_core.proofs.OfGraphs.CallerLemmas.{all_join}
use Rattle.frontier_core.specs.Sets.{has}
use Rattle.graph_maker.specs.declared.kind.Kind.{Kind}
use Rattle.graph_maker.specs.declared.adder.Adder.TheVariants.{Ripple}
use Rattle.graph_maker.specs.Builder.{Builder, with_gates, literals_from}
use Rattle.graph_maker.specs.Products.{product_gates, products}
use Rattle.graph_maker.specs.Made.{made}
use Rattle.graph_maker.proofs.MadeMultiplies.{a_literals, b_literals, numbered, no_gates}
use Rattle.slice_planner.specs.Groups.{groups}
use Rattle.slice_planner.specs.AdderLists.{ReadsNoGate}
use Rattle.enough_budget.specs.MadeGroups.{MadeGroupsAreAdders}
use Rattle.enough_budget.proofs.MadeGroups.{group_at, singles}
use Rattle.enough_budget.proofs.Network.{Cell, gates_at, size_of, adder_gates}
use Rattle.enough_budget.proofs.SmallSlices.{made_groups, first_gates, first_low, all_reversed, onto_any, single_any}
use Rattle.enough_budget.proofs.Swapped.{ArePairs, firsts, seconds, paired, groups_same, variables_same}
use Rattle.enough_budget.proofs.WholeFrontiers.{g, base, cells, gates_are, placed_above}

abbrev AreLow : ℕ → List Lit → Type 0
AreLow top ls = AllByRecursion (λ l. variable_of l ≤ top) ls

abbrev ReadsLow : ℕ → Gate → Type 0
ReadsLow top x = (variable_of x.left ≤ top) × (variable_of x.right ≤ top)

literals_low : (v n top : ℕ) → v + n ≤ top + 1 → AreLow top (literals_from v n)
literals_low v zero top h = tt
literals_low v (suc n) top h = (omega arith, literals_low (v + 1) n top (omega arith))

product_low : (top v : ℕ) (xs : List Lit) (y : Lit) → AreLow top xs → variable_of y ≤ top → AllByRecursion (ReadsLow top) (product_gates v xs y)
product_low top v [] y h k = tt
product_low top v (x ∷ xs) y h k = ((h.0, k), product_low top (v + 1) xs y h.1 k)

products_low : (top : ℕ) (b : Builder) (xs ys : List Lit) → AreLow top xs → AreLow top ys → AllByRecursion (ReadsLow top) b.gates → AllByRecursion (ReadsLow top) (products b xs ys).builder.gates
products_low top b xs [] h k p = p
products_low top b xs (y ∷ ys) h k p = products_low top (with_gates b (product_gates b.last xs y)) xs ys h k.1 (all_join (ReadsLow top) b.gates (product_gates b.last xs y) p (product_low top b.last xs y h k.0))

-- gates in the variables above a number
adders_above : (low v : ℕ) (rest : List Cell) → low ≤ v → AllByRecursion (λ x. low < x.v) (adder_gates v rest)
adders_above low v [] h = tt
adders_above low v (a ∷ rest) h = all_join (λ x. low < x.v) (gates_at v a.x a.y a.c) (adder_gates (v + size_of a.c) rest) (here a.x a.y a.c) (adders_above low (v + size_of a.c) rest (omega arith))
  where
    here : (x y : Lit) (c : Option Lit) → AllByRecursion (λ q. low < q.v) (gates_at v x y c)
    here x y None = (omega arith, (omega arith, (omega arith, tt)))
    here x y (Some c) = (omega arith, (omega arith, (omega arith, (omega arith, (omega arith, (omega arith, (omega arith, tt)))))))

none_low : (top w : ℕ) (gates : List Gate) → w ≤ top → AllByRecursion (λ x. top < x.v) gates → has (map (λ x. x.v) gates) w ≡ false
none_low top w [] l h = refl
none_low top w (x ∷ gates) l h = ap₂ ◌||◌ (ne_eqb x.v w (λ e. omega (arith, h.0))) (none_low top w gates l h.1)

abbrev head_or : List ℕ → ℕ
head_or [] = 0
head_or (v ∷ vs) = v

module _ (kind : Kind) (n : ℕ) (pos : 0 < n) where
  abbrev G : List Gate
  G = (g kind n pos).gates

  abbrev Alone : Gate → Type 0
  Alone x = Any (λ group. group ≡ x.v ∷ []) (groups G)

  reads_none : (x : Gate) → ReadsLow (2 * n) x → ReadsNoGate G x
  reads_none x h =
      let above = placed_above (2 * n) (2 * n) G (omega arith) (numbered kind n Ripple pos).gates in
      (none_low (2 * n) (variable_of x.left) G h.0 above, none_low (2 * n) (variable_of x.right) G h.1 above)

  not_alone : (x : Gate) → base kind n pos < x.v → Alone x → ReadsNoGate G x
  not_alone x above alone =
      let P = λ (group : List ℕ). group ≡ x.v ∷ [] in
      ⊎_elim
      (λ single. let p = single_any P (base kind n pos) (reverse (first_gates kind n pos)) (all_reversed (λ q. q.v ≤ base kind n pos) (first_gates kind n pos) (first_low kind n pos)) single in
      let same : p.0 ≡ x.v = ap head_or p.2 in absurd (let low = p.1 in omega arith))
      (λ it. absurd (longer it.0 it.3 it.5))
      (onto_any P (singles (reverse (first_gates kind n pos))) (base kind n pos) (cells kind n pos) (subst (Any P) (made_groups kind n pos) alone))
    where
      longer : (u : ℕ) (c : Option Lit) → group_at u c ≡ x.v ∷ [] → ⊥
      longer u None e = let l : ◌≡◌ {A = ℕ} 3 1 = ap length e in omega arith
      longer u (Some c) e = let l : ◌≡◌ {A = ℕ} 7 1 = ap length e in omega arith

  each_low : (gates : List Gate) → AllByRecursion (ReadsLow (2 * n)) gates → AllByRecursion (λ x. Alone x → ReadsNoGate G x) gates
  each_low [] h = tt
  each_low (x ∷ gates) h = ((λ alone. reads_none x h.0), each_low gates h.1)

  each_above : (gates : List Gate) → AllByRecursion (λ x. base kind n pos < x.v) gates → AllByRecursion (λ x. Alone x → ReadsNoGate G x) gates
  each_above [] h = tt
  each_above (x ∷ gates) h = (not_alone x h.0, each_above gates h.1)

  made_adders : AllByRecursion (λ x. Alone x → ReadsNoGate G x) G
  made_adders =
      let low = products_low (2 * n) (no_gates kind n Ripple pos) (a_literals kind n Ripple pos) (b_literals kind n Ripple pos) (literals_low 1 n (2 * n) (omega arith)) (literals_low (n + 1) n (2 * n) (omega arith)) tt in
      subst (AllByRecursion (λ x. Alone x → ReadsNoGate G x)) (sym (gates_are kind n pos))
      (all_join (λ x. Alone x → ReadsNoGate G x) (first_gates kind n pos) (adder_gates (base kind n pos) (cells kind n pos)) (each_low (first_gates kind n pos) low) (each_above (adder_gates (base kind n pos) (cells kind n pos)) (adders_above (base kind n pos) (base kind n pos) (cells kind n pos) (omega arith))))

-- up to the order of operands
pairs_adders : (ps qs : List (Gate × Gate)) → ArePairs ps → ArePairs qs → AllByRecursion (λ x. Any (λ group. group ≡ x.v ∷ []) (groups (firsts ps)) → ReadsNoGate (firsts ps) x) (firsts qs) →
    AllByRecursion (λ x. Any (λ group. group ≡ x.v ∷ []) (groups (seconds ps)) → ReadsNoGate (seconds ps) x) (seconds qs)
pairs_adders ps [] h k r = tt
pairs_adders ps (q ∷ qs) h k r = (
  (λ alone.
      let one = r.0 (subst (λ gs. Any (λ group. group ≡ q.0.v ∷ []) gs) (sym (groups_same ps h)) (subst (λ v. Any (λ group. group ≡ v ∷ []) (groups (seconds ps))) (sym k.0.0) alone)) in
      let left = ap (λ vs. has vs (variable_of q.0.left)) (sym (variables_same ps h)) ∙ one.0 in
      let right = ap (λ vs. has vs (variable_of q.0.right)) (sym (variables_same ps h)) ∙ one.1 in
      ⊎_elim
      (λ a. (ap (λ l. has (map (λ y. y.v) (seconds ps)) (variable_of l)) (sym a.0) ∙ left, ap (λ l. has (map (λ y. y.v) (seconds ps)) (variable_of l)) (sym a.1) ∙ right))
      (λ a. (ap (λ l. has (map (λ y. y.v) (seconds ps)) (variable_of l)) (sym a.1) ∙ right, ap (λ l. has (map (λ y. y.v) (seconds ps)) (variable_of l)) (sym a.0) ∙ left)) k.0.1),
  pairs_adders ps qs h k.1 r.1,
)

pub made_groups_are_adders : MadeGroupsAreAdders
made_groups_are_adders kind n g' pos same =
    let M = made kind n Ripple in
    let is = paired M.gates g'.gates same.3 in
    let first : AllByRecursion (λ x. Any (λ group. group ≡ x.v ∷ []) (groups (firsts is.pairs)) → ReadsNoGate (firsts is.pairs) x) (firsts is.pairs) =
    subst (λ gs. AllByRecursion (λ x. Any (λ group. group ≡ x.v ∷ []) (groups gs) → ReadsNoGate gs x) gs) (sym is.first) (made_adders kind n pos) in
    All-from_recursion (λ x. Any (λ group. group ≡ x.v ∷ []) (groups g'.gates) → ReadsNoGate g'.gates x) g'.gates
    (subst (λ gs. AllByRecursion (λ x. Any (λ group. group ≡ x.v ∷ []) (groups gs) → ReadsNoGate gs x) gs) is.second (pairs_adders is.pairs is.pairs is.same is.same first))
