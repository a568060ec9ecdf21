-- While one adder of a made graph is being eliminated, its frontiers have few monomials.
use Rattle.std.specs.declared.option.Option.{Option}
use Rattle.std.specs.declared.option.Option.TheVariants.{None, Some}
use Rattle.std.specs.Prelude.{◌≡◌, ◌≢◌, ℕ, zero, suc, ◌+◌, ◌*◌, ◌-◌, ◌^◌, ◌%◌, ◌<◌, ◌≤◌, ◌⊎◌, true, false, cond, ◌&&◌, ◌||◌, List, [], ◌∷◌, ◌++◌, length, ◌==◌}
use Rattle.std.specs.List.{AllByRecursion}
use Rattle.std.proofs.Common.{refl, sym, ap, ap₂, subst, ◌∙◌, arith, inl, inr, ⊎_elim, true≢false, eqb-true, ne_eqb}
use Rattle.std.proofs.Math.Nat.{mod-mod}
use Rattle.std.proofs.lemmas.Bool.{cases_eq, or_cases, or_left}
use Rattle.std.proofs.lemmas.List.Elements.{recursion_from_All}
use Rattle.graph_core.specs.declared.literal.Lit.{Lit}
use Rattle.graph_core.specs.declared.gate.Gate.{Gate}
use Rattle.graph_core.specs.declared.order.Order.TheVariants.{Separate}
use Rattle.graph_core.specs.Graph.Assignments.{Assignment, variable, literal, bit}
use Rattle.graph_core.specs.Graph.Literals.{variable_of}
use Rattle.graph_core.specs.Graph.{evaluation}
use Rattle.algebra_core.specs.Polynomials.{Polynomial, value}
use Rattle.algebra_core.specs.NormalForm.{HasSize}
use Rattle.graph_core.specs.Graph.Operands.{sides_of}
use Rattle.graph_core.proofs.OfGraphs.CallerLemmas.{Apart, all_split, all_weaker, apart_from_pairs, finds_none, rounds-free, sum_same, variable_same, by_cases}
use Rattle.graph_core.proofs.OfAiger.CallerLemmas.{ArePlaced}
use Rattle.frontier_core.specs.Sets.{has}
use Rattle.frontier_core.specs.Columns.{columns_sum}
use Rattle.frontier_core.specs.Frontier.{IsFrontier, gates_among, frontier_value}
use Rattle.frontier_core.specs.Sizes.{linear_sum, bilinear_sum}
use Rattle.frontier_core.proofs.Everywhere.{filter_all, all_filtered}
use Rattle.frontier_core.proofs.Computed.{computed_is, computed_keeps}
use Rattle.frontier_core.proofs.SizeBounds.{linear_is_small}
use Rattle.graph_maker.specs.declared.kind.Kind.{Kind}
use Rattle.graph_maker.specs.declared.adder.Adder.TheVariants.{Ripple}
use Rattle.graph_maker.proofs.MadeMultiplies.{all_products, numbered}
use Rattle.slice_planner.proofs.Composition.{has_append, eliminating_part}
use Rattle.enough_budget.proofs.Linear.{IsLinear, AreInputs}
use Rattle.enough_budget.proofs.FewVariables.{few_variables_are_small}
use Rattle.enough_budget.proofs.Network.{Cell, gates_at, size_of, adder_gates}
use Rattle.enough_budget.proofs.Needed.{AreWhole, IsReader}
use Rattle.enough_budget.proofs.WholeFrontiers.{g, e, m, above, base, cells, gates_are, made_extension, placed_above, whole_linear}
use Rattle.enough_budget.proofs.Boundary.{ReadsBelow, IsComputed, IsBounded, half_bounded, full_bounded}

-- an adder of a list, in the variables after u
abbrev pub IsCellAt : ℕ → Lit → Lit → Option Lit → ℕ → List Cell → Type 0
IsCellAt u x y c v [] = ⊥
IsCellAt u x y c v (a ∷ rest) = ((u ≡ v) × (x ≡ a.x) × (y ≡ a.y) × (c ≡ a.c)) ⊎ IsCellAt u x y c (v + size_of a.c) rest

same_gates : (u v : ℕ) (x x' y y' : Lit) (c c' : Option Lit) → u ≡ v → x ≡ x' → y ≡ y' → c ≡ c' → gates_at v x' y' c' ≡ gates_at u x y c
same_gates u v x x' y y' c c' h i j k = sym (ap₂ (λ a b. gates_at a b y c) h i ∙ ap₂ (λ a b. gates_at v x' a b) j k)

cell_of : (P : Gate → Type 0) (u : ℕ) (x y : Lit) (c : Option Lit) (v : ℕ) (rest : List Cell) → IsCellAt u x y c v rest → AllByRecursion P (adder_gates v rest) → AllByRecursion P (gates_at u x y c)
cell_of P u x y c v [] at h = absurd at
cell_of P u x y c v (a ∷ rest) at h =
    let parts = all_split P (gates_at v a.x a.y a.c) (adder_gates (v + size_of a.c) rest) h in
    ⊎_elim (λ is. subst (AllByRecursion P) (same_gates u v x a.x y a.y c a.c is.0 is.1 is.2 is.3) parts.0) (λ later. cell_of P u x y c (v + size_of a.c) rest later parts.1) at

cell_whole : (W : List ℕ) (u : ℕ) (x y : Lit) (c : Option Lit) (v : ℕ) (rest : List Cell) → IsCellAt u x y c v rest → AreWhole W v rest → AllByRecursion (λ q. has W q.v ≡ has W (u + 1)) (gates_at u x y c)
cell_whole W u x y c v [] at h = absurd at
cell_whole W u x y c v (a ∷ rest) at h =
    ⊎_elim
    (λ is. subst (λ k. AllByRecursion (λ q. has W q.v ≡ has W (k + 1)) (gates_at u x y c)) (sym is.0) (subst (AllByRecursion (λ q. has W q.v ≡ has W (v + 1))) (same_gates u v x a.x y a.y c a.c is.0 is.1 is.2 is.3) h.0))
    (λ later. cell_whole W u x y c (v + size_of a.c) rest later h.1) at

placed_below : (v : ℕ) (gates : List Gate) → ArePlaced v gates → AllByRecursion ReadsBelow gates
placed_below v [] h = tt
placed_below v (x ∷ gates) h = ((omega (arith, h.0, h.1), omega (arith, h.0, h.2)), placed_below (suc v) gates h.3)

-- numbers of the first part of different ones are not in the second part
apart_parts : (part whole : List ℕ) (w : ℕ) → Apart (part ++ whole) → has part w ≡ true → has whole w ≡ false
apart_parts [] whole w h t = absurd (true≢false (sym t))
apart_parts (v ∷ part) whole w h t =
    ⊎_elim (λ s. let e = eqb-true v w s in none whole (λ y k. k ∙ refl) (all_split (λ y. v ≢ y) part whole h.0).1 e) (λ s. apart_parts part whole w h.1 s) (or_cases (v == w) (has part w) t)
  where
    none : (ws : List ℕ) → ((y : ℕ) → v ≡ y → v ≡ y) → AllByRecursion (λ y. v ≢ y) ws → v ≡ w → has ws w ≡ false
    none [] k a e = refl
    none (y ∷ ws) k a e = ap₂ ◌||◌ (ne_eqb y w (λ s. a.0 (e ∙ sym s))) (none ws k a.1 e)

pow_few : (k : ℕ) → k ≤ 5 → 2 ^ k ≤ 32
pow_few zero h = omega arith
pow_few (suc zero) h = omega arith
pow_few (suc (suc zero)) h = omega arith
pow_few (suc (suc (suc zero))) h = omega arith
pow_few (suc (suc (suc (suc zero)))) h = omega arith
pow_few (suc (suc (suc (suc (suc zero))))) h = omega arith
pow_few (suc (suc (suc (suc (suc (suc k)))))) h = absurd (omega arith)

module _ (kind : Kind) (n : ℕ) (pos : 0 < n) (K part whole : List ℕ) (f : IsFrontier (e kind n pos) K (part ++ whole)) (fw : IsFrontier (e kind n pos) K whole) (unsplit : AreWhole whole (base kind n pos) (cells kind n pos)) where
  abbrev pub G : List Gate
  G = (g kind n pos).gates

  abbrev pub ρ : Assignment → Assignment
  ρ σ = evaluation (gates_among part G) σ

  pub kept : (σ : Assignment) (w : ℕ) → has part w ≡ false → ρ σ w ≡ σ w
  kept σ w h = computed_keeps (e kind n pos) (made_extension kind n pos) part σ w h

  low_kept : (σ : Assignment) (w : ℕ) → w ≤ 2 * n → ρ σ w ≡ σ w
  low_kept σ w low =
      rounds-free (gates_among part G) σ (length (gates_among part G)) w
      (finds_none (gates_among part G) w
      (filter_all (λ x. w ≢ x.v) (λ x. has part x.v) G
      (all_weaker (λ x. 2 * n < x.v) (λ x. has part x.v ≡ true → w ≢ x.v) G (λ x k t same. absurd (omega arith)) (placed_above (2 * n) (2 * n) G (omega arith) (numbered kind n Ripple pos).gates))))

  -- ---- the terms with variables of the part, and the others

  abbrev outer : List (ℕ × ℕ) → List (ℕ × ℕ)
  outer [] = []
  outer (x ∷ xs) = cond (has part x.1) (outer xs) (x ∷ outer xs)

  abbrev inner : List (ℕ × ℕ) → Assignment → ℕ
  inner [] σ = 0
  inner (x ∷ xs) σ = cond (has part x.1) (x.0 * bit (variable (ρ σ) x.1)) 0 + inner xs σ

  split_sum : (xs : List (ℕ × ℕ)) (σ : Assignment) → linear_sum xs (ρ σ) ≡ linear_sum (outer xs) σ + inner xs σ
  split_sum [] σ = refl
  split_sum (x ∷ xs) σ =
      let rest = split_sum xs σ in
      let here = by_cases (λ t. has part x.1 ≡ t → x.0 * bit (variable (ρ σ) x.1) + linear_sum xs (ρ σ) ≡ linear_sum (cond t (outer xs) (x ∷ outer xs)) σ + (cond t (x.0 * bit (variable (ρ σ) x.1)) 0 + inner xs σ)) (has part x.1)
      (λ t q. omega (arith, rest)) (λ t q. let same = ap (λ b. x.0 * bit b) (variable_same (ρ σ) σ x.1 (kept σ x.1 q)) in omega (arith, rest, same)) refl in
      here

  outer_few : (xs : List (ℕ × ℕ)) → length (outer xs) ≤ length xs
  outer_few [] = omega arith
  outer_few (x ∷ xs) = let rest = outer_few xs in by_cases (λ t. length (cond t (outer xs) (x ∷ outer xs)) ≤ suc (length xs)) (has part x.1) (λ t. omega arith) (λ t. omega arith)

  products_stay : (xs : List (ℕ × ℕ × ℕ)) (σ : Assignment) → AreInputs (2 * n) xs → bilinear_sum xs (ρ σ) ≡ bilinear_sum xs σ
  products_stay [] σ h = refl
  products_stay (x ∷ xs) σ h =
      ap₂ ◌+◌ (ap₂ (λ a b. x.0 * (bit a * bit b)) (variable_same (ρ σ) σ x.1 (low_kept σ x.1 h.0.0)) (variable_same (ρ σ) σ x.2 (low_kept σ x.2 h.0.1))) (products_stay xs σ h.1)

  inner_same : (bounded : IsBounded part ρ kept) (xs : List (ℕ × ℕ)) (σ υ : Assignment) → AllByRecursion (λ v. variable σ v ≡ variable υ v) bounded.variables → inner xs σ ≡ inner xs υ
  inner_same bounded [] σ υ h = refl
  inner_same bounded (x ∷ xs) σ υ h =
      ap₂ ◌+◌
      (by_cases (λ t. has part x.1 ≡ t → cond t (x.0 * bit (variable (ρ σ) x.1)) 0 ≡ cond t (x.0 * bit (variable (ρ υ) x.1)) 0) (has part x.1)
      (λ t q. ap (λ b. x.0 * bit b) (bounded.determine σ υ h x.1 q)) (λ t q. refl) refl)
      (inner_same bounded xs σ υ h)

  pub bounded_small : IsBounded part ρ kept → (size : ℕ) → HasSize (m kind n pos) (frontier_value (e kind n pos) (sides_of Separate (g kind n pos)) K (part ++ whole)) size → size ≤ 8 * n * n + 64
  bounded_small bounded size has_size =
      let line = whole_linear kind n pos K whole fw unsplit in
      let some = few_variables_are_small (m kind n pos) bounded.variables (inner line.singles) (above kind n pos)
      (λ σ υ h. inner_same bounded line.singles σ υ (recursion_from_All (λ v. variable σ v ≡ variable υ v) bounded.variables h)) in
      let most : size ≤ 1 + length (outer line.singles) + length line.products + length some.0 =
      linear_is_small (m kind n pos) line.constant (outer line.singles) line.products some.0 (frontier_value (e kind n pos) (sides_of Separate (g kind n pos)) K (part ++ whole)) size (above kind n pos) (λ σ. value_is line some σ) has_size in
      let few_terms : length some.0 ≤ 32 = omega (arith, some.2, pow_few (length bounded.variables) bounded.few) in
      let square : n * n ≡ n + n * (n - 1) = let up : n ≡ suc (n - 1) = omega arith in ap (λ k. n * k) up ∙ omega arith in
      omega (arith, most, few_terms, outer_few line.singles, line.few, square)
    where
      value_is : (line : IsLinear (m kind n pos) (2 * n) (frontier_value (e kind n pos) (sides_of Separate (g kind n pos)) K whole) (n * n + 4 * n + 2 * n * n)) (some : (p : Polynomial) × ((σ : Assignment) → value (m kind n pos) p σ ≡ inner line.singles σ % m kind n pos) × (length p ≤ 2 ^ length bounded.variables)) (σ : Assignment) →
          frontier_value (e kind n pos) (sides_of Separate (g kind n pos)) K (part ++ whole) σ ≡ (line.constant + linear_sum (outer line.singles) σ + bilinear_sum line.products σ + value (m kind n pos) some.0 σ) % m kind n pos
      value_is line some σ =
          let k = line.constant in
          let front = k + linear_sum (outer line.singles) σ + bilinear_sum line.products σ in
          eliminating_part (e kind n pos) (made_extension kind n pos) K part whole fw σ (sides_of Separate (g kind n pos)) ∙
          sym (mod-mod (columns_sum (m kind n pos) (sides_of Separate (g kind n pos)) K 0 _ _) (m kind n pos)) ∙ line.is (ρ σ) ∙
          ap (λ z. z % m kind n pos) (omega (arith, split_sum line.singles σ, products_stay line.products σ line.inputs)) ∙
          sum_same (m kind n pos) front front (inner line.singles σ) (value (m kind n pos) some.0 σ) refl (sym (ap (λ z. z % m kind n pos) (some.1 σ) ∙ mod-mod (inner line.singles σ) (m kind n pos)))

  -- ---- one adder

  module _ (u : ℕ) (x y : Lit) (c : Option Lit) (at : IsCellAt u x y c (base kind n pos) (cells kind n pos)) (inside : (w : ℕ) → has part w ≡ true → (u < w) × (w ≤ u + size_of c)) where
    adders_all : (P : Gate → Type 0) → AllByRecursion P G → AllByRecursion P (gates_at u x y c)
    adders_all P h =
        cell_of P u x y c (base kind n pos) (cells kind n pos) at
        (all_split P (all_products kind n Ripple pos).builder.gates (adder_gates (base kind n pos) (cells kind n pos)) (subst (AllByRecursion P) (gates_are kind n pos) h)).1

    below : AllByRecursion ReadsBelow (gates_at u x y c)
    below = adders_all ReadsBelow (placed_below (2 * n) G (numbered kind n Ripple pos).gates)

    computed : (σ : Assignment) → AllByRecursion (IsComputed part ρ kept σ) (gates_at u x y c)
    computed σ =
        adders_all (IsComputed part ρ kept σ)
        (all_filtered (λ q. variable (ρ σ) q.v ≡ (literal (ρ σ) q.left && literal (ρ σ) q.right)) (λ q. has part q.v) G
        (recursion_from_All (λ q. variable (ρ σ) q.v ≡ (literal (ρ σ) q.left && literal (ρ σ) q.right)) (gates_among part G) (computed_is (e kind n pos) (made_extension kind n pos) part σ)))

    uniform : AllByRecursion (λ q. has whole q.v ≡ has whole (u + 1)) (gates_at u x y c)
    uniform = cell_whole whole u x y c (base kind n pos) (cells kind n pos) at unsplit

    both_readers : AllByRecursion (IsReader (part ++ whole)) (gates_at u x y c)
    both_readers = adders_all (IsReader (part ++ whole)) (recursion_from_All (IsReader (part ++ whole)) G f.readers)

    apart : (w : ℕ) → has part w ≡ true → has whole w ≡ false
    apart w t = apart_parts part whole w (apart_from_pairs (part ++ whole) f.gates_once) t

  module _ (u : ℕ) (x y : Lit) (at : IsCellAt u x y None (base kind n pos) (cells kind n pos)) (inside : (w : ℕ) → has part w ≡ true → (u < w) × (w ≤ u + 3)) where
    pub half_small : (size : ℕ) → HasSize (m kind n pos) (frontier_value (e kind n pos) (sides_of Separate (g kind n pos)) K (part ++ whole)) size → size ≤ 8 * n * n + 64
    half_small = bounded_small (half_bounded part ρ kept u x y inside (below u x y None at inside) (computed u x y None at inside))

  module _ (u : ℕ) (x y c : Lit) (at : IsCellAt u x y (Some c) (base kind n pos) (cells kind n pos)) (inside : (w : ℕ) → has part w ≡ true → (u < w) × (w ≤ u + 7)) where
    one_whole : (w : ℕ) → u < w → w ≤ u + 7 → has whole w ≡ has whole (u + 1)
    one_whole w low high =
        let h = uniform u x y (Some c) at inside in
        seventh_of (λ k. has whole k ≡ has whole (u + 1)) w low high h.0 h.1.0 h.1.1.0 h.1.1.1.0 h.1.1.1.1.0 h.1.1.1.1.1.0 h.1.1.1.1.1.1.0
      where
        seventh_of : (P : ℕ → Type 0) (w : ℕ) → u < w → w ≤ u + 7 → P (u + 1) → P (u + 2) → P (u + 3) → P (u + 4) → P (u + 5) → P (u + 6) → P (u + 7) → P w
        seventh_of P w low high p₁ p₂ p₃ p₄ p₅ p₆ p₇ =
            ⊎_elim (λ e. subst P (sym e) p₁) (λ n₁. ⊎_elim (λ e. subst P (sym e) p₂) (λ n₂. ⊎_elim (λ e. subst P (sym e) p₃) (λ n₃. ⊎_elim (λ e. subst P (sym e) p₄)
            (λ n₄. ⊎_elim (λ e. subst P (sym e) p₅) (λ n₅. ⊎_elim (λ e. subst P (sym e) p₆) (λ n₆. let e : (u + 7) ≡ w = omega arith in subst P e p₇)
            (cases_eq w (u + 6))) (cases_eq w (u + 5))) (cases_eq w (u + 4))) (cases_eq w (u + 3))) (cases_eq w (u + 2))) (cases_eq w (u + 1))

    -- what reads a gate of the part is of the part
    reader : (q : Gate) → IsReader (part ++ whole) q → has whole q.v ≡ has whole (u + 1) → IsReader part q
    reader q r same reads =
        let w : (k : ℕ) × (has part k ≡ true) = ⊎_elim (λ l. (variable_of q.left, l)) (λ r. (variable_of q.right, r)) reads in
        let low = inside w.0 w.1 in
        let none : has whole q.v ≡ false = same ∙ sym (one_whole w.0 low.0 low.1) ∙ apart u x y (Some c) at inside w.0 w.1 in
        let all : has (part ++ whole) q.v ≡ true =
        r (⊎_elim (λ l. inl (has_append part whole (variable_of q.left) ∙ or_left (has part (variable_of q.left)) (has whole (variable_of q.left)) l))
        (λ s. inr (has_append part whole (variable_of q.right) ∙ or_left (has part (variable_of q.right)) (has whole (variable_of q.right)) s)) reads) in
        ⊎_elim (λ t. t) (λ t. absurd (true≢false (sym t ∙ none))) (or_cases (has part q.v) (has whole q.v) (sym (has_append part whole q.v) ∙ all))

    closed : (gates : List Gate) → AllByRecursion (IsReader (part ++ whole)) gates → AllByRecursion (λ q. has whole q.v ≡ has whole (u + 1)) gates → AllByRecursion (IsReader part) gates
    closed [] r s = tt
    closed (q ∷ gates) r s = (reader q r.0 s.0, closed gates r.1 s.1)

    pub full_small : (size : ℕ) → HasSize (m kind n pos) (frontier_value (e kind n pos) (sides_of Separate (g kind n pos)) K (part ++ whole)) size → size ≤ 8 * n * n + 64
    full_small =
        bounded_small
        (full_bounded part ρ kept u x y c inside (below u x y (Some c) at inside) (computed u x y (Some c) at inside)
        (closed (gates_at u x y (Some c)) (both_readers u x y (Some c) at inside) (uniform u x y (Some c) at inside)))
