-- Where no adder of a made graph is split, a frontier's function is linear in few variables, but for products of inputs.
use Rattle.std.specs.declared.option.Option.TheVariants.{Some}
use Rattle.std.specs.Prelude.{◌≡◌, ◌≢◌, ℕ, zero, suc, ◌+◌, ◌*◌, ◌^◌, ◌%◌, ◌<◌, ◌≤◌, Bool, true, false, cond, ◌&&◌, List, [], ◌∷◌, ◌++◌, length, slice_get}
use Rattle.std.specs.List.{AllByRecursion}
use Rattle.std.proofs.Common.{refl, ap, ap₂, subst, ◌∙◌, arith}
use Rattle.std.proofs.Math.Nat.{mod-mod}
use Rattle.std.proofs.lemmas.List.Elements.{recursion_from_All}
use Rattle.std.proofs.lemmas.Nat.{pow_pos}
use Rattle.graph_core.specs.declared.literal.Lit.{Lit}
use Rattle.graph_core.specs.declared.gate.Gate.{Gate}
use Rattle.graph_core.specs.declared.order.Order.TheVariants.{Separate}
use Rattle.graph_core.specs.Graph.Assignments.{Assignment, variable, literal, bit}
use Rattle.graph_core.specs.Graph.Literals.{variable_of, plain}
use Rattle.graph_core.specs.Graph.{Aig, evaluation}
use Rattle.graph_core.specs.Graph.Extended.{Extended, without_cut, modulus}
use Rattle.algebra_core.specs.Polynomials.{difference}
use Rattle.graph_core.specs.Graph.Operands.{Sides, product_under, sides_of}
use Rattle.graph_core.proofs.OfGraphs.CallerLemmas.{all_split, all_weaker, finds_none, literal-even, literal_same, product_same, rounds-free, sum_same, by_cases}
use Rattle.algebra_core.proofs.CallerLemmas.{difference_plus}
use Rattle.ripple_graft.specs.Extension.{outputs_from, new_outputs, IsExtension}
use Rattle.ripple_graft.proofs.Plain.{graph_extends}
use Rattle.frontier_core.specs.Sets.{has}
use Rattle.frontier_core.specs.Columns.{bit_at, partial_products, columns_sum}
use Rattle.frontier_core.specs.Frontier.{IsFrontier, gates_among, frontier_value}
use Rattle.frontier_core.proofs.Everywhere.{filter_all, all_filtered}
use Rattle.frontier_core.proofs.Computed.{computed_is, computed_keeps}
use Rattle.graph_maker.specs.declared.kind.Kind.{Kind}
use Rattle.graph_maker.specs.declared.adder.Adder.TheVariants.{Ripple}
use Rattle.graph_core.proofs.OfAiger.CallerLemmas.{ArePlaced}
use Rattle.graph_maker.specs.Builder.{Builder, with_gates, literals_from}
use Rattle.graph_maker.specs.Products.{product_gates, products}
use Rattle.graph_maker.specs.Made.{made}
use Rattle.graph_maker.proofs.ArrayAdds.{length-literals_from}
use Rattle.graph_maker.proofs.MadeMultiplies.{a_literals, b_literals, all_products, whole_outputs, count, long, numbered, a_is, b_is, full, no_gates}
use Rattle.graph_maker.proofs.Numbered.{numbered_well_formed}
use Rattle.enough_budget.proofs.Linear.{IsLinear, linear_constant, linear_same, linear_more, linear_plus, linear_times, linear_minus, linear_literal, linear_product}
use Rattle.enough_budget.proofs.Network.{Cell, IsNetwork, all_outs, fulls, outs, size_of, sum_at, carry_at, adder_gates, Valuation, word_at, rows_at, outputs_network}
use Rattle.enough_budget.proofs.Needed.{at_literal, chosen, outs_out, AreWhole, IsReader, AreAdded, needed, needed_few, sum_whole, carry_whole, columns_are, few_needed}
use Rattle.enough_budget.proofs.MadeOnce.{made_once}

-- ---- sums of functions

module _ (m b : ℕ) (pos : 0 < m) where
  scaled : (d : ℕ) (f : Assignment → ℕ) → d ≤ 1 → IsLinear m b f 1 → IsLinear m b (λ σ. d * f σ) (d * 1)
  scaled zero f l h = linear_same m b pos (λ σ. 0) (λ σ. 0 * f σ) (0 * 1) (λ σ. ap (λ z. z % m) (omega arith)) (linear_more m b pos (λ σ. 0) 0 (0 * 1) (omega arith) (linear_constant m b pos 0))
  scaled (suc zero) f l h = linear_same m b pos f (λ σ. 1 * f σ) (1 * 1) (λ σ. ap (λ z. z % m) (omega arith)) (linear_more m b pos f 1 (1 * 1) (omega arith) h)
  scaled (suc (suc d)) f l h = absurd (omega arith)

  module _ (τ : Assignment → Assignment) (d : Lit → ℕ) (few : (l : Lit) → d l ≤ 1) where
    abbrev IsGood : Lit → Type 0
    IsGood l = IsLinear m b (λ σ. bit (literal (τ σ) l)) 1

    abbrev counted : Assignment → Valuation
    counted σ k l = d l * (2 ^ k * bit (literal (τ σ) l))

    abbrev ones : Valuation
    ones k l = d l * 1

    literal_linear : (k : ℕ) (l : Lit) → IsGood l → IsLinear m b (λ σ. counted σ k l) (ones k l)
    literal_linear k l h = scaled (d l) (λ σ. 2 ^ k * bit (literal (τ σ) l)) (few l) (linear_times m b pos (2 ^ k) (λ σ. bit (literal (τ σ) l)) 1 h)

    word_linear : (k : ℕ) (ls : List Lit) → AllByRecursion IsGood ls → IsLinear m b (λ σ. word_at (counted σ) k ls) (word_at ones k ls)
    word_linear k [] h = linear_constant m b pos 0
    word_linear k (l ∷ ls) h = linear_plus m b pos (λ σ. counted σ k l) (λ σ. word_at (counted σ) (suc k) ls) (ones k l) (word_at ones (suc k) ls) (literal_linear k l h.0) (word_linear (suc k) ls h.1)

    rows_linear : (k : ℕ) (rows : List (List Lit)) → AllByRecursion (AllByRecursion IsGood) rows → IsLinear m b (λ σ. rows_at (counted σ) k rows) (rows_at ones k rows)
    rows_linear k [] h = linear_constant m b pos 0
    rows_linear k (r ∷ rows) h = linear_plus m b pos (λ σ. word_at (counted σ) k r) (λ σ. rows_at (counted σ) (suc k) rows) (word_at ones k r) (rows_at ones (suc k) rows) (word_linear k r h.0) (rows_linear (suc k) rows h.1)

    outs_linear : (E : List ℕ) (v : ℕ) (cells : List Cell) → AreWhole E v cells → ((l : Lit) → has E (variable_of l) ≡ false → IsGood l) →
        IsLinear m b (λ σ. outs_out E (counted σ) v cells) (outs_out E ones v cells)
    outs_linear E v [] w h = linear_constant m b pos 0
    outs_linear E v (a ∷ cells) w h =
        let k = a.column in
        let s = sum_at v a.c in
        let r = carry_at v a.c in
        linear_plus m b pos (λ σ. cond (has E (v + 1)) 0 (outs (counted σ) k v a.c)) (λ σ. outs_out E (counted σ) (v + size_of a.c) cells) (cond (has E (v + 1)) 0 (outs ones k v a.c)) (outs_out E ones (v + size_of a.c) cells)
        (by_cases (λ t. has E (v + 1) ≡ t → IsLinear m b (λ σ. cond t 0 (outs (counted σ) k v a.c)) (cond t 0 (outs ones k v a.c))) (has E (v + 1))
        (λ t q. linear_constant m b pos 0)
        (λ t q. linear_plus m b pos (λ σ. counted σ k s) (λ σ. counted σ (suc k) r) (ones k s) (ones (suc k) r)
        (literal_linear k s (h s (sum_whole E v a.x a.y a.c w.0 ∙ q))) (literal_linear (suc k) r (h r (carry_whole E v a.x a.y a.c w.0 ∙ q)))) refl)
        (outs_linear E (v + size_of a.c) cells w.1 h)

  -- ---- partial products of literals that keep their values

  module _ (τ : Assignment → Assignment) where
    -- an input's own literal
    pub record IsKept (l : Lit) : Type 0 where
      pub even : l.0 ≡ 2 * variable_of l
      pub low : variable_of l ≤ b
      pub kept : (σ : Assignment) → literal (τ σ) l ≡ literal σ l

    kept_bit : (l : Lit) → IsKept l → (σ : Assignment) → bit (literal (τ σ) l) ≡ bit (variable σ (variable_of l))
    kept_bit l h σ = ap bit (h.kept σ ∙ literal-even σ l (variable_of l) h.even)

    kept_product : (x y : Lit) → IsKept x → IsKept y → IsLinear m b (λ σ. bit (literal (τ σ) x) * bit (literal (τ σ) y)) 1
    kept_product x y h k =
        linear_same m b pos (λ σ. bit (variable σ (variable_of x)) * bit (variable σ (variable_of y))) (λ σ. bit (literal (τ σ) x) * bit (literal (τ σ) y)) 1
        (λ σ. ap₂ (λ i j. (i * j) % m) (kept_bit x h σ) (kept_bit y k σ)) (linear_product m b pos (variable_of x) (variable_of y) h.low k.low)

    at_linear : (x : Lit) (bs : List Lit) (k : ℕ) → IsKept x → AllByRecursion IsKept bs → IsLinear m b (λ σ. bit (literal (τ σ) x) * bit_at (τ σ) bs k) 1
    at_linear x [] k h g = linear_same m b pos (λ σ. 0) (λ σ. bit (literal (τ σ) x) * 0) 1 (λ σ. ap (λ z. z % m) (omega arith)) (linear_more m b pos (λ σ. 0) 0 1 (omega arith) (linear_constant m b pos 0))
    at_linear x (y ∷ bs) zero h g = kept_product x y h g.0
    at_linear x (y ∷ bs) (suc k) h g = at_linear x bs k h g.1

    products_linear : (as' bs : List Lit) (k : ℕ) → AllByRecursion IsKept as' → AllByRecursion IsKept bs → IsLinear m b (λ σ. partial_products (τ σ) as' bs k) (length as')
    products_linear [] bs k h g = linear_constant m b pos 0
    products_linear (x ∷ as') bs zero h g = linear_more m b pos (λ σ. bit (literal (τ σ) x) * bit_at (τ σ) bs 0) 1 (length (x ∷ as')) (omega arith) (at_linear x bs 0 h.0 g)
    products_linear (x ∷ as') bs (suc k) h g =
        linear_more m b pos (λ σ. bit (literal (τ σ) x) * bit_at (τ σ) bs (suc k) + partial_products (τ σ) as' bs k) (1 + length as') (length (x ∷ as')) (omega arith)
        (linear_plus m b pos (λ σ. bit (literal (τ σ) x) * bit_at (τ σ) bs (suc k)) (λ σ. partial_products (τ σ) as' bs k) 1 (length as') (at_linear x bs (suc k) h.0 g) (products_linear as' bs k h.1 g))

    -- what is taken from the added columns
    abbrev taken_away : List Lit → List Lit → List ℕ → ℕ → List Lit → Assignment → ℕ
    taken_away as' bs K k [] σ = 0
    taken_away as' bs K k (o ∷ os) σ = cond (has K k) (2 ^ k * partial_products (τ σ) as' bs k) 0 + taken_away as' bs K (suc k) os σ

    away_linear : (as' bs : List Lit) (K : List ℕ) (k : ℕ) (os : List Lit) → AllByRecursion IsKept as' → AllByRecursion IsKept bs → IsLinear m b (taken_away as' bs K k os) (length os * length as')
    away_linear as' bs K k [] h g = linear_more m b pos (λ σ. 0) 0 (0 * length as') (omega arith) (linear_constant m b pos 0)
    away_linear as' bs K k (o ∷ os) h g =
        linear_more m b pos (taken_away as' bs K k (o ∷ os)) (length as' + length os * length as') (length (o ∷ os) * length as') (omega arith)
        (linear_plus m b pos (λ σ. cond (has K k) (2 ^ k * partial_products (τ σ) as' bs k) 0) (taken_away as' bs K (suc k) os) (length as') (length os * length as')
        (by_cases (λ t. IsLinear m b (λ σ. cond t (2 ^ k * partial_products (τ σ) as' bs k) 0) (length as')) (has K k)
        (λ t. linear_times m b pos (2 ^ k) (λ σ. partial_products (τ σ) as' bs k) (length as') (products_linear as' bs k h g))
        (λ t. linear_more m b pos (λ σ. 0) 0 (length as') (omega arith) (linear_constant m b pos 0)))
        (away_linear as' bs K (suc k) os h g))

    abbrev pub two : List Lit → List Lit → Sides
    two as' bs = record { claim = product_under Separate; a = as'; b = bs; c = [] }

    -- the columns' sum, and what is taken away, are the outputs
    columns_plus : (as' bs : List Lit) (K : List ℕ) (k : ℕ) (os : List Lit) (σ : Assignment) →
        (columns_sum m (two as' bs) K k os (τ σ) + taken_away as' bs K k os σ) % m ≡ chosen K (λ j l. 2 ^ j * bit (literal (τ σ) l)) k os % m
    columns_plus as' bs K k [] σ = refl
    columns_plus as' bs K k (o ∷ os) σ =
        let p = partial_products (τ σ) as' bs k in
        let x = bit (literal (τ σ) o) in
        let rest = columns_plus as' bs K (suc k) os σ in
        let here = by_cases (λ t. (cond t (2 ^ k * difference m x p) 0 + cond t (2 ^ k * p) 0) % m ≡ cond t (2 ^ k * x) 0 % m) (has K k)
        (λ t. ap (λ z. z % m) (omega arith) ∙ product_same m (2 ^ k) (2 ^ k) (difference m x p + p) x refl (difference_plus m x p pos)) (λ t. refl) in
        let flip : (cond (has K k) (2 ^ k * difference m x p) 0 + columns_sum m (two as' bs) K (suc k) os (τ σ)) + (cond (has K k) (2 ^ k * p) 0 + taken_away as' bs K (suc k) os σ) ≡
        (cond (has K k) (2 ^ k * difference m x p) 0 + cond (has K k) (2 ^ k * p) 0) + (columns_sum m (two as' bs) K (suc k) os (τ σ) + taken_away as' bs K (suc k) os σ) = omega arith in
        ap (λ z. z % m) flip ∙
        sum_same m (cond (has K k) (2 ^ k * difference m x p) 0 + cond (has K k) (2 ^ k * p) 0) (cond (has K k) (2 ^ k * x) 0)
        (columns_sum m (two as' bs) K (suc k) os (τ σ) + taken_away as' bs K (suc k) os σ) (chosen K (λ j l. 2 ^ j * bit (literal (τ σ) l)) (suc k) os) here rest

-- ---- made graphs

bit_and : (x y : Bool) → bit (x && y) ≡ bit x * bit y
bit_and true true = refl
bit_and true false = refl
bit_and false true = refl
bit_and false false = refl

outputs_same : (k : ℕ) (ls : List Lit) → outputs_from [] k ls ≡ ls
outputs_same k [] = refl
outputs_same k (l ∷ ls) = ap (λ ms. l ∷ ms) (outputs_same (suc k) ls)

pub placed_above : (low v : ℕ) (gates : List Gate) → low ≤ v → ArePlaced v gates → AllByRecursion (λ x. low < x.v) gates
placed_above low v [] l h = tt
placed_above low v (x ∷ gates) l h = (omega (arith, h.0), placed_above low (suc v) gates (omega arith) h.3)

-- what holds of all gates after the products holds of those before
products_before : (P : Gate → Type 0) (b : Builder) (xs ys : List Lit) → AllByRecursion P (products b xs ys).builder.gates → AllByRecursion P b.gates
products_before P b xs [] h = h
products_before P b xs (y ∷ ys) h = (all_split P b.gates (product_gates b.last xs y) (products_before P (with_gates b (product_gates b.last xs y)) xs ys h)).0

added_from : (E K : List ℕ) (k : ℕ) (ls : List Lit) → ((i : ℕ) (l : Lit) → slice_get ls i ≡ Some l → has E (variable_of l) ≡ true → has K (k + i) ≡ true) → AreAdded E K k ls
added_from E K k [] h = tt
added_from E K k (l ∷ ls) h = (
  (λ t. ap (has K) (omega arith) ∙ h 0 l refl t),
  added_from E K (suc k) ls (λ i m s t. ap (has K) (omega arith) ∙ h (suc i) m s t),
)

-- the literals of variables from 1 on
kept_literals : (m b : ℕ) (pos : 0 < m) (τ : Assignment → Assignment) (v n : ℕ) → v + n ≤ b + 1 → ((w : ℕ) → w ≤ b → (σ : Assignment) → τ σ w ≡ σ w) → AllByRecursion (IsKept m b pos τ) (literals_from v n)
kept_literals m b pos τ v zero l h = tt
kept_literals m b pos τ v (suc n) l h = (
  record { even = omega arith; low = omega arith; kept = λ σ. literal_same (τ σ) σ (plain v) (h (variable_of (plain v)) (omega arith) σ) },
  kept_literals m b pos τ (v + 1) n (omega arith) h,
)

module _ (kind : Kind) (n : ℕ) (pos : 0 < n) where
  abbrev pub g : Aig
  g = made kind n Ripple

  abbrev pub e : Extended
  e = without_cut g

  abbrev pub m : ℕ
  m = modulus e

  pub above : 0 < m
  above = pow_pos (length g.outputs)

  abbrev pub rows : List (List Lit)
  rows = (all_products kind n Ripple pos).rows

  abbrev pub base : ℕ
  base = (all_products kind n Ripple pos).builder.last

  rows_count : length rows ≡ n
  rows_count = count kind n Ripple pos

  pub network : IsNetwork (all_products kind n Ripple pos).builder (whole_outputs kind n Ripple pos).builder (λ φ. rows_at φ 0 rows) (λ φ. word_at φ 0 g.outputs) (length rows * length rows + 2 * length rows)
  network = outputs_network kind (all_products kind n Ripple pos).builder rows (omega (arith, rows_count)) (long kind n Ripple pos)

  abbrev pub cells : List Cell
  cells = network.cells

  pub gates_are : g.gates ≡ (all_products kind n Ripple pos).builder.gates ++ adder_gates base cells
  gates_are = network.gates

  pub made_extension : IsExtension e
  made_extension = graph_extends g (numbered_well_formed (2 * n) g (numbered kind n Ripple pos))

  module _ (K E : List ℕ) (f : IsFrontier e K E) (whole : AreWhole E base cells) where
    abbrev τ : Assignment → Assignment
    τ σ = evaluation (gates_among E g.gates) σ

    abbrev IsComputed : Assignment → Gate → Type 0
    IsComputed σ x = has E x.v ≡ true → variable (τ σ) x.v ≡ (literal (τ σ) x.left && literal (τ σ) x.right)

    all_computed : (σ : Assignment) → AllByRecursion (IsComputed σ) g.gates
    all_computed σ =
        all_filtered (λ x. variable (τ σ) x.v ≡ (literal (τ σ) x.left && literal (τ σ) x.right)) (λ x. has E x.v) g.gates
        (recursion_from_All (λ x. variable (τ σ) x.v ≡ (literal (τ σ) x.left && literal (τ σ) x.right)) (gates_among E g.gates) (computed_is e made_extension E σ))

    parts_computed : (σ : Assignment) → AllByRecursion (IsComputed σ) (all_products kind n Ripple pos).builder.gates × AllByRecursion (IsComputed σ) (adder_gates base cells)
    parts_computed σ = all_split (IsComputed σ) (all_products kind n Ripple pos).builder.gates (adder_gates base cells) (subst (AllByRecursion (IsComputed σ)) gates_are (all_computed σ))

    stays : (l : Lit) → has E (variable_of l) ≡ false → (σ : Assignment) → literal (τ σ) l ≡ literal σ l
    stays l h σ = literal_same (τ σ) σ l (computed_keeps e made_extension E σ (variable_of l) h)

    input_stays : (w : ℕ) → w ≤ 2 * n → (σ : Assignment) → τ σ w ≡ σ w
    input_stays w low σ =
        rounds-free (gates_among E g.gates) σ (length (gates_among E g.gates)) w
        (finds_none (gates_among E g.gates) w
        (filter_all (λ x. w ≢ x.v) (λ x. has E x.v) g.gates
        (all_weaker (λ x. 2 * n < x.v) (λ x. has E x.v ≡ true → w ≢ x.v) g.gates (λ x k t same. absurd (omega arith)) (placed_above (2 * n) (2 * n) g.gates (omega arith) (numbered kind n Ripple pos).gates))))

    abbrev Kept : Lit → Type 0
    Kept l = IsKept m (2 * n) above τ l

    a_kept : AllByRecursion Kept (literals_from 1 n)
    a_kept = kept_literals m (2 * n) above τ 1 n (omega arith) input_stays

    b_kept : AllByRecursion Kept (literals_from (n + 1) n)
    b_kept = kept_literals m (2 * n) above τ (n + 1) n (omega arith) input_stays

    abbrev Good : Lit → Type 0
    Good l = IsLinear m (2 * n) (λ σ. bit (literal (τ σ) l)) 1

    good_here : (l : Lit) → has E (variable_of l) ≡ false → Good l
    good_here l h = linear_same m (2 * n) above (λ σ. bit (literal σ l)) (λ σ. bit (literal (τ σ) l)) 1 (λ σ. ap (λ b. bit b % m) (stays l h σ)) (linear_literal m (2 * n) above l)

    product_good : (v : ℕ) (x y : Lit) → Kept x → Kept y → ((σ : Assignment) → has E (v + 1) ≡ true → variable (τ σ) (v + 1) ≡ (literal (τ σ) x && literal (τ σ) y)) → Good (plain (v + 1))
    product_good v x y h k c =
        by_cases (λ t. has E (v + 1) ≡ t → Good (plain (v + 1))) (has E (v + 1))
        (λ t q. linear_same m (2 * n) above (λ σ. bit (literal (τ σ) x) * bit (literal (τ σ) y)) (λ σ. bit (literal (τ σ) (plain (v + 1)))) 1
        (λ σ. ap (λ z. z % m) (ap bit (literal-even (τ σ) (plain (v + 1)) (v + 1) refl ∙ c σ q) ∙ bit_and (literal (τ σ) x) (literal (τ σ) y))) (kept_product m (2 * n) above τ x y h k))
        (λ t q. good_here (plain (v + 1)) (ap (has E) (omega arith) ∙ q)) refl

    row_good : (v : ℕ) (xs : List Lit) (y : Lit) → AllByRecursion Kept xs → Kept y → ((σ : Assignment) → AllByRecursion (IsComputed σ) (product_gates v xs y)) → AllByRecursion Good (literals_from (v + 1) (length xs))
    row_good v [] y h k c = tt
    row_good v (x ∷ xs) y h k c = (product_good v x y h.0 k (λ σ. (c σ).0), row_good (v + 1) xs y h.1 k (λ σ. (c σ).1))

    rows_good : (b : Builder) (xs ys : List Lit) → AllByRecursion Kept xs → AllByRecursion Kept ys → ((σ : Assignment) → AllByRecursion (IsComputed σ) (products b xs ys).builder.gates) →
        AllByRecursion (AllByRecursion Good) (products b xs ys).rows
    rows_good b xs [] h k c = tt
    rows_good b xs (y ∷ ys) h k c =
        let next = with_gates b (product_gates b.last xs y) in
        (row_good b.last xs y h k.0 (λ σ. (all_split (IsComputed σ) b.gates (product_gates b.last xs y) (products_before (IsComputed σ) next xs ys (c σ))).1), rows_good next xs ys h k.1 c)

    all_readers : AllByRecursion (IsReader E) (adder_gates base cells)
    all_readers = (all_split (IsReader E) (all_products kind n Ripple pos).builder.gates (adder_gates base cells) (subst (AllByRecursion (IsReader E)) gates_are (recursion_from_All (IsReader E) g.gates f.readers))).1

    all_added : AreAdded E K 0 g.outputs
    all_added = added_from E K 0 g.outputs (λ i l s t. ap (has K) (omega arith) ∙ f.outputs i l (ap (λ ls. slice_get ls i) (outputs_same 0 g.outputs) ∙ s) t)

    once : (l : Lit) → 0 < l.0 → rows_at (at_literal l) 0 rows + all_outs (at_literal l) base cells ≤ 1
    once l p = made_once l (no_gates kind n Ripple pos) (a_literals kind n Ripple pos) (b_literals kind n Ripple pos) cells

    abbrev need : Lit → ℕ
    need = needed E K base cells rows g.outputs network.sum once whole all_readers all_added

    need_few : (l : Lit) → need l ≤ 1
    need_few = needed_few E K base cells rows g.outputs network.sum once whole all_readers all_added

    abbrev weighted : Assignment → Valuation
    weighted σ k l = need l * (2 ^ k * bit (literal (τ σ) l))

    abbrev ones_of : Valuation
    ones_of k l = need l * 1

    outputs_linear : IsLinear m (2 * n) (λ σ. chosen K (λ k l. 2 ^ k * bit (literal (τ σ) l)) 0 g.outputs) (n * n + 4 * n)
    outputs_linear =
        let r = rows_linear m (2 * n) above τ need need_few 0 rows
        (rows_good (no_gates kind n Ripple pos) (a_literals kind n Ripple pos) (b_literals kind n Ripple pos) a_kept b_kept (λ σ. (parts_computed σ).0)) in
        let o = outs_linear m (2 * n) above τ need need_few E base cells whole good_here in
        let len : length g.outputs ≡ 2 * n = full kind n Ripple pos in
        let most : rows_at ones_of 0 rows + outs_out E ones_of base cells ≤ length g.outputs + fulls cells = few_needed E K base cells rows g.outputs network.sum once whole all_readers all_added in
        let square : length rows * length rows ≡ n * n = ap (λ z. z * z) rows_count in
        linear_same m (2 * n) above (λ σ. rows_at (weighted σ) 0 rows + outs_out E (weighted σ) base cells) (λ σ. chosen K (λ k l. 2 ^ k * bit (literal (τ σ) l)) 0 g.outputs) (n * n + 4 * n)
        (λ σ. ap (λ z. z % m) (columns_are E K base cells rows g.outputs network.sum once whole all_readers all_added (τ σ) (parts_computed σ).1))
        (linear_more m (2 * n) above (λ σ. rows_at (weighted σ) 0 rows + outs_out E (weighted σ) base cells) (rows_at ones_of 0 rows + outs_out E ones_of base cells) (n * n + 4 * n) (omega (arith, most, len, network.few, rows_count, square))
        (linear_plus m (2 * n) above (λ σ. rows_at (weighted σ) 0 rows) (λ σ. outs_out E (weighted σ) base cells) (rows_at ones_of 0 rows) (outs_out E ones_of base cells) r o))

    pub whole_linear : IsLinear m (2 * n) (frontier_value e (sides_of Separate g) K E) (n * n + 4 * n + 2 * n * n)
    whole_linear =
        let as' = literals_from 1 n in
        let bs = literals_from (n + 1) n in
        let away = taken_away m (2 * n) above τ as' bs K 0 g.outputs in
        let len : length g.outputs ≡ 2 * n = full kind n Ripple pos in
        let size : length g.outputs * length as' ≡ 2 * n * n = ap₂ ◌*◌ len (length-literals_from 1 n) in
        linear_same m (2 * n) above (λ σ. columns_sum m (two m (2 * n) above τ as' bs) K 0 g.outputs (τ σ)) (frontier_value e (sides_of Separate g) K E) (n * n + 4 * n + 2 * n * n)
        (λ σ. mod-mod (columns_sum m (sides_of Separate g) K 0 (new_outputs e) (τ σ)) m ∙
        ap (λ ls. columns_sum m (sides_of Separate g) K 0 ls (τ σ) % m) (outputs_same 0 g.outputs) ∙
        ap₂ (λ xs ys. columns_sum m (two m (2 * n) above τ xs ys) K 0 g.outputs (τ σ) % m) (a_is kind n Ripple pos) (b_is kind n Ripple pos))
        (linear_minus m (2 * n) above (λ σ. columns_sum m (two m (2 * n) above τ as' bs) K 0 g.outputs (τ σ)) away (λ σ. chosen K (λ k l. 2 ^ k * bit (literal (τ σ) l)) 0 g.outputs) (n * n + 4 * n) (2 * n * n)
        (columns_plus m (2 * n) above τ as' bs K 0 g.outputs) outputs_linear
        (linear_more m (2 * n) above away (length g.outputs * length as') (2 * n * n) (omega (arith, size)) (away_linear m (2 * n) above τ as' bs K 0 g.outputs a_kept b_kept)))
