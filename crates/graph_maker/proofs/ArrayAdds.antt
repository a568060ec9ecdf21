-- The partial products and the array of the maker multiply, on each evaluation.
use Rattle.std.specs.Prelude.{◌≡◌, ℕ, zero, suc, ◌+◌, ◌*◌, ◌^◌, ◌<◌, ◌≤◌, Bool, true, false, ◌&&◌, List, [], ◌∷◌, ◌++◌, map, length, take, drop}
use Rattle.std.specs.declared.option.Option.TheVariants.{Some}
use Rattle.std.specs.List.{AllByRecursion}
use Rattle.std.proofs.Common.{refl, ap, ◌∙◌, arith, pow-suc, length-append, length-drop}
use Rattle.std.proofs.lemmas.List.{length-map}
use Rattle.graph_core.specs.declared.literal.Lit.{Lit}
use Rattle.graph_maker.specs.declared.adder.Adder.{Adder}
use Rattle.graph_core.specs.Graph.Assignments.{Assignment, bit, literal, word}
use Rattle.graph_core.specs.Graph.Literals.{plain, constant_false}
use Rattle.graph_maker.specs.Builder.{Builder, with_gates, literals_from}
use Rattle.graph_maker.specs.Adders.{adder_outputs}
use Rattle.graph_maker.specs.Products.{product_gates, products}
use Rattle.graph_maker.specs.ArrayRows.{row_adder, array_rows, array}
use Rattle.graph_core.proofs.OfGraphs.CallerLemmas.{literal-even}
use Rattle.graph_maker.proofs.CellFacts.{Computes, Holds, holds_split, word_or}
use Rattle.graph_maker.proofs.AddersAdd.{adder_adds, length-adder}

-- rows, each of which begins a column further
abbrev pub rows_sum : Assignment → List (List Lit) → ℕ
rows_sum σ [] = 0
rows_sum σ (r ∷ rows) = word σ r + 2 * rows_sum σ rows

abbrev pub AreLong : ℕ → List (List Lit) → Type 0
AreLong n rows = AllByRecursion (λ r. length r ≡ n) rows

pub bit_and : (x y : Bool) → bit (x && y) ≡ bit y * bit x
bit_and true true = refl
bit_and true false = refl
bit_and false true = refl
bit_and false false = refl

products_are : (σ : Assignment) (v : ℕ) (xs : List Lit) (y : Lit) → Computes σ (product_gates v xs y) → word σ (literals_from (v + 1) (length xs)) ≡ bit (literal σ y) * word σ xs
products_are σ v [] y h = omega arith
products_are σ v (x ∷ xs) y h =
    let rest = products_are σ (v + 1) xs y h.1 in
    let here : bit (literal σ (plain (v + 1))) ≡ bit (literal σ y) * bit (literal σ x) = ap bit (literal-even σ (plain (v + 1)) (v + 1) refl ∙ h.0) ∙ bit_and (literal σ x) (literal σ y) in
    omega (arith, rest, here)

pub products_multiply : (σ : Assignment) (b : Builder) (xs ys : List Lit) → Holds σ (products b xs ys).builder → Holds σ b × (rows_sum σ (products b xs ys).rows ≡ word σ xs * word σ ys)
products_multiply σ b xs [] h = (h, omega arith)
products_multiply σ b xs (y ∷ ys) h =
    let rest = products_multiply σ (with_gates b (product_gates b.last xs y)) xs ys h in
    let here = holds_split σ b (product_gates b.last xs y) rest.0 in
    (here.0, omega (arith, rest.1, products_are σ b.last xs y here.1))

pub length-literals_from : (v n : ℕ) → length (literals_from v n) ≡ n
length-literals_from v zero = refl
length-literals_from v (suc n) = ap suc (length-literals_from (v + 1) n)

pub products_long : (b : Builder) (xs ys : List Lit) → AreLong (length xs) (products b xs ys).rows
products_long b xs [] = tt
products_long b xs (y ∷ ys) = (length-literals_from (b.last + 1) (length xs), products_long (with_gates b (product_gates b.last xs y)) xs ys)

pub length-products : (b : Builder) (xs ys : List Lit) → length (products b xs ys).rows ≡ length ys
length-products b xs [] = refl
length-products b xs (y ∷ ys) = ap suc (length-products (with_gates b (product_gates b.last xs y)) xs ys)

-- ---- words

pub word-append : (σ : Assignment) (xs ys : List Lit) → word σ (xs ++ ys) ≡ word σ xs + 2 ^ length xs * word σ ys
word-append σ [] ys = omega arith
word-append σ (x ∷ xs) ys = omega (arith, word-append σ xs ys, ap (λ p. p * word σ ys) (pow-suc 2 (length xs)))

pub word-split : (σ : Assignment) (j : ℕ) (xs : List Lit) → j ≤ length xs → word σ xs ≡ word σ (take j xs) + 2 ^ j * word σ (drop j xs)
word-split σ zero xs l = omega arith
word-split σ (suc j) [] l = absurd (omega arith)
word-split σ (suc j) (x ∷ xs) l = omega (arith, word-split σ j xs (omega arith), ap (λ p. p * word σ (drop j xs)) (pow-suc 2 j))

pub length-take_to : (j : ℕ) (xs : List Lit) → j ≤ length xs → length (take j xs) ≡ j
length-take_to zero xs l = refl
length-take_to (suc j) [] l = absurd (omega arith)
length-take_to (suc j) (x ∷ xs) l = ap suc (length-take_to j xs (omega arith))

pub word_or-some : (σ : Assignment) (xs : List Lit) → word_or σ (map Some xs) ≡ word σ xs
word_or-some σ [] = refl
word_or-some σ (x ∷ xs) = omega (arith, word_or-some σ xs)

-- ---- the array

-- the row that is left after one more row
abbrev pub next_row : Adder → Builder → List Lit → ℕ → List Lit → List (List Lit) → List Lit
next_row adder b row j r rows = take j row ++ (adder_outputs (row_adder adder rows) b (map Some (drop j row)) r).outputs

pub length-next_row : (adder : Adder) (b : Builder) (row : List Lit) (j : ℕ) (r : List Lit) (rows : List (List Lit)) → j ≤ length row → length (next_row adder b row j r rows) ≡ suc j + length r
length-next_row adder b row j r rows l =
    omega (arith, length-append (take j row) (adder_outputs (row_adder adder rows) b (map Some (drop j row)) r).outputs, length-take_to j row l, length-adder (row_adder adder rows) b (map Some (drop j row)) r)

rows_add : (n : ℕ) (adder : Adder) (σ : Assignment) (b : Builder) (row : List Lit) (j : ℕ) (rows : List (List Lit)) → j ≤ length row → length row ≤ j + n → AreLong n rows →
    Holds σ (array_rows adder b row j rows).builder → Holds σ b × (word σ (array_rows adder b row j rows).outputs ≡ word σ row + 2 ^ j * rows_sum σ rows)
rows_add n adder σ b row j [] low high long h = (h, omega arith)
rows_add n adder σ b row j (r ∷ rows) low high long h =
    let xs = map Some (drop j row) in
    let s = adder_outputs (row_adder adder rows) b xs r in
    let len = length-next_row adder b row j r rows low in
    let rest = rows_add n adder σ s.builder (next_row adder b row j r rows) (suc j) rows (omega arith) (omega (arith, long.0)) long.1 h in
    let count : length xs ≡ length (drop j row) = length-map (drop j row) Some in
    let here = adder_adds (row_adder adder rows) σ b xs r (omega (arith, count, length-drop j row, long.0)) rest.0 in
    let whole : word σ (next_row adder b row j r rows) ≡ word σ (take j row) + 2 ^ j * word σ s.outputs =
    word-append σ (take j row) s.outputs ∙ ap (λ k. word σ (take j row) + 2 ^ k * word σ s.outputs) (length-take_to j row low) in
    let sum : word σ s.outputs ≡ word σ (drop j row) + word σ r = here.1 ∙ ap (λ k. k + word σ r) (word_or-some σ (drop j row)) in
    (here.0, omega (arith, rest.1, whole, ap (λ k. 2 ^ j * k) sum, word-split σ j row low, ap (λ p. p * rows_sum σ rows) (pow-suc 2 j)))

pub array_adds : (n : ℕ) (adder : Adder) (σ : Assignment) (b : Builder) (rows : List (List Lit)) → 0 < n → AreLong n rows →
    Holds σ (array adder b rows).builder → Holds σ b × (word σ (array adder b rows).outputs ≡ rows_sum σ rows)
array_adds n adder σ b [] pos long h = (h, refl)
array_adds n adder σ b (r ∷ []) pos long h = (h, omega (arith, word-append σ r (constant_false ∷ [])))
array_adds n adder σ b (r ∷ s ∷ rows) pos long h =
    let sum = rows_add n adder σ b r 1 (s ∷ rows) (omega (arith, long.0)) (omega (arith, long.0)) long.1 h in
    (sum.0, omega (arith, sum.1))

length-rows : (n : ℕ) (adder : Adder) (b : Builder) (row : List Lit) (j : ℕ) (rows : List (List Lit)) → j ≤ length row → AreLong n rows →
    length row ≡ j + n → length (array_rows adder b row j rows).outputs ≡ j + n + length rows
length-rows n adder b row j [] low long e = omega arith
length-rows n adder b row j (r ∷ rows) low long e =
    let s = adder_outputs (row_adder adder rows) b (map Some (drop j row)) r in
    let len = length-next_row adder b row j r rows low in
    omega (arith, length-rows n adder s.builder (next_row adder b row j r rows) (suc j) rows (omega arith) long.1 (omega (arith, long.0)))

pub length-array : (n : ℕ) (adder : Adder) (b : Builder) (rows : List (List Lit)) → 0 < n → 0 < length rows → AreLong n rows → length (array adder b rows).outputs ≡ n + length rows
length-array n adder b [] pos some long = absurd (omega arith)
length-array n adder b (r ∷ []) pos some long = omega (arith, length-append r (constant_false ∷ []), long.0)
length-array n adder b (r ∷ s ∷ rows) pos some long =
    let a = adder_outputs (row_adder adder rows) b (map Some (drop 1 r)) s in
    let len = length-next_row adder b r 1 s rows (omega (arith, long.0)) in
    omega (arith, length-rows n adder a.builder (next_row adder b r 1 s rows) 2 rows (omega (arith, len, long.1.0)) long.1.1 (omega (arith, len, long.1.0)))
