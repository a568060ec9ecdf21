-- The half and full adders of the maker, in the order in which they are made, and what they take from and give to sums
-- over the literals of columns.
use Rattle.std.specs.declared.option.Option.{Option}
use Rattle.std.specs.declared.option.Option.TheVariants.{None, Some}
use Rattle.std.specs.Prelude.{◌≡◌, ℕ, zero, suc, ◌+◌, ◌*◌, ◌-◌, ◌<◌, ◌≤◌, max, Bool, true, false, cond, List, [], ◌∷◌, ◌++◌, map, length, take, drop, nat_lt}
use Rattle.std.proofs.Common.{refl, sym, ap, ap₂, subst, ◌∙◌, arith, length-append, length-drop}
use Rattle.std.proofs.lemmas.Bool.{ltb-true}
use Rattle.std.proofs.lemmas.List.{length-map}
use Rattle.graph_core.specs.declared.literal.Lit.{Lit}
use Rattle.graph_core.specs.declared.gate.Gate.{Gate}
use Rattle.graph_maker.specs.declared.kind.Kind.{Kind}
use Rattle.graph_maker.specs.declared.kind.Kind.TheVariants.{Array, Dadda}
use Rattle.graph_maker.specs.declared.adder.Adder.TheVariants.{Ripple}
use Rattle.graph_core.specs.Graph.Literals.{plain, constant_false}
use Rattle.graph_maker.specs.Builder.{Builder, or_false}
use Rattle.graph_core.specs.Graph.Positions.{position, sum_after, carry_after}
use Rattle.graph_maker.specs.Cells.{half_gates, half_adder, full_adder, cell}
use Rattle.graph_maker.specs.Ripple.{first, ripple}
use Rattle.graph_maker.specs.DaddaTree.{Columns, put_first, columns_of, reduce_column, stage, stages, heights, x_of, y_of, last_adder, dadda}
use Rattle.graph_maker.specs.Adders.{adder_outputs}
use Rattle.graph_maker.specs.ArrayRows.{row_adder, array_rows, array}
use Rattle.graph_maker.specs.Made.{outputs_of}
use Rattle.graph_maker.proofs.CellFacts.{shorter}
use Rattle.graph_maker.proofs.ArrayAdds.{AreLong, length-next_row, length-take_to}
use Rattle.graph_maker.proofs.DaddaAdds.{AreLow, AreFew, IsStaged, staged, few_next, none_few, Fall, AreReduced, one_stage, one_reduces, above, length-stages, heights_fall, start_reduced, ArePairs, low_pairs, IsFirstLow, reduced, two_at_most, length-columns_of}

-- an adder: its column and what it adds; with c it is a full adder
pub record Cell : Type 0 where
  pub column : ℕ
  pub x : Lit
  pub y : Lit
  pub c : Option Lit

-- its gates, in the variables after v, and the literals that it makes
abbrev pub gates_at : ℕ → Lit → Lit → Option Lit → List Gate
gates_at v x y None = half_gates v x y
gates_at v x y (Some c) = position v x y c

abbrev pub size_of : Option Lit → ℕ
size_of None = 3
size_of (Some c) = 7

abbrev pub sum_at : ℕ → Option Lit → Lit
sum_at v None = plain (v + 3)
sum_at v (Some c) = sum_after v

abbrev pub carry_at : ℕ → Option Lit → Lit
carry_at v None = plain (v + 1)
carry_at v (Some c) = carry_after v

abbrev pub adder_gates : ℕ → List Cell → List Gate
adder_gates v [] = []
adder_gates v (a ∷ cells) = gates_at v a.x a.y a.c ++ adder_gates (v + size_of a.c) cells

abbrev pub end_of : ℕ → List Cell → ℕ
end_of v [] = v
end_of v (a ∷ cells) = end_of (v + size_of a.c) cells

-- a number for each literal of each column
abbrev pub Valuation : Type 0
Valuation = ℕ → Lit → ℕ

abbrev pub IsZero : Valuation → Type 0
IsZero φ = (k : ℕ) → φ k constant_false ≡ 0

abbrev pub ins : Valuation → ℕ → Lit → Lit → Option Lit → ℕ
ins φ k x y None = φ k x + φ k y
ins φ k x y (Some c) = φ k x + φ k y + φ k c

abbrev pub outs : Valuation → ℕ → ℕ → Option Lit → ℕ
outs φ k v c = φ k (sum_at v c) + φ (suc k) (carry_at v c)

abbrev pub all_ins : Valuation → List Cell → ℕ
all_ins φ [] = 0
all_ins φ (a ∷ cells) = ins φ a.column a.x a.y a.c + all_ins φ cells

abbrev pub all_outs : Valuation → ℕ → List Cell → ℕ
all_outs φ v [] = 0
all_outs φ v (a ∷ cells) = outs φ a.column v a.c + all_outs φ (v + size_of a.c) cells

abbrev pub full : Option Lit → ℕ
full None = 0
full (Some c) = 1

abbrev pub fulls : List Cell → ℕ
fulls [] = 0
fulls (a ∷ cells) = full a.c + fulls cells

abbrev pub word_at : Valuation → ℕ → List Lit → ℕ
word_at φ k [] = 0
word_at φ k (l ∷ ls) = φ k l + word_at φ (suc k) ls

abbrev pub ones_at : Valuation → ℕ → List Lit → ℕ
ones_at φ k [] = 0
ones_at φ k (l ∷ ls) = φ k l + ones_at φ k ls

abbrev pub columns_at : Valuation → ℕ → List (List Lit) → ℕ
columns_at φ k [] = 0
columns_at φ k (c ∷ cs) = ones_at φ k c + columns_at φ (suc k) cs

abbrev pub rows_at : Valuation → ℕ → List (List Lit) → ℕ
rows_at φ k [] = 0
rows_at φ k (r ∷ rows) = word_at φ k r + rows_at φ (suc k) rows

abbrev pub word_or : Valuation → ℕ → List (Option Lit) → ℕ
word_or φ k xs = word_at φ k (map or_false xs)

-- From one builder to the next: the adders that were made. Each literal of the sum before, or that an adder gives, is
-- one of the sum after, or one that an adder takes.
pub record IsNetwork (b next : Builder) (before after : Valuation → ℕ) (most : ℕ) : Type 0 where
  pub cells : List Cell
  pub gates : next.gates ≡ b.gates ++ adder_gates b.last cells
  pub last : next.last ≡ end_of b.last cells
  pub sum : (φ : Valuation) → IsZero φ → after φ + all_ins φ cells ≡ before φ + all_outs φ b.last cells
  pub few : fulls cells ≤ most

append-nil : {X : Type 0} (xs : List X) → xs ++ [] ≡ xs
append-nil [] = refl
append-nil (x ∷ xs) = ap (λ ys. x ∷ ys) (append-nil xs)

append-assoc : {X : Type 0} (xs ys zs : List X) → (xs ++ ys) ++ zs ≡ xs ++ (ys ++ zs)
append-assoc [] ys zs = refl
append-assoc (x ∷ xs) ys zs = ap (λ ws. x ∷ ws) (append-assoc xs ys zs)

gates-append : (v : ℕ) (as' bs : List Cell) → adder_gates v (as' ++ bs) ≡ adder_gates v as' ++ adder_gates (end_of v as') bs
gates-append v [] bs = refl
gates-append v (a ∷ as') bs =
    ap (λ gs. gates_at v a.x a.y a.c ++ gs) (gates-append (v + size_of a.c) as' bs) ∙
    sym (append-assoc (gates_at v a.x a.y a.c) (adder_gates (v + size_of a.c) as') (adder_gates (end_of (v + size_of a.c) as') bs))

end-append : (v : ℕ) (as' bs : List Cell) → end_of v (as' ++ bs) ≡ end_of (end_of v as') bs
end-append v [] bs = refl
end-append v (a ∷ as') bs = end-append (v + size_of a.c) as' bs

ins-append : (φ : Valuation) (as' bs : List Cell) → all_ins φ (as' ++ bs) ≡ all_ins φ as' + all_ins φ bs
ins-append φ [] bs = omega arith
ins-append φ (a ∷ as') bs = omega (arith, ins-append φ as' bs)

outs-append : (φ : Valuation) (v : ℕ) (as' bs : List Cell) → all_outs φ v (as' ++ bs) ≡ all_outs φ v as' + all_outs φ (end_of v as') bs
outs-append φ v [] bs = omega arith
outs-append φ v (a ∷ as') bs = omega (arith, outs-append φ (v + size_of a.c) as' bs)

fulls-append : (as' bs : List Cell) → fulls (as' ++ bs) ≡ fulls as' + fulls bs
fulls-append [] bs = omega arith
fulls-append (a ∷ as') bs = omega (arith, fulls-append as' bs)

-- no adder
pub none : (b : Builder) (p q : Valuation → ℕ) → ((φ : Valuation) → IsZero φ → q φ ≡ p φ) → IsNetwork b b p q 0
none b p q h = record { cells = []; gates = sym (append-nil b.gates); last = refl; sum = λ φ z. omega (arith, h φ z); few = omega arith }

-- one after the other
pub then : (b c d : Builder) (p p₁ q₁ p₂ q₂ q : Valuation → ℕ) (i j : ℕ) → IsNetwork b c p₁ q₁ i → IsNetwork c d p₂ q₂ j →
    ((φ : Valuation) → IsZero φ → q φ + p₁ φ + p₂ φ ≡ p φ + q₁ φ + q₂ φ) → IsNetwork b d p q (i + j)
then b c d p p₁ q₁ p₂ q₂ q i j m n h = record {
  cells = m.cells ++ n.cells;
  gates = n.gates ∙ ap₂ (λ gs v. gs ++ adder_gates v n.cells) m.gates m.last ∙ append-assoc b.gates (adder_gates b.last m.cells) (adder_gates (end_of b.last m.cells) n.cells) ∙
      ap (λ gs. b.gates ++ gs) (sym (gates-append b.last m.cells n.cells));
  last = n.last ∙ ap (λ v. end_of v n.cells) m.last ∙ sym (end-append b.last m.cells n.cells);
  sum = λ φ z.
      let out : all_outs φ c.last n.cells ≡ all_outs φ (end_of b.last m.cells) n.cells = ap (λ v. all_outs φ v n.cells) m.last in
      omega (arith, m.sum φ z, n.sum φ z, h φ z, ins-append φ m.cells n.cells, outs-append φ b.last m.cells n.cells, out);
  few = omega (arith, m.few, n.few, fulls-append m.cells n.cells);
}

pub fewer : (b c : Builder) (p q : Valuation → ℕ) (i j : ℕ) → i ≤ j → IsNetwork b c p q i → IsNetwork b c p q j
fewer b c p q i j l m = record { cells = m.cells; gates = m.gates; last = m.last; sum = m.sum; few = omega (arith, m.few) }

pub another : (b c : Builder) (p p' q q' : Valuation → ℕ) (i : ℕ) → ((φ : Valuation) → IsZero φ → p' φ + q φ ≡ p φ + q' φ) → IsNetwork b c p q i → IsNetwork b c p' q' i
another b c p p' q q' i h m = record { cells = m.cells; gates = m.gates; last = m.last; sum = λ φ z. omega (arith, m.sum φ z, h φ z); few = m.few }

-- ---- the ripple-carry adder

half_network : (k : ℕ) (b : Builder) (x y : Lit) → IsNetwork b (half_adder b x y).builder (λ φ. φ k x + φ k y) (λ φ. φ k (half_adder b x y).sum + φ (suc k) (or_false (half_adder b x y).carry)) 0
half_network k b x y = record { cells = record { column = k; x = x; y = y; c = None } ∷ []; gates = refl; last = refl; sum = λ φ z. omega arith; few = omega arith }

full_network : (k : ℕ) (b : Builder) (x y c : Lit) →
    IsNetwork b (full_adder b x y c).builder (λ φ. φ k x + φ k y + φ k c) (λ φ. φ k (full_adder b x y c).sum + φ (suc k) (or_false (full_adder b x y c).carry)) 1
full_network k b x y c = record { cells = record { column = k; x = x; y = y; c = Some c } ∷ []; gates = refl; last = refl; sum = λ φ z. omega arith; few = omega arith }

cell_network : (k : ℕ) (b : Builder) (x : Option Lit) (y : Lit) (c : Option Lit) →
    IsNetwork b (cell b x y c).builder (λ φ. φ k (or_false x) + φ k y + φ k (or_false c)) (λ φ. φ k (cell b x y c).sum + φ (suc k) (or_false (cell b x y c).carry)) 1
cell_network k b (Some x) y (Some c) = full_network k b x y c
cell_network k b (Some x) y None =
    let a = half_adder b x y in
    fewer b a.builder _ _ 0 1 (omega arith)
    (another b a.builder (λ φ. φ k x + φ k y) (λ φ. φ k x + φ k y + φ k constant_false) (λ φ. φ k a.sum + φ (suc k) (or_false a.carry)) (λ φ. φ k a.sum + φ (suc k) (or_false a.carry)) 0 (λ φ z. omega (arith, z k)) (half_network k b x y))
cell_network k b None y (Some c) =
    let a = half_adder b y c in
    fewer b a.builder _ _ 0 1 (omega arith)
    (another b a.builder (λ φ. φ k y + φ k c) (λ φ. φ k constant_false + φ k y + φ k c) (λ φ. φ k a.sum + φ (suc k) (or_false a.carry)) (λ φ. φ k a.sum + φ (suc k) (or_false a.carry)) 0 (λ φ z. omega (arith, z k)) (half_network k b y c))
cell_network k b None y None = fewer b b _ _ 0 1 (omega arith) (none b _ _ (λ φ z. omega (arith, z k, z (suc k))))

word_or-first : (φ : Valuation) (k : ℕ) (xs : List (Option Lit)) → IsZero φ → word_or φ k xs ≡ φ k (or_false (first xs)) + word_or φ (suc k) (drop 1 xs)
word_or-first φ k [] z = omega (arith, z k)
word_or-first φ k (x ∷ xs) z = refl

ripple_network : (k : ℕ) (b : Builder) (xs : List (Option Lit)) (ys : List Lit) (c : Option Lit) → length xs ≤ length ys →
    IsNetwork b (ripple b xs ys c).builder (λ φ. word_or φ k xs + word_at φ k ys + φ k (or_false c)) (λ φ. word_at φ k (ripple b xs ys c).outputs) (length ys)
ripple_network k b [] [] c l = none b _ _ (λ φ z. omega arith)
ripple_network k b (x ∷ xs) [] c l = absurd (omega arith)
ripple_network k b xs (y ∷ ys) c l =
    let a = cell b (first xs) y c in
    let rest = ripple a.builder (drop 1 xs) ys a.carry in
    fewer b rest.builder _ _ (1 + length ys) (length (y ∷ ys)) (omega arith)
    (then b a.builder rest.builder (λ φ. word_or φ k xs + word_at φ k (y ∷ ys) + φ k (or_false c)) (λ φ. φ k (or_false (first xs)) + φ k y + φ k (or_false c)) (λ φ. φ k a.sum + φ (suc k) (or_false a.carry))
    (λ φ. word_or φ (suc k) (drop 1 xs) + word_at φ (suc k) ys + φ (suc k) (or_false a.carry)) (λ φ. word_at φ (suc k) rest.outputs) (λ φ. φ k a.sum + word_at φ (suc k) rest.outputs) 1 (length ys)
    (cell_network k b (first xs) y c) (ripple_network (suc k) a.builder (drop 1 xs) ys a.carry (shorter xs (length ys) l)) (λ φ z. omega (arith, word_or-first φ k xs z)))

-- ---- the array

row_network : (rows : List (List Lit)) (k : ℕ) (b : Builder) (xs : List (Option Lit)) (ys : List Lit) → length xs ≤ length ys →
    IsNetwork b (adder_outputs (row_adder Ripple rows) b xs ys).builder (λ φ. word_or φ k xs + word_at φ k ys) (λ φ. word_at φ k (adder_outputs (row_adder Ripple rows) b xs ys).outputs) (length ys)
row_network [] k b xs ys l = let r = ripple b xs ys None in another b r.builder (λ φ. word_or φ k xs + word_at φ k ys + φ k constant_false) _ (λ φ. word_at φ k r.outputs) _ (length ys) (λ φ z. omega (arith, z k)) (ripple_network k b xs ys None l)
row_network (_ ∷ _) k b xs ys l = let r = ripple b xs ys None in another b r.builder (λ φ. word_or φ k xs + word_at φ k ys + φ k constant_false) _ (λ φ. word_at φ k r.outputs) _ (length ys) (λ φ z. omega (arith, z k)) (ripple_network k b xs ys None l)

word-append : (φ : Valuation) (k : ℕ) (xs ys : List Lit) → word_at φ k (xs ++ ys) ≡ word_at φ k xs + word_at φ (k + length xs) ys
word-append φ k [] ys = let e : word_at φ k ys ≡ word_at φ (k + 0) ys = ap (λ j. word_at φ j ys) (omega arith) in omega (arith, e)
word-append φ k (x ∷ xs) ys = let e : word_at φ (suc k + length xs) ys ≡ word_at φ (k + suc (length xs)) ys = ap (λ j. word_at φ j ys) (omega arith) in omega (arith, word-append φ (suc k) xs ys, e)

word-split : (φ : Valuation) (k j : ℕ) (xs : List Lit) → j ≤ length xs → word_at φ k xs ≡ word_at φ k (take j xs) + word_at φ (k + j) (drop j xs)
word-split φ k zero xs l = let e : word_at φ k xs ≡ word_at φ (k + 0) xs = ap (λ j. word_at φ j xs) (omega arith) in omega (arith, e)
word-split φ k (suc j) [] l = absurd (omega arith)
word-split φ k (suc j) (x ∷ xs) l =
    let e : word_at φ (suc k + j) (drop j xs) ≡ word_at φ (k + suc j) (drop j xs) = ap (λ i. word_at φ i (drop j xs)) (omega arith) in omega (arith, word-split φ (suc k) j xs (omega arith), e)

word_or-some : (φ : Valuation) (k : ℕ) (xs : List Lit) → word_or φ k (map Some xs) ≡ word_at φ k xs
word_or-some φ k [] = refl
word_or-some φ k (x ∷ xs) = ap (λ z. φ k x + z) (word_or-some φ (suc k) xs)

array_rows_network : (n : ℕ) (b : Builder) (row : List Lit) (j : ℕ) (rows : List (List Lit)) → j ≤ length row → length row ≤ j + n → AreLong n rows →
    IsNetwork b (array_rows Ripple b row j rows).builder (λ φ. word_at φ 0 row + rows_at φ j rows) (λ φ. word_at φ 0 (array_rows Ripple b row j rows).outputs) (length rows * n)
array_rows_network n b row j [] low high long = fewer b b (λ φ. word_at φ 0 row + 0) (λ φ. word_at φ 0 row) 0 (0 * n) (omega arith) (none b (λ φ. word_at φ 0 row + 0) (λ φ. word_at φ 0 row) (λ φ z. omega arith))
array_rows_network n b row j (r ∷ rows) low high long =
    let xs = map Some (drop j row) in
    let s = adder_outputs (row_adder Ripple rows) b xs r in
    let next = take j row ++ s.outputs in
    let len = length-next_row Ripple b row j r rows low in
    let count : length xs ≡ length (drop j row) = length-map (drop j row) Some in
    let end = array_rows Ripple s.builder next (suc j) rows in
    fewer b end.builder _ _ (length r + length rows * n) (length (r ∷ rows) * n) (omega (arith, long.0))
    (then b s.builder end.builder (λ φ. word_at φ 0 row + (word_at φ j r + rows_at φ (suc j) rows)) (λ φ. word_or φ j xs + word_at φ j r) (λ φ. word_at φ j s.outputs)
    (λ φ. word_at φ 0 next + rows_at φ (suc j) rows) (λ φ. word_at φ 0 end.outputs) (λ φ. word_at φ 0 end.outputs) (length r) (length rows * n)
    (row_network rows j b xs r (omega (arith, count, length-drop j row, long.0))) (array_rows_network n s.builder next (suc j) rows (omega arith) (omega (arith, long.0)) long.1)
    (λ φ z.
    let e : word_at φ (0 + length (take j row)) s.outputs ≡ word_at φ j s.outputs = ap (λ i. word_at φ i s.outputs) (omega (arith, length-take_to j row low)) in
    let f : word_at φ (0 + j) (drop j row) ≡ word_at φ j (drop j row) = ap (λ i. word_at φ i (drop j row)) (omega arith) in
    omega (arith, word-append φ 0 (take j row) s.outputs, e, f, word-split φ 0 j row low, word_or-some φ j (drop j row))))

array_network : (n : ℕ) (b : Builder) (rows : List (List Lit)) → 0 < n → AreLong n rows →
    IsNetwork b (array Ripple b rows).builder (λ φ. rows_at φ 0 rows) (λ φ. word_at φ 0 (array Ripple b rows).outputs) (length rows * n)
array_network n b [] pos long = fewer b b (λ φ. 0) (λ φ. 0) 0 (0 * n) (omega arith) (none b (λ φ. 0) (λ φ. 0) (λ φ z. refl))
array_network n b (r ∷ []) pos long =
    fewer b b _ _ 0 _ (omega arith) (none b _ _ (λ φ z. omega (arith, word-append φ 0 r (constant_false ∷ []), z (0 + length r))))
array_network n b (r ∷ s ∷ rows) pos long =
    let end = array_rows Ripple b r 1 (s ∷ rows) in
    fewer b end.builder _ _ (length (s ∷ rows) * n) _ (omega arith)
    (another b end.builder (λ φ. word_at φ 0 r + rows_at φ 1 (s ∷ rows)) (λ φ. rows_at φ 0 (r ∷ s ∷ rows)) (λ φ. word_at φ 0 end.outputs) (λ φ. word_at φ 0 end.outputs) (length (s ∷ rows) * n) (λ φ z. refl)
    (array_rows_network n b r 1 (s ∷ rows) (omega (arith, long.0)) (omega (arith, long.0)) long.1))

-- ---- the Dadda tree

ones-append : (φ : Valuation) (k : ℕ) (xs ys : List Lit) → ones_at φ k (xs ++ ys) ≡ ones_at φ k xs + ones_at φ k ys
ones-append φ k [] ys = omega arith
ones-append φ k (x ∷ xs) ys = omega (arith, ones-append φ k xs ys)

columns-put_first : (φ : Valuation) (k : ℕ) (r : List Lit) (cs : List (List Lit)) → columns_at φ k (put_first r cs) ≡ word_at φ k r + columns_at φ k cs
columns-put_first φ k [] cs = omega arith
columns-put_first φ k (x ∷ xs) [] = omega (arith, columns-put_first φ (suc k) xs [])
columns-put_first φ k (x ∷ xs) (c ∷ cs) = omega (arith, columns-put_first φ (suc k) xs cs)

columns-columns_of : (φ : Valuation) (k : ℕ) (rows : List (List Lit)) → columns_at φ k (columns_of rows) ≡ rows_at φ k rows
columns-columns_of φ k [] = refl
columns-columns_of φ k (r ∷ rows) = omega (arith, columns-put_first φ k r ([] ∷ columns_of rows), columns-columns_of φ (suc k) rows)

-- how many literals there are
abbrev pub literals : List (List Lit) → ℕ
literals [] = 0
literals (c ∷ cs) = length c + literals cs

literals-put_first : (r : List Lit) (cs : List (List Lit)) → literals (put_first r cs) ≡ length r + literals cs
literals-put_first [] cs = omega arith
literals-put_first (x ∷ xs) [] = omega (arith, literals-put_first xs [])
literals-put_first (x ∷ xs) (c ∷ cs) = omega (arith, literals-put_first xs cs)

literals-columns_of : (rows : List (List Lit)) → literals (columns_of rows) ≡ literals rows
literals-columns_of [] = refl
literals-columns_of (r ∷ rows) = omega (arith, literals-put_first r ([] ∷ columns_of rows), literals-columns_of rows)

-- a network, and how many literals fewer there are after it than before
abbrev Loses : Builder → Builder → (Valuation → ℕ) → (Valuation → ℕ) → ℕ → ℕ → Type 0
Loses b c p q before after = (i : ℕ) × IsNetwork b c p q i × (i + after ≤ before)

reduced_network : (k e : ℕ) (b : Builder) (column : List Lit) → let r = reduce_column e b column in
    Loses b r.builder (λ φ. ones_at φ k column) (λ φ. ones_at φ k r.column + ones_at φ (suc k) r.carries) (length column) (length r.column + length r.carries)
reduced_network k zero b column = (0, none b _ _ (λ φ z. omega arith), omega arith)
reduced_network k (suc zero) b [] = (0, none b _ _ (λ φ z. omega arith), omega arith)
reduced_network k (suc zero) b (x ∷ []) = (0, none b _ _ (λ φ z. omega arith), omega arith)
reduced_network k (suc zero) b (x ∷ y ∷ rest) =
    let a = half_adder b x y in (
      0,
      another b a.builder (λ φ. φ k x + φ k y) (λ φ. φ k x + (φ k y + ones_at φ k rest)) (λ φ. φ k a.sum + φ (suc k) (or_false a.carry)) (λ φ. ones_at φ k (rest ++ a.sum ∷ []) + (φ (suc k) (or_false a.carry) + 0)) 0
          (λ φ z. omega (arith, ones-append φ k rest (a.sum ∷ []))) (half_network k b x y),
      omega (arith, length-append rest (a.sum ∷ [])),
    )
reduced_network k (suc (suc e)) b [] = (0, none b _ _ (λ φ z. omega arith), omega arith)
reduced_network k (suc (suc e)) b (x ∷ []) = (0, none b _ _ (λ φ z. omega arith), omega arith)
reduced_network k (suc (suc e)) b (x ∷ y ∷ []) = (0, none b _ _ (λ φ z. omega arith), omega arith)
reduced_network k (suc (suc e)) b (x ∷ y ∷ z ∷ rest) =
    let a = full_adder b x y z in
    let r = reduce_column e a.builder (rest ++ a.sum ∷ []) in
    let more = reduced_network k e a.builder (rest ++ a.sum ∷ []) in (
      1 + more.0,
      then b a.builder r.builder (λ φ. φ k x + (φ k y + (φ k z + ones_at φ k rest))) (λ φ. φ k x + φ k y + φ k z) (λ φ. φ k a.sum + φ (suc k) (or_false a.carry))
          (λ φ. ones_at φ k (rest ++ a.sum ∷ [])) (λ φ. ones_at φ k r.column + ones_at φ (suc k) r.carries) (λ φ. ones_at φ k r.column + (φ (suc k) (or_false a.carry) + ones_at φ (suc k) r.carries)) 1 more.0
          (full_network k b x y z) more.1 (λ φ zero. omega (arith, ones-append φ k rest (a.sum ∷ []))),
      omega (arith, more.2, length-append rest (a.sum ∷ [])),
    )

stage_network : (k e d : ℕ) → 2 ≤ d → d ≤ e → (b : Builder) (carries : List Lit) (cs : List (List Lit)) → AreLow e cs → AreFew e d (length cs) carries →
    Loses b (stage d b carries cs).builder (λ φ. columns_at φ k cs + ones_at φ k carries) (λ φ. columns_at φ k (stage d b carries cs).columns) (literals cs + length carries) (literals (stage d b carries cs).columns)
stage_network k e d two below b [] [] low few = (0, none b _ _ (λ φ z. refl), omega arith)
stage_network k e d two below b (l ∷ carries) [] low few = absurd (omega (arith, few.fewer (omega arith)))
stage_network k e d two below b carries (c ∷ cs) low few =
    let r = reduce_column (length (c ++ carries) - d) b (c ++ carries) in
    let is = subst (IsStaged d r.column r.carries) (length-append c carries) (staged d two b (c ++ carries)) in
    let end = stage d r.builder r.carries cs in
    let rest = stage_network (suc k) e d two below r.builder r.carries cs low.2 (few_next e d (length cs) c carries r.column r.carries two below low.0 low.1 few is) in
    let here = reduced_network k (length (c ++ carries) - d) b (c ++ carries) in (
      here.0 + rest.0,
      then b r.builder end.builder (λ φ. ones_at φ k c + columns_at φ (suc k) cs + ones_at φ k carries) (λ φ. ones_at φ k (c ++ carries)) (λ φ. ones_at φ k r.column + ones_at φ (suc k) r.carries)
          (λ φ. columns_at φ (suc k) cs + ones_at φ (suc k) r.carries) (λ φ. columns_at φ (suc k) end.columns) (λ φ. ones_at φ k r.column + columns_at φ (suc k) end.columns) here.0 rest.0 here.1 rest.1
          (λ φ z. omega (arith, ones-append φ k c carries)),
      omega (arith, here.2, rest.2, length-append c carries),
    )

one_network : (n top d : ℕ) (r : Columns) → 2 ≤ d → d ≤ top → AreReduced n top r.columns →
    Loses r.builder (one_stage n d r).builder (λ φ. columns_at φ 0 r.columns) (λ φ. columns_at φ 0 (one_stage n d r).columns) (literals r.columns) (literals (one_stage n d r).columns)
one_network n top d r two le reduced = go (nat_lt d n) refl
  where
    go : (t : Bool) → nat_lt d n ≡ t → let s = cond t (stage d r.builder [] r.columns) r in
        Loses r.builder s.builder (λ φ. columns_at φ 0 r.columns) (λ φ. columns_at φ 0 s.columns) (literals r.columns) (literals s.columns)
    go true t =
        let s = stage d r.builder [] r.columns in
        let below = above n top d reduced.height le (ltb-true d n t) reduced.is in
        let m = stage_network 0 reduced.height d two below r.builder [] r.columns reduced.low (none_few reduced.height d (length r.columns)) in
        (m.0, another r.builder s.builder (λ φ. columns_at φ 0 r.columns + 0) (λ φ. columns_at φ 0 r.columns) (λ φ. columns_at φ 0 s.columns) (λ φ. columns_at φ 0 s.columns) m.0 (λ φ z. omega arith) m.1, omega (arith, m.2))
    go false t = (0, none r.builder _ _ (λ φ z. refl), omega arith)

stages_network : (n top : ℕ) (ds : List ℕ) (end : ℕ) (r : Columns) → Fall top ds end → AreReduced n top r.columns →
    Loses r.builder (stages n ds r).builder (λ φ. columns_at φ 0 r.columns) (λ φ. columns_at φ 0 (stages n ds r).columns) (literals r.columns) (literals (stages n ds r).columns)
stages_network n top [] end r fall reduced = (0, none r.builder _ _ (λ φ z. refl), omega arith)
stages_network n top (d ∷ ds) end r fall reduced =
    let s = one_stage n d r in
    let t = stages n ds s in
    let here = one_network n top d r fall.0 fall.1 reduced in
    let rest = stages_network n d ds end s fall.2 (one_reduces n top d r fall.0 fall.1 reduced) in (
      here.0 + rest.0,
      then r.builder s.builder t.builder (λ φ. columns_at φ 0 r.columns) (λ φ. columns_at φ 0 r.columns) (λ φ. columns_at φ 0 s.columns) (λ φ. columns_at φ 0 s.columns) (λ φ. columns_at φ 0 t.columns)
          (λ φ. columns_at φ 0 t.columns) here.0 rest.0 here.1 rest.1 (λ φ z. omega arith),
      omega (arith, here.2, rest.2),
    )

pair_at : (φ : Valuation) (k : ℕ) (c : List Lit) → IsZero φ → length c ≤ 2 → φ k (or_false (x_of c)) + φ k (y_of c) ≡ ones_at φ k c
pair_at φ k [] z l = omega (arith, z k)
pair_at φ k (x ∷ []) z l = omega (arith, z k)
pair_at φ k (x ∷ y ∷ []) z l = omega arith
pair_at φ k (x ∷ y ∷ w ∷ c) z l = absurd (omega arith)

pairs_at : (φ : Valuation) (k : ℕ) (cs : List (List Lit)) → IsZero φ → ArePairs cs → word_or φ k (map x_of cs) + word_at φ k (map y_of cs) ≡ columns_at φ k cs
pairs_at φ k [] z h = refl
pairs_at φ k (c ∷ cs) z h = omega (arith, pairs_at φ (suc k) cs z h.1, pair_at φ k c z h.0)

one_at : (φ : Valuation) (k : ℕ) (c : List Lit) → IsZero φ → length c ≤ 1 → φ k (y_of c) ≡ ones_at φ k c
one_at φ k [] z l = z k
one_at φ k (x ∷ []) z l = omega arith
one_at φ k (x ∷ y ∷ c) z l = absurd (omega arith)

last_network : (b : Builder) (cs : List (List Lit)) → IsFirstLow cs → ArePairs cs →
    IsNetwork b (last_adder Ripple b cs).builder (λ φ. columns_at φ 0 cs) (λ φ. word_at φ 0 (last_adder Ripple b cs).outputs) (length cs)
last_network b [] low pairs = none b _ _ (λ φ z. refl)
last_network b (c ∷ cs) low pairs =
    let xs = map x_of cs in
    let ys = map y_of cs in
    let r = ripple b xs ys None in
    fewer b r.builder _ _ (length ys) (length (c ∷ cs)) (omega (arith, length-map cs y_of))
    (another b r.builder (λ φ. word_or φ 1 xs + word_at φ 1 ys + φ 1 constant_false) (λ φ. ones_at φ 0 c + columns_at φ 1 cs) (λ φ. word_at φ 1 r.outputs) (λ φ. φ 0 (y_of c) + word_at φ 1 r.outputs) (length ys)
    (λ φ z. omega (arith, pairs_at φ 1 cs z pairs.1, one_at φ 0 c z low, z 1)) (ripple_network 1 b xs ys None (omega (arith, length-map cs x_of, length-map cs y_of))))

literals-long : (n : ℕ) (rows : List (List Lit)) → AreLong n rows → literals rows ≡ length rows * n
literals-long n [] h = omega arith
literals-long n (r ∷ rows) h = omega (arith, literals-long n rows h.1, h.0)

dadda_network : (b : Builder) (rows : List (List Lit)) → 0 < length rows → AreLong (length rows) rows →
    IsNetwork b (dadda Ripple b rows).builder (λ φ. rows_at φ 0 rows) (λ φ. word_at φ 0 (dadda Ripple b rows).outputs) (length rows * length rows + 2 * length rows)
dadda_network b rows pos long =
    let n = length rows in
    let s : Columns = record { builder = b; columns = columns_of rows } in
    let r = stages n heights s in
    let red = reduced n b rows pos long in
    let last = last_network r.builder r.columns red.first (low_pairs red.height r.columns (two_at_most n b rows pos long) red.low) in
    let tree = stages_network n (max n 63) heights 2 s (heights_fall n) (start_reduced n b rows pos long) in
    let end = last_adder Ripple r.builder r.columns in
    fewer b end.builder _ _ (tree.0 + length r.columns) (n * n + 2 * n) (omega (arith, tree.2, literals-columns_of rows, literals-long n rows long, length-stages n heights s, length_columns rows pos long))
    (then b r.builder end.builder (λ φ. rows_at φ 0 rows) (λ φ. columns_at φ 0 (columns_of rows)) (λ φ. columns_at φ 0 r.columns) (λ φ. columns_at φ 0 r.columns) (λ φ. word_at φ 0 end.outputs) (λ φ. word_at φ 0 end.outputs)
    tree.0 (length r.columns) tree.1 last (λ φ z. omega (arith, columns-columns_of φ 0 rows)))
  where
    length_columns : (rows : List (List Lit)) → 0 < length rows → AreLong (length rows) rows → length (columns_of rows) ≤ 2 * length rows
    length_columns [] p l = omega arith
    length_columns (r ∷ rs) p l = omega (arith, length-columns_of (length (r ∷ rs)) p r rs l)

pub outputs_network : (kind : Kind) (b : Builder) (rows : List (List Lit)) → 0 < length rows → AreLong (length rows) rows →
    IsNetwork b (outputs_of kind Ripple b rows).builder (λ φ. rows_at φ 0 rows) (λ φ. word_at φ 0 (outputs_of kind Ripple b rows).outputs) (length rows * length rows + 2 * length rows)
outputs_network Array b rows pos long = fewer b (array Ripple b rows).builder _ _ (length rows * length rows) _ (omega arith) (array_network (length rows) b rows pos long)
outputs_network Dadda b rows pos long = dadda_network b rows pos long
