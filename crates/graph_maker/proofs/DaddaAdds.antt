-- The Dadda tree of the maker keeps the sum of its columns, and leaves at most two literals in each.
use Rattle.std.specs.Prelude.{◌≡◌, ℕ, zero, suc, ◌+◌, ◌*◌, ◌-◌, ◌<◌, ◌≤◌, max, Bool, true, false, cond, List, [], ◌∷◌, ◌++◌, map, length, nat_lt, ⊤}
use Rattle.std.specs.declared.option.Option.TheVariants.{None, Some}
use Rattle.std.specs.List.{AllByRecursion}
use Rattle.std.proofs.Common.{refl, ap, subst, ◌∙◌, arith, ⊎_elim, length-append}
use Rattle.std.proofs.lemmas.Bool.{ltb-true, ltb-false, cases_lt}
use Rattle.std.proofs.lemmas.List.{length-map}
use Rattle.graph_core.specs.declared.literal.Lit.{Lit}
use Rattle.graph_maker.specs.declared.adder.Adder.{Adder}
use Rattle.graph_core.specs.Graph.Assignments.{Assignment, bit, literal, word}
use Rattle.graph_maker.specs.Builder.{Builder, or_false}
use Rattle.graph_maker.specs.Cells.{half_adder, full_adder}
use Rattle.graph_maker.specs.DaddaTree.{Columns, put_first, columns_of, reduce_column, stage, stages, heights, x_of, y_of, last_adder, dadda}
use Rattle.graph_maker.proofs.CellFacts.{Holds, cell_adds, word_or}
use Rattle.graph_maker.proofs.AddersAdd.{adder_adds, length-adder}
use Rattle.graph_maker.proofs.ArrayAdds.{rows_sum, AreLong}

-- ---- sums

-- how many literals are true
abbrev pub ones : Assignment → List Lit → ℕ
ones σ [] = 0
ones σ (l ∷ ls) = bit (literal σ l) + ones σ ls

abbrev pub columns_sum : Assignment → List (List Lit) → ℕ
columns_sum σ [] = 0
columns_sum σ (c ∷ cs) = ones σ c + 2 * columns_sum σ cs

ones-append : (σ : Assignment) (xs ys : List Lit) → ones σ (xs ++ ys) ≡ ones σ xs + ones σ ys
ones-append σ [] ys = omega arith
ones-append σ (x ∷ xs) ys = omega (arith, ones-append σ xs ys)

sum-put_first : (σ : Assignment) (r : List Lit) (cs : List (List Lit)) → columns_sum σ (put_first r cs) ≡ word σ r + columns_sum σ cs
sum-put_first σ [] cs = omega arith
sum-put_first σ (x ∷ xs) [] = omega (arith, sum-put_first σ xs [])
sum-put_first σ (x ∷ xs) (c ∷ cs) = omega (arith, sum-put_first σ xs cs)

sum-columns_of : (σ : Assignment) (rows : List (List Lit)) → columns_sum σ (columns_of rows) ≡ rows_sum σ rows
sum-columns_of σ [] = refl
sum-columns_of σ (r ∷ rows) = omega (arith, sum-put_first σ r ([] ∷ columns_of rows), sum-columns_of σ rows)

reduced_adds : (σ : Assignment) (e : ℕ) (b : Builder) (column : List Lit) → Holds σ (reduce_column e b column).builder →
    Holds σ b × (ones σ (reduce_column e b column).column + 2 * ones σ (reduce_column e b column).carries ≡ ones σ column)
reduced_adds σ zero b column h = (h, omega arith)
reduced_adds σ (suc zero) b [] h = (h, omega arith)
reduced_adds σ (suc zero) b (x ∷ []) h = (h, omega arith)
reduced_adds σ (suc zero) b (x ∷ y ∷ rest) h =
    let a = half_adder b x y in
    let here = cell_adds σ b (Some x) y None h in
    (here.0, omega (arith, here.1, ones-append σ rest (a.sum ∷ [])))
reduced_adds σ (suc (suc e)) b [] h = (h, omega arith)
reduced_adds σ (suc (suc e)) b (x ∷ []) h = (h, omega arith)
reduced_adds σ (suc (suc e)) b (x ∷ y ∷ []) h = (h, omega arith)
reduced_adds σ (suc (suc e)) b (x ∷ y ∷ z ∷ rest) h =
    let a = full_adder b x y z in
    let more = reduced_adds σ e a.builder (rest ++ a.sum ∷ []) h in
    let here = cell_adds σ b (Some x) y (Some z) more.0 in
    (here.0, omega (arith, more.1, here.1, ones-append σ rest (a.sum ∷ [])))

-- ---- heights

length-reduced : (e : ℕ) (b : Builder) (column : List Lit) → (0 < e → e + 2 ≤ length column) →
    (length (reduce_column e b column).column + e ≡ length column) × (2 * length (reduce_column e b column).carries ≤ e + 1)
length-reduced zero b column l = (omega arith, omega arith)
length-reduced (suc zero) b [] l = absurd (omega arith)
length-reduced (suc zero) b (x ∷ []) l = absurd (omega arith)
length-reduced (suc zero) b (x ∷ y ∷ rest) l = (omega (arith, length-append rest ((half_adder b x y).sum ∷ [])), omega arith)
length-reduced (suc (suc e)) b [] l = absurd (omega (arith, l (omega arith)))
length-reduced (suc (suc e)) b (x ∷ []) l = absurd (omega (arith, l (omega arith)))
length-reduced (suc (suc e)) b (x ∷ y ∷ []) l = absurd (omega (arith, l (omega arith)))
length-reduced (suc (suc e)) b (x ∷ y ∷ z ∷ rest) l =
    let a = full_adder b x y z in
    let sum = length-append rest (a.sum ∷ []) in
    let more = length-reduced e a.builder (rest ++ a.sum ∷ []) (λ p. omega (arith, sum, l (omega arith))) in
    (omega (arith, more.0, sum), omega (arith, more.1))

-- Each column has at most d literals, and one that is among the last d - 1 has no more than as many as there are from it on.
abbrev pub AreLow : ℕ → List (List Lit) → Type 0
AreLow d [] = ⊤
AreLow d (c ∷ cs) = (length c ≤ d) × (length cs + 3 ≤ d → length c ≤ length cs + 1) × AreLow d cs

-- carries into the first of so many columns are as few as a stage from heights e down to d makes them
pub record AreFew (e d n : ℕ) (carries : List Lit) : Type 0 where
  pub few : length carries ≤ e - d
  pub fewer : n + 2 ≤ e → length carries ≤ n + 2 - d

length-stage : (d : ℕ) (b : Builder) (carries : List Lit) (cs : List (List Lit)) → length (stage d b carries cs).columns ≡ length cs
length-stage d b carries [] = refl
length-stage d b carries (c ∷ cs) = let r = reduce_column (length (c ++ carries) - d) b (c ++ carries) in ap suc (length-stage d r.builder r.carries cs)

-- what a stage does to a column
pub record IsStaged (d : ℕ) (column carries : List Lit) (before : ℕ) : Type 0 where
  pub height : length column + (before - d) ≡ before
  pub half : 2 * length carries ≤ before - d + 1

pub staged : (d : ℕ) → 2 ≤ d → (b : Builder) (c : List Lit) → let r = reduce_column (length c - d) b c in IsStaged d r.column r.carries (length c)
staged d two b c = let l = length-reduced (length c - d) b c (λ p. omega arith) in record { height = l.0; half = l.1 }

pub few_next : (e d n : ℕ) (c carries column next : List Lit) → 2 ≤ d → d ≤ e → length c ≤ e → (n + 3 ≤ e → length c ≤ n + 1) → AreFew e d (suc n) carries →
    IsStaged d column next (length c + length carries) → AreFew e d n next
few_next e d n c carries column next two below high low few is = record {
  few = omega (arith, few.few, is.half);
  fewer = λ w. ⊎_elim (λ short. omega (arith, few.few, is.half)) (λ long. omega (arith, few.fewer (omega arith), low (omega arith), is.half)) (cases_lt e (n + 3));
}

stage_low : (e d : ℕ) → 2 ≤ d → d ≤ e → (b : Builder) (carries : List Lit) (cs : List (List Lit)) → AreLow e cs → AreFew e d (length cs) carries → AreLow d (stage d b carries cs).columns
stage_low e d two below b carries [] low few = tt
stage_low e d two below b carries (c ∷ cs) low few =
    let r = reduce_column (length (c ++ carries) - d) b (c ++ carries) in
    let len = length-append c carries in
    let is = staged d two b (c ++ carries) in
    let is' : IsStaged d r.column r.carries (length c + length carries) = subst (IsStaged d r.column r.carries) len is in (
      omega (arith, is.height),
      (λ w. omega (arith, is.height, len, few.fewer (omega (arith, length-stage d r.builder r.carries cs)), low.1 (omega (arith, length-stage d r.builder r.carries cs)), length-stage d r.builder r.carries cs)),
      stage_low e d two below r.builder r.carries cs low.2 (few_next e d (length cs) c carries r.column r.carries two below low.0 low.1 few is'),
    )

stage_adds : (σ : Assignment) (e d : ℕ) → 2 ≤ d → d ≤ e → (b : Builder) (carries : List Lit) (cs : List (List Lit)) → AreLow e cs → AreFew e d (length cs) carries →
    Holds σ (stage d b carries cs).builder → Holds σ b × (columns_sum σ (stage d b carries cs).columns ≡ columns_sum σ cs + ones σ carries)
stage_adds σ e d two below b [] [] low few h = (h, refl)
stage_adds σ e d two below b (l ∷ carries) [] low few h = absurd (omega (arith, few.fewer (omega arith)))
stage_adds σ e d two below b carries (c ∷ cs) low few h =
    let r = reduce_column (length (c ++ carries) - d) b (c ++ carries) in
    let is = subst (IsStaged d r.column r.carries) (length-append c carries) (staged d two b (c ++ carries)) in
    let rest = stage_adds σ e d two below r.builder r.carries cs low.2 (few_next e d (length cs) c carries r.column r.carries two below low.0 low.1 few is) h in
    let here = reduced_adds σ (length (c ++ carries) - d) b (c ++ carries) rest.0 in
    (here.0, omega (arith, rest.1, here.1, ones-append σ c carries))

-- the first column has at most one literal
abbrev pub IsFirstLow : List (List Lit) → Type 0
IsFirstLow [] = ⊤
IsFirstLow (c ∷ cs) = length c ≤ 1

stage_first : (d : ℕ) → 2 ≤ d → (b : Builder) (cs : List (List Lit)) → IsFirstLow cs → IsFirstLow (stage d b [] cs).columns
stage_first d two b [] low = tt
stage_first d two b (c ∷ cs) low = omega (arith, (staged d two b (c ++ [])).height, length-append c [])

-- ---- the stages

-- heights from one down to another, none above the one before
abbrev pub Fall : ℕ → List ℕ → ℕ → Type 0
Fall top [] end = top ≡ end
Fall top (d ∷ ds) end = (2 ≤ d) × (d ≤ top) × Fall d ds end

-- the greatest height of columns that were reduced to a height below n, or not at all
pub record IsHeight (n top e : ℕ) : Type 0 where
  pub wide : n ≤ top → e ≡ n
  pub reduced : top < n → e ≡ top

-- what the stages keep and reach
pub record AreReduced (n : ℕ) (end : ℕ) (columns : List (List Lit)) : Type 0 where
  pub height : ℕ
  pub is : IsHeight n end height
  pub low : AreLow height columns
  pub first : IsFirstLow columns

pub none_few : (e d n : ℕ) → AreFew e d n []
none_few e d n = record { few = omega arith; fewer = λ w. omega arith }

-- the stage of one height, if it is below n
abbrev pub one_stage : ℕ → ℕ → Columns → Columns
one_stage n d r = cond (nat_lt d n) (stage d r.builder [] r.columns) r

pub above : (n top d e : ℕ) → d ≤ top → d < n → IsHeight n top e → d ≤ e
above n top d e le lt is = ⊎_elim (λ low. omega (arith, is.reduced low)) (λ high. omega (arith, is.wide high)) (cases_lt top n)

pub one_reduces : (n top d : ℕ) (r : Columns) → 2 ≤ d → d ≤ top → AreReduced n top r.columns → AreReduced n d (one_stage n d r).columns
one_reduces n top d r two le reduced = go (nat_lt d n) refl
  where
    go : (b : Bool) → nat_lt d n ≡ b → AreReduced n d (cond b (stage d r.builder [] r.columns) r).columns
    go true t =
        let lt = ltb-true d n t in record {
          height = d;
          is = record { wide = λ w. absurd (omega arith); reduced = λ w. refl };
          low = stage_low reduced.height d two (above n top d reduced.height le lt reduced.is) r.builder [] r.columns reduced.low (none_few reduced.height d (length r.columns));
          first = stage_first d two r.builder r.columns reduced.first;
        }
    go false t =
        let ge = ltb-false d n t in record {
          height = reduced.height;
          is = record { wide = λ w. reduced.is.wide (omega arith); reduced = λ w. absurd (omega arith) };
          low = reduced.low;
          first = reduced.first;
        }

one_adds : (σ : Assignment) (n top d : ℕ) (r : Columns) → 2 ≤ d → d ≤ top → AreReduced n top r.columns → Holds σ (one_stage n d r).builder →
    Holds σ r.builder × (columns_sum σ (one_stage n d r).columns ≡ columns_sum σ r.columns)
one_adds σ n top d r two le reduced = go (nat_lt d n) refl
  where
    go : (b : Bool) → nat_lt d n ≡ b → Holds σ (cond b (stage d r.builder [] r.columns) r).builder →
        Holds σ r.builder × (columns_sum σ (cond b (stage d r.builder [] r.columns) r).columns ≡ columns_sum σ r.columns)
    go true t h =
        let below = above n top d reduced.height le (ltb-true d n t) reduced.is in
        let sum = stage_adds σ reduced.height d two below r.builder [] r.columns reduced.low (none_few reduced.height d (length r.columns)) h in
        (sum.0, omega (arith, sum.1))
    go false t h = (h, refl)

pub length-one : (n d : ℕ) (r : Columns) → length (one_stage n d r).columns ≡ length r.columns
length-one n d r = go (nat_lt d n)
  where
    go : (b : Bool) → length (cond b (stage d r.builder [] r.columns) r).columns ≡ length r.columns
    go true = length-stage d r.builder [] r.columns
    go false = refl

pub stages_reduce : (n top : ℕ) (ds : List ℕ) (end : ℕ) (r : Columns) → Fall top ds end → AreReduced n top r.columns → AreReduced n end (stages n ds r).columns
stages_reduce n top [] end r fall reduced = subst (λ k. AreReduced n k r.columns) fall reduced
stages_reduce n top (d ∷ ds) end r fall reduced = stages_reduce n d ds end (one_stage n d r) fall.2 (one_reduces n top d r fall.0 fall.1 reduced)

stages_add : (σ : Assignment) (n top : ℕ) (ds : List ℕ) (end : ℕ) (r : Columns) → Fall top ds end → AreReduced n top r.columns → Holds σ (stages n ds r).builder →
    Holds σ r.builder × (columns_sum σ (stages n ds r).columns ≡ columns_sum σ r.columns)
stages_add σ n top [] end r fall reduced h = (h, refl)
stages_add σ n top (d ∷ ds) end r fall reduced h =
    let rest = stages_add σ n d ds end (one_stage n d r) fall.2 (one_reduces n top d r fall.0 fall.1 reduced) h in
    let here = one_adds σ n top d r fall.0 fall.1 reduced rest.0 in
    (here.0, rest.1 ∙ here.1)

pub length-stages : (n : ℕ) (ds : List ℕ) (r : Columns) → length (stages n ds r).columns ≡ length r.columns
length-stages n [] r = refl
length-stages n (d ∷ ds) r = length-stages n ds (one_stage n d r) ∙ length-one n d r

-- ---- the columns of the products

-- each column has at most as many literals as there are rows, and no more than there are columns from it on
abbrev IsTriangle : ℕ → List (List Lit) → Type 0
IsTriangle m [] = ⊤
IsTriangle m (c ∷ cs) = (length c ≤ m) × (length c ≤ length cs + 1) × IsTriangle m cs

triangle_more : (m : ℕ) (cs : List (List Lit)) → IsTriangle m cs → IsTriangle (suc m) cs
triangle_more m [] h = tt
triangle_more m (c ∷ cs) h = (omega (arith, h.0), h.1, triangle_more m cs h.2)

length-put_first : (r : List Lit) (cs : List (List Lit)) → length (put_first r cs) ≡ max (length r) (length cs)
length-put_first [] cs = omega arith
length-put_first (x ∷ xs) [] = omega (arith, length-put_first xs [])
length-put_first (x ∷ xs) (c ∷ cs) = omega (arith, length-put_first xs cs)

triangle-put_first : (m : ℕ) (r : List Lit) (cs : List (List Lit)) → IsTriangle m cs → (0 < m → length r + m ≤ length cs) → IsTriangle (suc m) (put_first r cs)
triangle-put_first m [] cs h l = triangle_more m cs h
triangle-put_first m (x ∷ xs) [] h l =
    let none : (0 < m → length xs + m ≤ 0) = λ p. omega (arith, l p) in
    (omega arith, omega arith, triangle-put_first m xs [] tt none)
triangle-put_first m (x ∷ xs) (c ∷ cs) h l =
    let rest : (0 < m → length xs + m ≤ length cs) = λ p. omega (arith, l p) in (
      omega (arith, h.0),
      ⊎_elim (λ some. omega (arith, h.0, rest some, length-put_first xs cs)) (λ none. omega (arith, h.0)) (cases_lt 0 m),
      triangle-put_first m xs cs h.2 rest,
    )

pub length-columns_of : (n : ℕ) → 0 < n → (r : List Lit) (rows : List (List Lit)) → AreLong n (r ∷ rows) → length (columns_of (r ∷ rows)) ≡ n + length rows
length-columns_of n pos r [] long = omega (arith, length-put_first r ([] ∷ []), long.0)
length-columns_of n pos r (s ∷ rows) long =
    omega (arith, length-put_first r ([] ∷ columns_of (s ∷ rows)), length-columns_of n pos s rows long.1, long.0)

triangle-columns_of : (n : ℕ) → 0 < n → (rows : List (List Lit)) → AreLong n rows → IsTriangle (length rows) (columns_of rows)
triangle-columns_of n pos [] long = tt
triangle-columns_of n pos (r ∷ []) long = triangle-put_first 0 r ([] ∷ []) (omega arith, omega arith, tt) (λ p. absurd (omega arith))
triangle-columns_of n pos (r ∷ s ∷ rows) long =
    triangle-put_first (length (s ∷ rows)) r ([] ∷ columns_of (s ∷ rows)) (omega arith, omega arith, triangle-columns_of n pos (s ∷ rows) long.1)
    (λ p. omega (arith, length-columns_of n pos s rows long.1, long.0))

triangle_low : (m : ℕ) (cs : List (List Lit)) → IsTriangle m cs → AreLow m cs
triangle_low m [] h = tt
triangle_low m (c ∷ cs) h = (h.0, (λ w. h.1), triangle_low m cs h.2)

first-columns_of : (rows : List (List Lit)) → IsFirstLow (columns_of rows)
first-columns_of [] = tt
first-columns_of ([] ∷ rows) = omega arith
first-columns_of ((x ∷ xs) ∷ rows) = omega arith

-- ---- the last adder

abbrev pub ArePairs : List (List Lit) → Type 0
ArePairs cs = AllByRecursion (λ c. length c ≤ 2) cs

pub low_pairs : (e : ℕ) (cs : List (List Lit)) → e ≤ 2 → AreLow e cs → ArePairs cs
low_pairs e [] two h = tt
low_pairs e (c ∷ cs) two h = (omega (arith, h.0), low_pairs e cs two h.2)

pair_adds : (σ : Assignment) (c : List Lit) → length c ≤ 2 → bit (literal σ (or_false (x_of c))) + bit (literal σ (y_of c)) ≡ ones σ c
pair_adds σ [] l = refl
pair_adds σ (x ∷ []) l = omega arith
pair_adds σ (x ∷ y ∷ []) l = omega arith
pair_adds σ (x ∷ y ∷ z ∷ c) l = absurd (omega arith)

pairs_add : (σ : Assignment) (cs : List (List Lit)) → ArePairs cs → word_or σ (map x_of cs) + word σ (map y_of cs) ≡ columns_sum σ cs
pairs_add σ [] h = refl
pairs_add σ (c ∷ cs) h = omega (arith, pairs_add σ cs h.1, pair_adds σ c h.0)

one_is : (σ : Assignment) (c : List Lit) → length c ≤ 1 → bit (literal σ (y_of c)) ≡ ones σ c
one_is σ [] l = refl
one_is σ (x ∷ []) l = omega arith
one_is σ (x ∷ y ∷ c) l = absurd (omega arith)

last_adds : (σ : Assignment) (adder : Adder) (b : Builder) (cs : List (List Lit)) → IsFirstLow cs → ArePairs cs → Holds σ (last_adder adder b cs).builder →
    Holds σ b × (word σ (last_adder adder b cs).outputs ≡ columns_sum σ cs)
last_adds σ adder b [] low pairs h = (h, refl)
last_adds σ adder b (c ∷ cs) low pairs h =
    let sum = adder_adds adder σ b (map x_of cs) (map y_of cs) (omega (arith, length-map cs x_of, length-map cs y_of)) h in
    (sum.0, omega (arith, sum.1, one_is σ c low, pairs_add σ cs pairs.1))

length-last : (adder : Adder) (b : Builder) (c : List Lit) (cs : List (List Lit)) → length (last_adder adder b (c ∷ cs)).outputs ≡ length cs + 2
length-last adder b c cs = omega (arith, length-adder adder b (map x_of cs) (map y_of cs), length-map cs y_of)

-- ---- the whole tree

pub heights_fall : (n : ℕ) → Fall (max n 63) heights 2
heights_fall n = (omega arith, omega arith, (omega arith, omega arith, (omega arith, omega arith, (omega arith, omega arith, (omega arith, omega arith, (omega arith, omega arith, (omega arith, omega arith, (omega arith, omega arith, (omega arith, omega arith, (omega arith, omega arith, refl))))))))))

module _ (m : ℕ) (b : Builder) (rows : List (List Lit)) (pos : 0 < m) (long : AreLong m rows) where
  abbrev pub n : ℕ
  n = length rows

  abbrev pub start : Columns
  start = record { builder = b; columns = columns_of rows }

  pub start_reduced : AreReduced n (max n 63) (columns_of rows)
  start_reduced = record {
    height = n;
    is = record { wide = λ w. refl; reduced = λ w. omega arith };
    low = triangle_low n (columns_of rows) (triangle-columns_of m pos rows long);
    first = first-columns_of rows;
  }

  pub reduced : AreReduced n 2 (stages n heights start).columns
  reduced = stages_reduce n (max n 63) heights 2 start (heights_fall n) start_reduced

  pub two_at_most : reduced.height ≤ 2
  two_at_most = ⊎_elim (λ lt. omega (arith, reduced.is.reduced lt)) (λ ge. omega (arith, reduced.is.wide ge)) (cases_lt 2 n)

  pub dadda_adds : (adder : Adder) (σ : Assignment) → Holds σ (dadda adder b rows).builder → Holds σ b × (word σ (dadda adder b rows).outputs ≡ rows_sum σ rows)
  dadda_adds adder σ h =
      let r = stages n heights start in
      let last = last_adds σ adder r.builder r.columns reduced.first (low_pairs reduced.height r.columns two_at_most reduced.low) h in
      let tree = stages_add σ n (max n 63) heights 2 start (heights_fall n) start_reduced last.0 in
      (tree.0, last.1 ∙ tree.1 ∙ sum-columns_of σ rows)

  pub length-dadda : 0 < n → (adder : Adder) → length (dadda adder b rows).outputs ≡ m + n
  length-dadda some adder = go rows some long (stages n heights start).columns (length-stages n heights start)
    where
      go : (rs : List (List Lit)) → 0 < length rs → AreLong m rs → (cs : List (List Lit)) → length cs ≡ length (columns_of rs) →
          length (last_adder adder (stages n heights start).builder cs).outputs ≡ m + length rs
      go [] p l cs e = absurd (omega arith)
      go (r ∷ rs) p l [] e = absurd (omega (arith, length-columns_of m pos r rs l, pos))
      go (r ∷ rs) p l (c ∷ cs) e =
          omega (arith, length-columns_of m pos r rs l, length-last adder (stages n heights start).builder c cs)
