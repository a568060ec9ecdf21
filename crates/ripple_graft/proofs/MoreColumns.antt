-- Replaced columns, with the graph's outputs and readable new ones, keep an extended graph without faults.
use Rattle.std.specs.Prelude.{◌≡◌, ◌≢◌, ℕ, suc, zero, ◌+◌, ◌<◌, ◌≤◌, List, [], ◌∷◌, ◌++◌, map, length, drop, slice_get}
use Rattle.std.specs.declared.option.Option.TheVariants.{Some}
use Rattle.std.specs.List.{All, AllByRecursion}
use Rattle.std.proofs.Common.{refl, sym, ap, subst, ◌∙◌, arith}
use Rattle.std.proofs.lemmas.List.{map-append}
use Rattle.std.proofs.lemmas.List.Elements.{All-from_recursion, recursion_from_All, All-append, All-map}
use Rattle.graph_core.specs.declared.literal.Lit.{Lit}
use Rattle.graph_core.specs.Graph.Extended.{Column, Extended}
use Rattle.graph_core.proofs.OfGraphs.CallerLemmas.{Apart, all_weaker, apart_from_pairs}
use Rattle.graph_core.proofs.OfAiger.CallerLemmas.{Counts, counts_apart}
use Rattle.ripple_graft.specs.Extension.{IsExtension, IsReadable}
use Rattle.ripple_graft.specs.Blocks.{columns}
use Rattle.ripple_graft.proofs.MoreGates.{apart_join, pairs_from_apart}

slice_get-drop : {X : Type 0} → (n : ℕ) (xs : List X) (i : ℕ) → slice_get (drop n xs) i ≡ slice_get xs (n + i)
slice_get-drop zero xs i = ap (slice_get xs) (omega arith)
slice_get-drop (suc n) [] i = refl
slice_get-drop (suc n) (x ∷ xs) i =
    let up : (suc n + i) ≡ suc (n + i) = omega arith in
    slice_get-drop n xs i ∙ sym (ap (slice_get (x ∷ xs)) up)

-- ---- columns one after the other

columns_old : (all : List Lit) (k : ℕ) (old new : List Lit) → ((i : ℕ) → slice_get old i ≡ slice_get all (k + i)) → AllByRecursion (λ c. slice_get all c.number ≡ Some c.old) (columns k old new)
columns_old all k [] new h = tt
columns_old all k (o ∷ old) [] h = tt
columns_old all k (o ∷ old) (r ∷ new) h = (
  ap (slice_get all) (omega arith) ∙ sym (h 0),
  columns_old all (suc k) old new (λ i. h (suc i) ∙ ap (slice_get all) (omega arith)),
)

columns_count : (k : ℕ) (old new : List Lit) → Counts k (map (λ c. c.number) (columns k old new))
columns_count k [] new = tt
columns_count k (o ∷ old) [] = tt
columns_count k (o ∷ old) (r ∷ new) = (refl, columns_count (suc k) old new)

-- the numbers of columns are from k on, and as many as there are new outputs at most
columns_within : (k : ℕ) (old new : List Lit) → AllByRecursion (λ c. (k ≤ c.number) × (c.number < k + length new)) (columns k old new)
columns_within k [] new = tt
columns_within k (o ∷ old) [] = tt
columns_within k (o ∷ old) (r ∷ new) = (
  (omega arith, omega arith),
  all_weaker (λ c. (suc k ≤ c.number) × (c.number < suc k + length new)) (λ c. (k ≤ c.number) × (c.number < k + suc (length new))) (columns (suc k) old new)
      (λ c h. let a = h.0 in let b = h.1 in (omega arith, omega arith)) (columns_within (suc k) old new),
)

columns_new : (P : Lit → Type 0) (k : ℕ) (old new : List Lit) → AllByRecursion P new → AllByRecursion (λ c. P c.new) (columns k old new)
columns_new P k [] new h = tt
columns_new P k (o ∷ old) [] h = tt
columns_new P k (o ∷ old) (r ∷ new) h = (h.0, columns_new P (suc k) old new h.1)

-- ---- more of them

-- so many columns from k on, none of which is replaced
abbrev pub AreFree : Extended → ℕ → ℕ → Type 0
AreFree e k n = AllByRecursion (λ c. (d : ℕ) → k ≤ d → d < k + n → c.number ≢ d) e.replaced

abbrev pub more_columns : Extended → ℕ → List Lit → Extended
more_columns e k new = record { graph = e.graph; max = e.max; gates = e.gates; replaced = e.replaced ++ columns k (drop k e.graph.outputs) new }

module _ (e : Extended) (k : ℕ) (new : List Lit) (made : IsExtension e) (readable : AllByRecursion (IsReadable e) new) (free : AreFree e k (length new)) where
  abbrev added : List Column
  added = columns k (drop k e.graph.outputs) new

  added_old : All (λ c. slice_get e.graph.outputs c.number ≡ Some c.old) added
  added_old = All-from_recursion (λ c. slice_get e.graph.outputs c.number ≡ Some c.old) added (columns_old e.graph.outputs k (drop k e.graph.outputs) new (λ i. slice_get-drop k e.graph.outputs i))

  added_new : All (λ c. IsReadable e c.new) added
  added_new = All-from_recursion (λ c. IsReadable e c.new) added (columns_new (IsReadable e) k (drop k e.graph.outputs) new readable)

  numbers_apart : (cs : List Column) → AllByRecursion (λ c. (d : ℕ) → k ≤ d → d < k + length new → c.number ≢ d) cs → AllByRecursion (λ x. AllByRecursion (λ y. x ≢ y) (map (λ c. c.number) added)) (map (λ c. c.number) cs)
  numbers_apart [] h = tt
  numbers_apart (c ∷ cs) h = (
    recursion_from_All (λ y. c.number ≢ y) (map (λ d. d.number) added) (All-map (λ y. c.number ≢ y) (λ d. d.number) added (All-from_recursion (λ d. c.number ≢ d.number) added
        (all_weaker (λ d. (k ≤ d.number) × (d.number < k + length new)) (λ d. c.number ≢ d.number) added (λ d w. h.0 d.number w.0 w.1)
        (columns_within k (drop k e.graph.outputs) new)))),
    numbers_apart cs h.1,
  )

  pub columns_extend : IsExtension (more_columns e k new)
  columns_extend = record {
    graph = made.graph;
    room = made.room;
    defined_once = record { inputs = made.defined_once.inputs; gates = made.defined_once.gates; once = made.defined_once.once };
    acyclic = made.acyclic;
    kept = made.kept;
    replaced = All-append (λ c. slice_get e.graph.outputs c.number ≡ Some c.old) e.replaced added made.replaced added_old;
    new_readable = All-append (λ c. IsReadable e c.new) e.replaced added made.new_readable added_new;
    operands = made.operands;
    gates_in_range = made.gates_in_range;
    numbers_once =
        pairs_from_apart (map (λ c. c.number) (e.replaced ++ added))
        (subst Apart (sym (map-append (λ c. c.number) e.replaced added))
        (apart_join (map (λ c. c.number) e.replaced) (map (λ c. c.number) added) (apart_from_pairs (map (λ c. c.number) e.replaced) made.numbers_once)
        (apart_from_pairs (map (λ c. c.number) added) (counts_apart k (map (λ c. c.number) added) (columns_count k (drop k e.graph.outputs) new)))
        (numbers_apart e.replaced free)));
  }
