-- The lines of batches, one after the other, and their sum.
use Rattle.std.specs.Prelude.{◌≡◌, ◌≢◌, ℕ, suc, ◌+◌, ◌*◌, ◌%◌, ◌<◌, ◌≤◌, cond, true, List, [], ◌∷◌, ◌++◌, map, length, IsSome, slice_index_or}
use Rattle.std.specs.declared.option.Option.TheVariants.{None, Some}
use Rattle.std.specs.List.{All, AllByRecursion, AllPairs}
use Rattle.std.proofs.Common.{refl, sym, ap, ap₂, subst, ◌∙◌, arith, ne_eqb}
use Rattle.std.proofs.Math.Nat.{zero-mod}
use Rattle.std.proofs.lemmas.List.Elements.{All-from_recursion, All-push, recursion_from_All}
use Rattle.std.proofs.lemmas.List.Quantifiers.{all_pairs_push}
use Rattle.std.proofs.lemmas.List.Kept.{AllPairs-cons}
use Rattle.graph_core.specs.Graph.Assignments.{Assignment}
use Rattle.graph_core.specs.Graph.Operands.{Sides}
use Rattle.graph_core.specs.Graph.Extended.{Extended}
use Rattle.algebra_core.specs.AlgebraLines.{LiveLine, Part, IsCombined, IsLive, axioms, combined, line_of, value_of, value_or_zero, introduce}
use Rattle.graph_core.specs.Graph.Extended as graphs
use Rattle.algebra_core.specs.AlgebraLines as algebra
use Rattle.algebra_core.specs.Polynomials.{value}
use Rattle.ripple_graft.specs.Extension.{IsExtension}
use Rattle.poly_terms.specs.Tables.{Table, Sum, monomials_in, value_in}
use Rattle.pac_writer.specs.Writing.{ArePartsOver, IsOver, Made, PutsLine, AreLawfulSoFar, combination_of, written_ledger}
use Rattle.frontier_core.specs.Sets.{has}
use Rattle.frontier_core.specs.Pending.{AreSpare, IsNotZero}
use Rattle.frontier_core.proofs.Gathered.{combined_push}
use Rattle.frontier_core.proofs.Everywhere.{all_from_map, all_has}
use Rattle.frontier_core.proofs.LineLemmas.{new_line_is_live}
use Rattle.column_reducer.specs.declared.gathered.Batch.{Batch}
use Rattle.column_reducer.specs.Gathering.{AreGateParts, AreBatchesWritten, IsBatch}
use Rattle.column_reducer.specs.Reducing.{AreLinesOver}
use Rattle.column_reducer.proofs.Fixed.{all_left, all_right}
use Rattle.column_reducer.proofs.Taken.{part_pushed, sum_more}
use Rattle.poly_text.specs.Lines.{parts_in}

-- ---- where the lines of parts are as they were

combined_moves : (m : ℕ) (old new : List LiveLine) (parts : List Part) (σ : Assignment) → AllByRecursion (λ p. line_of new p.id ≡ line_of old p.id) parts → combined m new parts σ ≡ combined m old parts σ
combined_moves m old new [] σ h = refl
combined_moves m old new (p ∷ parts) σ h =
    ap₂ (λ a b. a * value m p.factor σ + b) (ap (λ o. value_or_zero o σ) h.0) (combined_moves m old new parts σ h.1)

spare_moves : (m : ℕ) (old new : List LiveLine) (parts : List Part) → All (λ p. line_of new p.id ≡ line_of old p.id) parts → AreSpare m old parts → AreSpare m new parts
spare_moves m old new parts same h = record {
  live = λ k d low. subst IsSome (sym (same k d low)) (h.live k d low);
  once = h.once;
  nonzero = h.nonzero;
}

gates_low : (e : Extended) (v : ℕ) → IsExtension e → has (map (λ x. x.v) e.gates) v ≡ true → v ≤ e.max
gates_low e v made h = all_has (λ w. w ≤ e.max) (map (λ x. x.v) e.gates) v (all_from_map (λ w. w ≤ e.max) (λ x. x.v) e.gates (recursion_from_All (λ x. x.v ≤ e.max) e.gates made.gates_in_range)) h

part_lines : (e : Extended) (t : Table) (live : List LiveLine) (parts : List (ℕ × Sum)) → IsExtension e → ((id : ℕ) → id ≤ e.max → line_of live id ≡ line_of (axioms e).live id) → AreGateParts e t parts →
    All (λ p. line_of live p.id ≡ line_of (axioms e).live p.id) (parts_in t parts)
part_lines e t live parts made same h =
    All-from_recursion (λ p. line_of live p.id ≡ line_of (axioms e).live p.id) (parts_in t parts)
    (all_from_map (λ p. line_of live p.id ≡ line_of (axioms e).live p.id) (λ p. record { id = p.0; factor = monomials_in t p.1 }) parts
    (recursion_from_All (λ p. line_of live p.0 ≡ line_of (axioms e).live p.0) parts (λ k d low. same (slice_index_or parts k d).0 (gates_low e (slice_index_or parts k d).0 made (h.gates k d low)))))

-- ---- one batch

last_batch : (e : Extended) (s : Sides) (t : Table) (total : Sum) (gs : List Batch) (g : Batch) (ones : List (ℕ × Sum)) (l : Made) → AreBatchesWritten e s t total (gs ++ g ∷ []) ones l → IsBatch e t g
last_batch e s t total gs g ones l h = all_right (IsBatch e t) gs (g ∷ []) h.batches 0 g (omega arith)

pub batch_over : (e : Extended) (s : Sides) (t : Table) (total : Sum) (gs : List Batch) (g : Batch) (ones : List (ℕ × Sum)) (l : Made) → AreBatchesWritten e s t total (gs ++ g ∷ []) ones l →
    ArePartsOver l.extended.max l.table g.parts.items g.poly
batch_over e s t total gs g ones l h =
    let batch = last_batch e s t total gs g ones l h in
    subst (λ x. ArePartsOver x.max l.table g.parts.items g.poly) (sym h.graph.extended)
    (subst (λ u. ArePartsOver e.max u g.parts.items g.poly) (sym h.graph.table) (record { some = batch.some; factors = batch.parts.of; stated = batch.of }))

pub batch_spare : (e : Extended) (s : Sides) (t : Table) (total : Sum) (gs : List Batch) (g : Batch) (ones : List (ℕ × Sum)) (l : Made) → AreBatchesWritten e s t total (gs ++ g ∷ []) ones l →
    AreSpare (graphs.modulus l.extended) (written_ledger l).live (parts_in l.table g.parts.items)
batch_spare e s t total gs g ones l h =
    let batch = last_batch e s t total gs g ones l h in
    subst (λ x. AreSpare (graphs.modulus x) (written_ledger l).live (parts_in l.table g.parts.items)) (sym h.graph.extended)
    (subst (λ u. AreSpare (graphs.modulus e) (written_ledger l).live (parts_in u g.parts.items)) (sym h.graph.table)
    (spare_moves (graphs.modulus e) (axioms e).live (written_ledger l).live (parts_in t g.parts.items) (part_lines e t (written_ledger l).live g.parts.items h.made h.axioms batch.parts) batch.spare))

pub batch_equal : (e : Extended) (s : Sides) (t : Table) (total : Sum) (gs : List Batch) (g : Batch) (ones : List (ℕ × Sum)) (l : Made) → AreBatchesWritten e s t total (gs ++ g ∷ []) ones l →
    IsCombined (graphs.modulus l.extended) (written_ledger l).live (parts_in l.table g.parts.items) (monomials_in l.table g.poly)
batch_equal e s t total gs g ones l h =
    let m = graphs.modulus e in
    let batch = last_batch e s t total gs g ones l h in
    subst (λ x. IsCombined (graphs.modulus x) (written_ledger l).live (parts_in l.table g.parts.items) (monomials_in l.table g.poly)) (sym h.graph.extended)
    (subst (λ u. IsCombined m (written_ledger l).live (parts_in u g.parts.items) (monomials_in u g.poly)) (sym h.graph.table)
    (λ σ. ap (λ k. value k (monomials_in t g.poly) σ) (sym h.same_modulus) ∙ batch.states σ ∙
    ap (λ z. z % m) (sym (combined_moves m (axioms e).live (written_ledger l).live (parts_in t g.parts.items) σ
    (recursion_from_All (λ p. line_of (written_ledger l).live p.id ≡ line_of (axioms e).live p.id) (parts_in t g.parts.items) (part_lines e t (written_ledger l).live g.parts.items h.made h.axioms batch.parts))))))

graph_on : (e : Extended) (s : Sides) (t : Table) (line : algebra.Line) (id : ℕ) (l new : Made) → PutsLine line id l new → AreLinesOver e s t l → AreLinesOver e s t new
graph_on e s t line id l new puts h = record {
  extended = puts.extended ∙ h.extended;
  sides = puts.sides ∙ h.sides;
  table = puts.table ∙ h.table;
  unclosed = puts.closing;
}

pub batch_written : (e : Extended) (s : Sides) (t : Table) (total : Sum) (gs : List Batch) (g : Batch) (ones more : List (ℕ × Sum)) (id : ℕ) (l new : Made) → id ≡ l.last + 1 →
    PutsLine (combination_of l.table id g.parts.items g.poly) id l new → more ≡ ones ++ (id, g.weight) ∷ [] → AreBatchesWritten e s t total (gs ++ g ∷ []) ones l → AreBatchesWritten e s t total gs more new
batch_written e s t total gs g ones more id l new is puts pushed h =
    let m = graphs.modulus e in
    let old = (written_ledger l).live in
    let live = (written_ledger new).live in
    let batch = last_batch e s t total gs g ones l h in
    let p = monomials_in t g.poly in
    let ledger : written_ledger new ≡ introduce m (written_ledger l) id p = puts.ledger ∙ ap₂ (λ x u. introduce (graphs.modulus x) (written_ledger l) id (monomials_in u g.poly)) h.graph.extended h.graph.table in
    let law = new_line_is_live m (written_ledger l) id p in
    let others : (i : ℕ) → i ≢ id → line_of live i ≡ line_of old i = λ i ne. ap (λ k. line_of k.live i) ledger ∙ law.2 i ne in
    let here : (σ : Assignment) → value_of live id σ ≡ value m p σ = λ σ. ap (λ k. value_of k.live id σ) ledger ∙ law.1 σ in
    let low = h.low in
    let apart : All (λ q. q.0 ≢ id) ones = λ k d within. let ids = h.ids k d within in λ same. absurd (omega (arith, ids.1)) in
    let greatest = puts.last in
    subst (λ os. AreBatchesWritten e s t total gs os new) (sym pushed)
    (record {
      made = h.made;
      same_modulus = h.same_modulus;
      graph = graph_on e s t (combination_of l.table id g.parts.items g.poly) id l new puts h.graph;
      axioms = λ i small. others i (λ same. absurd (omega arith)) ∙ h.axioms i small;
      batches = all_left (IsBatch e t) gs (g ∷ []) h.batches;
      sum = λ σ.
          let before = combined m old (parts_in t ones) σ in
          let lines : combined m live (parts_in t (ones ++ (id, g.weight) ∷ [])) σ ≡ before + value_of live id σ * value m (monomials_in t g.weight) σ =
          ap (λ ps. combined m live ps σ) (part_pushed t ones (id, g.weight)) ∙
          combined_push m live (parts_in t ones) (record { id = id; factor = monomials_in t g.weight }) σ ∙
          ap (λ n. n + value_of live id σ * value m (monomials_in t g.weight) σ)
          (combined_moves m old live (parts_in t ones) σ
          (all_from_map (λ q. line_of live q.id ≡ line_of old q.id) (λ q. record { id = q.0; factor = monomials_in t q.1 }) ones
          (recursion_from_All (λ q. line_of live q.0 ≡ line_of old q.0) ones (λ k d within. others (slice_index_or ones k d).0 (apart k d within))))) in
          let new_term : value_of live id σ * value m (monomials_in t g.weight) σ ≡ value_in t g.poly σ * value_in t g.weight σ =
          ap₂ (λ a b. a * b) (here σ ∙ ap (λ k. value k p σ) (sym h.same_modulus)) (ap (λ k. value k (monomials_in t g.weight) σ) (sym h.same_modulus)) in
          ap (λ z. z % m) (omega (arith, lines, new_term, sum_more t gs g σ)) ∙ h.sum σ;
      over = All-push (λ q. IsOver e.max t q.1) ones (id, g.weight) h.over batch.of_weight;
      nonzero = All-push (λ q. IsNotZero m (monomials_in t q.1)) ones (id, g.weight) h.nonzero batch.nonzero;
      live = All-push (λ q. IsLive live q.0) ones (id, g.weight) (λ k d within. subst IsSome (sym (others (slice_index_or ones k d).0 (apart k d within))) (h.live k d within))
          (subst (λ k. IsLive k.live id) (sym ledger) law.0);
      once = all_pairs_push (λ a b. a.0 ≢ b.0) ones (id, g.weight) h.once apart;
      ids = All-push (λ q. (e.max < q.0) × (q.0 ≤ new.last)) ones (id, g.weight) (λ k d within. let ids = h.ids k d within in (ids.0, omega (arith, ids.1))) (omega arith, omega arith);
      low = omega arith;
    })

-- ---- the last line

once_parts : (t : Table) (xs : List (ℕ × Sum)) → AllPairs (λ p q. p.0 ≢ q.0) xs → AllPairs (λ p q. p.id ≢ q.id) (parts_in t xs)
once_parts t [] h = λ i j d lt within. absurd (omega arith)
once_parts t (x ∷ xs) h =
    AllPairs-cons (λ (q : Part) (r : Part). q.id ≢ r.id) (record { id = x.0; factor = monomials_in t x.1 }) (parts_in t xs)
    (All-from_recursion (λ q. x.0 ≢ q.id) (parts_in t xs)
    (all_from_map (λ q. x.0 ≢ q.id) (λ p. record { id = p.0; factor = monomials_in t p.1 }) xs (recursion_from_All (λ p. x.0 ≢ p.0) xs (λ k d low. h 0 (suc k) d (omega arith) (omega arith)))))
    (once_parts t xs (λ i j d lt within. h (suc i) (suc j) d (omega arith) (omega arith)))

-- an empty list
pub no_items : {X : Type 0} (xs : List X) → length xs ≡ 0 → xs ≡ []
no_items [] h = refl
no_items (x ∷ xs) h = absurd (omega arith)

pub sum_is_equal : (s : Sides) (total : Sum) (ones : List (ℕ × Sum)) (l : Made) → AreBatchesWritten l.extended s l.table total [] ones l →
    AreSpare (graphs.modulus l.extended) (written_ledger l).live (parts_in l.table ones) × IsCombined (graphs.modulus l.extended) (written_ledger l).live (parts_in l.table ones) (monomials_in l.table total)
sum_is_equal s total ones l h =
    let m = graphs.modulus l.extended in
    let t = l.table in (
      record {
        live = All-from_recursion (λ p. IsLive (written_ledger l).live p.id) (parts_in t ones)
            (all_from_map (λ p. IsLive (written_ledger l).live p.id) (λ p. record { id = p.0; factor = monomials_in t p.1 }) ones (recursion_from_All (λ p. IsLive (written_ledger l).live p.0) ones h.live));
        once = once_parts t ones h.once;
        nonzero = All-from_recursion (λ p. IsNotZero m p.factor) (parts_in t ones)
            (all_from_map (λ p. IsNotZero m p.factor) (λ p. record { id = p.0; factor = monomials_in t p.1 }) ones (recursion_from_All (λ p. IsNotZero m (monomials_in t p.1)) ones h.nonzero));
      },
      λ σ. ap (λ k. value k (monomials_in t total) σ) (sym h.same_modulus) ∙ sym (h.sum σ) ∙ ap (λ z. z % m) (omega arith),
    )

-- no line has the id 0
no_line : (live : List LiveLine) → AllByRecursion (λ x. 0 < x.id) live → line_of live 0 ≡ None
no_line [] h = refl
no_line (x ∷ live) h =
    let some = h.0 in
    let other : x.id ≢ 0 = λ same. absurd (omega arith) in
    ap (λ b. cond b (Some x) (line_of live 0)) (ne_eqb x.id 0 other) ∙ no_line live h.1

pub none_is_zero : (s : Sides) (total : Sum) (l : Made) (σ : Assignment) → AreLawfulSoFar l → AreBatchesWritten l.extended s l.table total [] [] l → value_of (written_ledger l).live 0 σ ≡ value_in l.table total σ
none_is_zero s total l σ lawful h =
    ap (λ o. value_or_zero o σ) (no_line (written_ledger l).live (recursion_from_All (λ x. 0 < x.id) (written_ledger l).live (λ k d low. (lawful.ids k d low).0))) ∙
    sym (zero-mod (graphs.modulus l.extended)) ∙ ap (λ z. z % graphs.modulus l.extended) (omega arith) ∙ h.sum σ

pub sum_has : (s : Sides) (total : Sum) (ones : List (ℕ × Sum)) (id : ℕ) (l new : Made) (σ : Assignment) → PutsLine (combination_of l.table id ones total) id l new → AreBatchesWritten l.extended s l.table total [] ones l →
    value_of (written_ledger new).live id σ ≡ value_in l.table total σ
sum_has s total ones id l new σ puts h =
    ap (λ k. value_of k.live id σ) puts.ledger ∙ (new_line_is_live (graphs.modulus l.extended) (written_ledger l) id (monomials_in l.table total)).1 σ ∙
    ap (λ m. value m (monomials_in l.table total) σ) (sym h.same_modulus)
