-- What is gathered stays so as the table grows.
use Rattle.std.specs.Prelude.{◌≡◌, ℕ, ◌+◌, ◌*◌, ◌%◌, ◌^◌, ◌<◌, ◌≤◌, false, List, [], ◌∷◌, get_or, slice_index_or}
use Rattle.std.specs.List.{All, AllByRecursion}
use Rattle.std.proofs.Common.{refl, sym, ap, ap₂, subst, ◌∙◌}
use Rattle.std.proofs.Math.Path.{fun_ext}
use Rattle.std.proofs.lemmas.List.Elements.{recursion_from_All}
use Rattle.graph_core.specs.Graph.Assignments.{Assignment}
use Rattle.graph_core.specs.Graph.Operands.{Sides}
use Rattle.graph_core.specs.Graph.Extended.{Extended}
use Rattle.algebra_core.specs.AlgebraLines.{axioms, combined}
use Rattle.graph_core.specs.Graph.Extended as graphs
use Rattle.poly_terms.specs.Tables.{Table, Sum, Extends, IsOf, monomials_in, value_in}
use Rattle.poly_terms.specs.Monomials.{AreIn, Grows}
use Rattle.poly_terms.specs.Laws.{monomials_stay, stands_in_grown, stays, value_stays}
use Rattle.pac_writer.specs.Writing.{IsOver}
use Rattle.frontier_core.specs.Plan.{Taken}
use Rattle.frontier_core.specs.Pending.{AreSpare, IsNotZero, IsPending}
use Rattle.column_reducer.specs.declared.gathered.Gathered.{Gathered}
use Rattle.column_reducer.specs.declared.gathered.Batch.{Batch}
use Rattle.column_reducer.specs.Gathering.{AreColumns, AreGateParts, AreSumBatches, IsFixedAbove, IsGathered, IsBatch, batches_sum, scaled_parts, times}
use Rattle.poly_text.specs.Lines.{parts_in}

-- a polynomial keeps its function
pub function_stays : (t0 t1 : Table) (p : Sum) → Extends t0 t1 → IsOf t0 p → value_in t1 p ≡ value_in t0 p
function_stays t0 t1 p grown of = fun_ext (λ σ. value_stays t0 t1 p σ grown of)

part_stays : (max : ℕ) (t0 t1 : Table) (parts : List (ℕ × Sum)) → Extends t0 t1 → AllByRecursion (λ p. IsOver max t0 p.1) parts → parts_in t1 parts ≡ parts_in t0 parts
part_stays max t0 t1 [] grown h = refl
part_stays max t0 t1 (p ∷ parts) grown h =
    ap₂ (λ q qs. record { id = p.0; factor = q } ∷ qs) (monomials_stay t0 t1 p.1 grown h.0.0) (part_stays max t0 t1 parts grown h.1)

pub parts_stay : (e : Extended) (t0 t1 : Table) (parts : List (ℕ × Sum)) → Extends t0 t1 → AreGateParts e t0 parts → parts_in t1 parts ≡ parts_in t0 parts
parts_stay e t0 t1 parts grown h = part_stays e.max t0 t1 parts grown (recursion_from_All (λ p. IsOver e.max t0 p.1) parts h.of)

pub over_grown : (max : ℕ) (t0 t1 : Table) (p : Sum) → Extends t0 t1 → IsOver max t0 p → IsOver max t1 p
over_grown max t0 t1 p grown h =
    (stays t0 t1 p grown h.0, subst (All (λ term. All (λ v. v ≤ max) term.variables)) (sym (monomials_stay t0 t1 p grown h.0)) h.1)

pub parts_grown : (e : Extended) (t0 t1 : Table) (parts : List (ℕ × Sum)) → Extends t0 t1 → AreGateParts e t0 parts → AreGateParts e t1 parts
parts_grown e t0 t1 parts grown h = record {
  of = λ k d low. over_grown e.max t0 t1 (slice_index_or parts k d).1 grown (h.of k d low);
  gates = h.gates;
}

batch_grown : (e : Extended) (t0 t1 : Table) (g : Batch) → Extends t0 t1 → IsBatch e t0 g → IsBatch e t1 g
batch_grown e t0 t1 g grown h =
    let told = parts_stay e t0 t1 g.parts.items grown h.parts in
    record {
      some = h.some;
      parts = parts_grown e t0 t1 g.parts.items grown h.parts;
      of = over_grown e.max t0 t1 g.poly grown h.of;
      of_weight = over_grown e.max t0 t1 g.weight grown h.of_weight;
      spare = subst (AreSpare (graphs.modulus e) (axioms e).live) (sym told) h.spare;
      states = λ σ. value_stays t0 t1 g.poly σ grown h.of.0 ∙ h.states σ ∙ ap (λ ps. combined (graphs.modulus e) (axioms e).live ps σ % graphs.modulus e) (sym told);
      nonzero = subst (IsNotZero (graphs.modulus e)) (sym (monomials_stay t0 t1 g.weight grown h.of_weight.0)) h.nonzero;
    }

sum_grown : (e : Extended) (t0 t1 : Table) (gs : List Batch) (σ : Assignment) → Extends t0 t1 → AllByRecursion (IsBatch e t0) gs → batches_sum t1 gs σ ≡ batches_sum t0 gs σ
sum_grown e t0 t1 [] σ grown h = refl
sum_grown e t0 t1 (g ∷ gs) σ grown h = ap₂ ◌+◌ (ap₂ ◌*◌ (value_stays t0 t1 g.poly σ grown h.0.of.0) (value_stays t0 t1 g.weight σ grown h.0.of_weight.0)) (sum_grown e t0 t1 gs σ grown h.1)

columns_stay : (e : Extended) (t0 t1 : Table) (columns : List (ℕ × Sum)) → Extends t0 t1 → AreColumns e t0 columns → parts_in t1 columns ≡ parts_in t0 columns
columns_stay e t0 t1 columns grown h = part_stays e.max t0 t1 columns grown (recursion_from_All (λ p. IsOver e.max t0 p.1) columns h.over)

columns_grown : (e : Extended) (t0 t1 : Table) (columns : List (ℕ × Sum)) → Extends t0 t1 → AreColumns e t0 columns → AreColumns e t1 columns
columns_grown e t0 t1 columns grown h = record {
  over = λ k d low. over_grown e.max t0 t1 (slice_index_or columns k d).1 grown (h.over k d low);
  nonzero = λ k d low. subst (IsNotZero (graphs.modulus e)) (sym (monomials_stay t0 t1 (slice_index_or columns k d).1 grown (h.over k d low).0)) (h.nonzero k d low);
  live = h.live;
  once = h.once;
  ids = h.ids;
}

pub batches_grown : (e : Extended) (t0 t1 : Table) (gs : List Batch) (columns : List (ℕ × Sum)) (total : Sum) → Extends t0 t1 → AreSumBatches e t0 gs columns total → AreSumBatches e t1 gs columns total
batches_grown e t0 t1 gs columns total grown h = record {
  batches = λ k d low. batch_grown e t0 t1 (slice_index_or gs k d) grown (h.batches k d low);
  of_columns = columns_grown e t0 t1 columns grown h.of_columns;
  of = stays t0 t1 total grown h.of;
  fixed = subst (IsFixedAbove e.max) (sym (function_stays t0 t1 total grown h.of)) h.fixed;
  sum = λ σ.
      ap₂ (λ a ps. (a + combined (graphs.modulus e) (axioms e).live ps σ) % graphs.modulus e) (sum_grown e t0 t1 gs σ grown (recursion_from_All (IsBatch e t0) gs h.batches))
      (columns_stay e t0 t1 columns grown h.of_columns) ∙ h.sum σ ∙ sym (value_stays t0 t1 total σ grown h.of);
}

times_in : (t0 t1 : Table) (w : ℕ) (p : Sum) → AllByRecursion (λ e. get_or t1.monomials e.0 [] ≡ get_or t0.monomials e.0 []) p → monomials_in t1 (times w p) ≡ monomials_in t0 (times w p)
unfolding monomials_in
times_in t0 t1 w [] h = refl
times_in t0 t1 w (e ∷ p) h = ap₂ (λ vs ms. record { negative = false; coefficient = w * e.1; variables = vs } ∷ ms) h.0 (times_in t0 t1 w p h.1)

stands : (old new : List (List ℕ)) (p : Sum) → Grows old new → AreIn old p → AllByRecursion (λ e. get_or new e.0 [] ≡ get_or old e.0 []) p
stands old new [] g h = tt
stands old new (e ∷ p) g h = (stands_in_grown old new e.0 g h.0, stands old new p g h.1)

variables_stay : (t0 t1 : Table) (p : Sum) → Extends t0 t1 → IsOf t0 p → AllByRecursion (λ e. get_or t1.monomials e.0 [] ≡ get_or t0.monomials e.0 []) p
unfolding Extends IsOf
variables_stay t0 t1 p grown of = stands t0.monomials t1.monomials p grown.1 of.numbers

whole_parts : (max : ℕ) (t0 t1 : Table) (k : ℕ) (parts : List (ℕ × Sum)) → Extends t0 t1 → AllByRecursion (λ p. IsOver max t0 p.1) parts → scaled_parts t1 k parts ≡ scaled_parts t0 k parts
whole_parts max t0 t1 k [] grown h = refl
whole_parts max t0 t1 k (p ∷ parts) grown h =
    ap₂ (λ q qs. record { id = p.0; factor = q } ∷ qs) (times_in t0 t1 (2 ^ k) p.1 (variables_stay t0 t1 p.1 grown h.0.0)) (whole_parts max t0 t1 k parts grown h.1)

pub whole_stays : (e : Extended) (t0 t1 : Table) (k : ℕ) (parts : List (ℕ × Sum)) → Extends t0 t1 → AreGateParts e t0 parts → scaled_parts t1 k parts ≡ scaled_parts t0 k parts
whole_stays e t0 t1 k parts grown h = whole_parts e.max t0 t1 k parts grown (recursion_from_All (λ p. IsOver e.max t0 p.1) parts h.of)

pub exponent_stays : (t0 t1 : Table) → Extends t0 t1 → t1.exponent ≡ t0.exponent
unfolding Extends
exponent_stays t0 t1 grown = grown.0

pub gathered_grown : (e : Extended) (s : Sides) (t0 t1 : Table) (f : Taken) (rest : Assignment → ℕ) (g : Gathered) → Extends t0 t1 → IsGathered e s t0 f rest g → IsGathered e s t1 f rest g
gathered_grown e s t0 t1 f rest g grown h =
    let m = graphs.modulus e in
    let live = (axioms e).live in
    let told = parts_stay e t0 t1 g.parts.items grown h.parts in
    record {
      batches = batches_grown e t0 t1 g.batches.items g.columns.items g.total grown h.batches;
      added = h.added;
      parts = parts_grown e t0 t1 g.parts.items grown h.parts;
      fixed = subst (λ ps. IsFixedAbove e.max (combined m live ps)) (sym told) h.fixed;
      low = subst (λ k. g.power < k) (sym (exponent_stays t0 t1 grown)) h.low;
      pending = subst (λ start. IsPending e s live start f rest (scaled_parts t1 g.power g.parts.items)) (sym (function_stays t0 t1 g.total grown h.batches.of))
          (subst (IsPending e s live (value_in t0 g.total) f rest) (sym (whole_stays e t0 t1 g.power g.parts.items grown h.parts)) h.pending);
      of = stays t0 t1 g.stated grown h.of;
      sum = λ σ. value_stays t0 t1 g.stated σ grown h.of ∙ h.sum σ ∙ ap (λ ps. combined m live ps σ % m) (sym told);
    }
