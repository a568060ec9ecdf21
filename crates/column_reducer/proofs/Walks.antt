-- What the walk over a plan's steps keeps.
use Rattle.std.specs.Prelude.{◌≡◌, ℕ, ◌+◌, ◌%◌, ◌<◌, ◌≤◌, false, ◌∷◌, length, suc, get_or, slice_get}
use Rattle.std.specs.declared.option.Option.{Option}
use Rattle.std.specs.declared.option.Option.TheVariants.{Some}
use Rattle.std.specs.List.{Contains}
use Rattle.std.proofs.Common.{refl, sym, ap, ap₂, subst, ◌∙◌, arith}
use Rattle.std.proofs.Math.Nat.{mod-mod}
use Rattle.std.proofs.Math.Path.{fun_ext}
use Rattle.std.proofs.lemmas.Option.{slice_get-get_or}
use Rattle.graph_core.specs.declared.literal.Lit.{Lit}
use Rattle.graph_core.specs.declared.gate.Gate.{Gate}
use Rattle.graph_core.specs.Graph.Assignments.{Assignment}
use Rattle.graph_core.specs.Graph.Operands.{Sides, ReadInputs}
use Rattle.graph_core.specs.Graph.Extended.{Extended}
use Rattle.graph_core.specs.Graph.Extended as graphs
use Rattle.graph_core.proofs.OfGraphs.CallerLemmas.{sum_same}
use Rattle.ripple_graft.specs.Extension.{IsExtension, new_outputs}
use Rattle.poly_terms.specs.Indexed.{IndexedSum, IsIndexed}
use Rattle.algebra_core.specs.Polynomials.{sum_of}
use Rattle.poly_terms.specs.Tables.{Table, Sum, Extends, IsOf, modulus_in, monomials_in, value_in}
use Rattle.poly_terms.specs.Laws.{indexed_stays, modulus_stays, stays, value_stays}
use Rattle.frontier_core.specs.Sets.{has}
use Rattle.frontier_core.specs.Columns.{column_value}
use Rattle.frontier_core.specs.Frontier.{set_to}
use Rattle.frontier_core.specs.Substitution.{gate_value, quotient, substituted}
use Rattle.frontier_core.specs.declared.step.Step.TheVariants.{Add, Eliminate}
use Rattle.frontier_core.specs.Plan.{Taken, IsFrontierOf, nothing, step}
use Rattle.frontier_core.proofs.PlainOrders.{length-outputs_from}
use Rattle.frontier_core.proofs.FrontierSteps.{adding_adds_column, first_frontier}
use Rattle.frontier_core.proofs.Substituting.{eliminating_substitutes}
use Rattle.column_reducer.specs.declared.gate_part.GatePart.{GatePart}
use Rattle.column_reducer.specs.declared.gathered.Gathered.{Gathered}
use Rattle.column_reducer.specs.declared.walk.Walk.{Walk}
use Rattle.column_reducer.specs.Gathering.{HasColumn, HasEnded, HasTakenGate, IsAdded, IsEliminated, IsEndedBatch, IsFixedAbove, IsGathered, IsLeft, IsRest, IsWalked, KeepsGathered, batch_count}
use Rattle.column_reducer.proofs.Fixed.{column_fixed, gap_fixed, partial_fixed, same_fixed, substituted_fixed}
use Rattle.column_reducer.proofs.Grown.{function_stays, gathered_grown}
use Rattle.column_reducer.proofs.Taken.{none_known}

abbrev pub walk_of : IndexedSum → Gathered → Walk
walk_of rest gathered = record { rest = rest; gathered = gathered }

-- ---- the frontier's function

pub rest_starts : (e : Extended) (s : Sides) (t : Table) (rest : IndexedSum) → modulus_in t ≡ graphs.modulus e → IsOf t rest.sum → IsIndexed t rest → ((σ : Assignment) → value_in t rest.sum σ ≡ 0) →
    IsRest e s t nothing rest
rest_starts e s t rest same of indexed none = record {
  same_modulus = same;
  of = of;
  indexed = indexed;
  value = λ σ. none σ ∙ sym ((first_frontier e).1 s σ);
  fixed = λ v b σ above. none (set_to v b σ) ∙ sym (none σ);
  known = λ v b σ above. none_known e s (set_to v b σ) ∙ sym (none_known e s σ);
}

-- in a table that has grown
rest_grown : (e : Extended) (s : Sides) (t0 t : Table) (f : Taken) (rest : IndexedSum) → Extends t0 t → IsRest e s t0 f rest → IsRest e s t f rest
rest_grown e s t0 t f rest grown h = record {
  same_modulus = modulus_stays t0 t grown ∙ h.same_modulus;
  of = stays t0 t rest.sum grown h.of;
  indexed = indexed_stays t0 t rest grown h.of h.indexed;
  value = λ σ. value_stays t0 t rest.sum σ grown h.of ∙ h.value σ;
  fixed = subst (IsFixedAbove e.max) (sym (function_stays t0 t rest.sum grown h.of)) h.fixed;
  known = h.known;
}

-- in another table
pub rest_renewed : (e : Extended) (s : Sides) (t0 t : Table) (f : Taken) (old rest : IndexedSum) → modulus_in t ≡ modulus_in t0 → IsOf t rest.sum → IsIndexed t rest →
    ((σ : Assignment) → value_in t rest.sum σ ≡ value_in t0 old.sum σ) → IsRest e s t0 f old → IsRest e s t f rest
rest_renewed e s t0 t f old rest same of indexed is h = record {
  same_modulus = same ∙ h.same_modulus;
  of = of;
  indexed = indexed;
  value = λ σ. is σ ∙ h.value σ;
  fixed = same_fixed e.max (value_in t rest.sum) (value_in t0 old.sum) is h.fixed;
  known = h.known;
}

-- what is added to 0
pub added_to_none : (t : Table) (before p after : Sum) (σ : Assignment) → value_in t before σ ≡ 0 → value_in t after σ ≡ (value_in t before σ + value_in t p σ) % modulus_in t →
    value_in t after σ ≡ value_in t p σ
added_to_none t before p after σ none is =
    let m = modulus_in t in
    is ∙ ap (λ z. (z + value_in t p σ) % m) none ∙ ap (λ z. z % m) (omega arith) ∙ mod-mod (sum_of m (monomials_in t p) σ) m

pub column_added : (e : Extended) (s : Sides) (t0 t : Table) (k : ℕ) (p column : Sum) (rest : IndexedSum) → modulus_in t0 ≡ graphs.modulus e → Extends t0 t → IsOf t0 p → IsOf t rest.sum → IsIndexed t rest →
    ((o : Lit) → slice_get (new_outputs e) k ≡ Some o → (σ : Assignment) → value_in t column σ ≡ column_value e s k o σ % modulus_in t0) →
    ((σ : Assignment) → value_in t rest.sum σ ≡ (value_in t p σ + value_in t column σ) % modulus_in t) → IsAdded e s t0 t k p rest
column_added e s t0 t k p column rest same grown of_p of indexed column_is rest_is = record {
  of = of;
  indexed = indexed;
  value = λ r out σ.
      let m = graphs.modulus e in
      let c = column_value e s k r σ in
      rest_is σ ∙ ap₂ (λ a b. (a + b) % modulus_in t) (value_stays t0 t p σ grown of_p) (column_is r out σ ∙ ap (λ n. c % n) same) ∙ ap (λ n. (value_in t0 p σ + c % m) % n) (modulus_stays t0 t grown ∙ same) ∙
      sum_same m (value_in t0 p σ) (value_in t0 p σ) (c % m) c refl (mod-mod c m);
}

pub rest_added : (e : Extended) (s : Sides) (t0 t : Table) (f : Taken) (k : ℕ) (p rest : IndexedSum) → IsExtension e → ReadInputs e.graph s → k < length e.graph.outputs → Extends t0 t → IsAdded e s t0 t k p.sum rest →
    IsFrontierOf e f → has f.added k ≡ false → IsRest e s t0 f p → IsRest e s t (step f (Add k)) rest
rest_added e s t0 t f k p rest made read low grown by frontier new h =
    let m = graphs.modulus e in
    let none : Lit = record { 0 = 0 } in
    let r : Lit = get_or (new_outputs e) k none in
    let out : slice_get (new_outputs e) k ≡ Some r = slice_get-get_or (new_outputs e) k none (subst (λ n. k < n) (sym (length-outputs_from e.replaced 0 e.graph.outputs)) low) in
    record {
      same_modulus = modulus_stays t0 t grown ∙ h.same_modulus;
      of = by.of;
      indexed = by.indexed;
      value = λ σ. by.value r out σ ∙ ap (λ x. (x + column_value e s k r σ) % m) (h.value σ) ∙ sym (adding_adds_column e s f.added f.eliminated k r σ made read frontier out new);
      fixed = same_fixed e.max (value_in t rest.sum) (λ σ. (value_in t0 p.sum σ + column_value e s k r σ) % m) (by.value r out)
          (λ v b σ above. ap₂ (λ x y. (x + y) % m) (h.fixed v b σ above) (column_fixed e s k r made read out v b σ above));
      known = partial_fixed e s (k ∷ f.added) made read;
    }

pub rest_eliminated : (e : Extended) (s : Sides) (t0 t : Table) (f : Taken) (x : Gate) (p rest : IndexedSum) (part : Option GatePart) → IsExtension e → Contains e.gates x → Extends t0 t → IsEliminated t0 t x p.sum rest part →
    IsFrontierOf e f → has f.eliminated x.v ≡ false → IsRest e s t0 f p → IsRest e s t (step f (Eliminate x.v)) rest
rest_eliminated e s t0 t f x p rest part made is grown by frontier new h = record {
  same_modulus = modulus_stays t0 t grown ∙ h.same_modulus;
  of = by.of;
  indexed = by.indexed;
  value = λ σ. eliminating_substitutes e s f.added f.eliminated x (value_in t0 p.sum) (value_in t rest.sum) made frontier is new h.value
      (λ τ. by.value τ ∙ ap (λ n. substituted n x.v (gate_value x) (value_in t0 p.sum) τ) h.same_modulus) σ;
  fixed = same_fixed e.max (value_in t rest.sum) (substituted (modulus_in t0) x.v (gate_value x) (value_in t0 p.sum)) by.value
      (substituted_fixed e (modulus_in t0) x (value_in t0 p.sum) made is h.fixed);
  known = h.known;
}

-- ---- with what is gathered

pub walk_started : (e : Extended) (s : Sides) (t0 t : Table) (rest : IndexedSum) (g : Gathered) → modulus_in t0 ≡ graphs.modulus e → Extends t0 t → IsOf t0 rest.sum → IsIndexed t0 rest →
    ((σ : Assignment) → value_in t0 rest.sum σ ≡ 0) → batch_count g ≡ 0 →
    ((k : Assignment → ℕ) → ((σ : Assignment) → k σ ≡ 0) → IsGathered e s t nothing k g) → IsWalked e s t nothing (walk_of rest g)
walk_started e s t0 t rest g same grown of indexed none batches gathered = record {
  rest = rest_grown e s t0 t nothing rest grown (rest_starts e s t0 rest same of indexed none);
  gathered = gathered (value_in t rest.sum) (λ σ. value_stays t0 t rest.sum σ grown of ∙ none σ);
  few = omega (arith, batches);
}

pub walk_added : (e : Extended) (s : Sides) (t0 t1 t : Table) (f : Taken) (w : Walk) (k : ℕ) (rest : IndexedSum) (more : Gathered) → IsExtension e → ReadInputs e.graph s → k < length e.graph.outputs → Extends t0 t1 → Extends t1 t →
    IsAdded e s t0 t1 k w.rest.sum rest → HasColumn t1 t e k w.gathered more → IsFrontierOf e f → has f.added k ≡ false → IsWalked e s t0 f w → IsWalked e s t (step f (Add k)) (walk_of rest more)
walk_added e s t0 t1 t f w k rest more made read low first second by takes frontier new h = record {
  rest = rest_grown e s t1 t (step f (Add k)) rest second (rest_added e s t0 t1 f k w.rest rest made read low first by frontier new h.rest);
  gathered = takes.gathered s f (value_in t0 w.rest.sum) (value_in t rest.sum) (modulus_stays t0 t1 first ∙ h.rest.same_modulus) made low new
      (λ r out σ. value_stays t1 t rest.sum σ second by.of ∙ by.value r out σ) (gathered_grown e s t0 t1 f (value_in t0 w.rest.sum) w.gathered first h.gathered);
  few = subst (λ n. n ≤ length f.eliminated) (sym takes.count) h.few;
}

pub walk_eliminated : (e : Extended) (s : Sides) (t0 t1 t : Table) (f : Taken) (w : Walk) (more : Gathered) (x : Gate) (rest : IndexedSum) (part : Option GatePart) → IsExtension e → Contains e.gates x → Extends t0 t1 → Extends t1 t →
    IsEliminated t0 t1 x w.rest.sum rest part → HasTakenGate t1 t x part w.gathered more →
    IsFrontierOf e f → has f.eliminated x.v ≡ false → IsWalked e s t0 f w → IsWalked e s t (step f (Eliminate x.v)) (walk_of rest more)
walk_eliminated e s t0 t1 t f w more x rest part made is first second by takes frontier new h =
    let p : Assignment → ℕ = value_in t0 w.rest.sum in
    let same = h.rest.same_modulus in
    let low : batch_count w.gathered ≤ length f.eliminated = h.few in
    let few : batch_count more ≤ suc (length f.eliminated) = omega (arith, takes.count) in
    record {
      rest = rest_grown e s t1 t (step f (Eliminate x.v)) rest second (rest_eliminated e s t0 t1 f x w.rest rest part made is first by frontier new h.rest);
      gathered = takes.gathered e s f p (value_in t rest.sum) (modulus_stays t0 t1 first ∙ same) (record { made = made; gate = is; new = new }) h.rest.fixed (gap_fixed e s f.added p h.rest.known h.rest.fixed)
          (λ σ. value_stays t1 t rest.sum σ second by.of ∙ by.value σ ∙ ap (λ m. substituted m x.v (gate_value x) p σ) same) (subst (λ m. IsLeft m t1 x (quotient m x.v p) part) same by.left)
          (gathered_grown e s t0 t1 f p w.gathered first h.gathered);
      few = few;
    }

pub walk_settled : (e : Extended) (s : Sides) (t0 t : Table) (f : Taken) (w : Walk) (more : Gathered) → Extends t0 t → KeepsGathered t0 t w.gathered more → IsWalked e s t0 f w → IsWalked e s t f (walk_of w.rest more)
walk_settled e s t0 t f w more grown settles h =
    let low : batch_count w.gathered ≤ length f.eliminated = h.few in
    let p : Assignment → ℕ = value_in t0 w.rest.sum in
    record {
      rest = rest_grown e s t0 t f w.rest grown h.rest;
      gathered = subst (λ (k : Assignment → ℕ). IsGathered e s t f k more) (sym (function_stays t0 t w.rest.sum grown h.rest.of))
          (settles.gathered e s f p h.rest.same_modulus (gap_fixed e s f.added p h.rest.known h.rest.fixed) h.gathered);
      few = omega (arith, settles.count);
    }

-- with the index made anew
pub walk_indexed : (e : Extended) (s : Sides) (t : Table) (f : Taken) (w : Walk) (rest : IndexedSum) → IsOf t rest.sum → IsIndexed t rest → ((σ : Assignment) → value_in t rest.sum σ ≡ value_in t w.rest.sum σ) →
    IsWalked e s t f w → IsWalked e s t f (walk_of rest w.gathered)
walk_indexed e s t f w rest of indexed is h = record {
  rest = rest_renewed e s t t f w.rest rest refl of indexed is h.rest;
  gathered = subst (λ (k : Assignment → ℕ). IsGathered e s t f k w.gathered) (sym (fun_ext is)) h.gathered;
  few = h.few;
}

pub walk_ended : (e : Extended) (s : Sides) (t0 t : Table) (f : Taken) (w : Walk) (last : Sum) (more : Gathered) → last ≡ w.rest.sum → Extends t0 t → IsEndedBatch t0 t w.gathered more → IsWalked e s t0 f w → HasEnded e s t f last more
walk_ended e s t0 t f w last more is grown ends h =
    let settled = walk_settled e s t0 t f w more grown ends.settles h in
    record {
      gathered = subst (λ p. IsGathered e s t f (value_in t p) more) (sym is) settled.gathered;
      few = let low : batch_count more ≤ length f.eliminated = settled.few in omega arith;
      none = ends.none;
    }
