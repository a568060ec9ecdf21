-- What is gathered after a column was added.
use Rattle.std.specs.Prelude.{◌≡◌, ◌≢◌, ℕ, ◌+◌, ◌*◌, ◌%◌, ◌^◌, ◌<◌, ◌≤◌, true, false, List, [], ◌∷◌, ◌++◌, length, get_or, slice_get, slice_index_or}
use Rattle.std.specs.declared.option.Option.TheVariants.{Some}
use Rattle.std.specs.List.{All, Contains}
use Rattle.std.proofs.Common.{refl, sym, ap, ap₂, subst, ◌∙◌, arith, pow_mono, true≢false, lt_of_not-le}
use Rattle.std.proofs.Math.Nat.{mod-add-mod}
use Rattle.std.proofs.Math.Pow.{pow-lt}
use Rattle.std.proofs.lemmas.Nat.{pow_pos}
use Rattle.std.proofs.lemmas.List.Elements.{All-contains, All-push}
use Rattle.std.proofs.lemmas.List.Quantifiers.{all_pairs_push}
use Rattle.std.proofs.lemmas.Option.{same_Some, slice_get-get_or}
use Rattle.graph_core.specs.declared.literal.Lit.{Lit}
use Rattle.graph_core.specs.Graph.Assignments.{Assignment, bit, literal}
use Rattle.graph_core.specs.Graph.Operands.{Sides}
use Rattle.graph_core.specs.Graph.Extended.{Column, Extended}
use Rattle.algebra_core.specs.AlgebraLines.{IsLive, axioms, combined, value_of}
use Rattle.graph_core.specs.Graph.Extended as graphs
use Rattle.algebra_core.specs.AlgebraLines as algebra
use Rattle.algebra_core.specs.Polynomials.{difference, value}
use Rattle.gate_axioms.specs.Axioms.{IsLiteralDifference}
use Rattle.ripple_graft.specs.Extension.{IsExtension, IsReplaced, new_outputs}
use Rattle.ripple_graft.proofs.NewOutputs.{outputs_are_new}
use Rattle.poly_terms.specs.Tables.{Table, Sum, Extends, IsOf, modulus_in, monomials_in, value_in}
use Rattle.poly_terms.specs.Laws.{extends_on, modulus_stays, stays, value_stays}
use Rattle.pac_writer.specs.Writing.{IsOver}
use Rattle.frontier_core.specs.Sets.{has}
use Rattle.frontier_core.specs.Columns.{column_value}
use Rattle.frontier_core.specs.Frontier.{set_to}
use Rattle.frontier_core.specs.Pending.{IsNotZero, IsPending, gap}
use Rattle.frontier_core.specs.declared.step.Step.TheVariants.{Add}
use Rattle.frontier_core.specs.Plan.{Taken, step}
use Rattle.frontier_core.proofs.Gathered.{combined_push, has_first, has_more, pending_adds_column, taken_adding}
use Rattle.frontier_core.proofs.LineLemmas.{axioms_are_live}
use Rattle.frontier_core.proofs.RestLines.{adding_keeps_rest_line}
use Rattle.column_reducer.specs.declared.gathered.Gathered.{Gathered}
use Rattle.column_reducer.specs.Gathering.{AreColumns, AreGateParts, AreOfAdded, AreSumBatches, HasColumn, IsFixedAbove, batches_sum, one_if_some, scaled_parts}
use Rattle.column_reducer.proofs.Fixed.{literal_fixed, new_outputs_low, output_low, outputs_low, over_fixed, same_fixed}
use Rattle.column_reducer.proofs.Grown.{gathered_grown}
use Rattle.column_reducer.proofs.Taken.{part_pushed}
use Rattle.poly_text.specs.Lines.{parts_in}

-- ---- a column's number

-- it is below the exponent
pub below_exponent : (e : Extended) (t : Table) (k : ℕ) → modulus_in t ≡ graphs.modulus e → k < length e.graph.outputs → k < t.exponent
below_exponent e t k same low =
    lt_of_not-le (λ (h : t.exponent ≤ k).
    let small : 2 ^ t.exponent ≤ 2 ^ k = pow_mono h in let great : 2 ^ k < 2 ^ length e.graph.outputs = pow-lt low in absurd (omega (arith, same)))

added_more : (e : Extended) (added : List ℕ) (k : ℕ) (columns : List (ℕ × Sum)) → AreOfAdded e added columns → AreOfAdded e (k ∷ added) columns
added_more e added k columns h i d low = let one = h i d low in (one.0, has_more k one.0 added one.1, one.2)

-- a replaced column's axiom is live, and states its old output minus its new one
record IsLiveColumn (e : Extended) (k : ℕ) (o r : Lit) : Type 0 where
  pub live : IsLive (axioms e).live (e.max + 1 + k)
  pub states : (σ : Assignment) → value_of (axioms e).live (e.max + 1 + k) σ ≡ difference (graphs.modulus e) (bit (literal σ o)) (bit (literal σ r))

live_column : (e : Extended) (k : ℕ) (o r : Lit) → IsExtension e → IsReplaced e k → slice_get e.graph.outputs k ≡ Some o → slice_get (new_outputs e) k ≡ Some r → IsLiveColumn e k o r
live_column e k o r made replaced old new =
    let c : Column = replaced.1 in
    let is : Contains e.replaced c = (replaced.0, replaced.2, replaced.3) in
    let number : c.number ≡ k = replaced.4 in
    let law = (axioms_are_live e made).1 c is in
    let first : c.old ≡ o = same_Some c.old o (sym (All-contains (λ x. slice_get e.graph.outputs x.number ≡ Some x.old) e.replaced c made.replaced is) ∙ ap (slice_get e.graph.outputs) number ∙ old) in
    let second : c.new ≡ r = same_Some c.new r (sym (All-contains (λ x. slice_get (new_outputs e) x.number ≡ Some x.new) e.replaced c (outputs_are_new.replaced e made) is) ∙ ap (slice_get (new_outputs e)) number ∙ new) in
    record {
      live = subst (λ n. IsLive (axioms e).live (e.max + 1 + n)) number law.0;
      states = λ σ.
          ap (λ n. value_of (axioms e).live (e.max + 1 + n) σ) (sym number) ∙ law.1 σ ∙
          ap₂ (λ x y. difference (graphs.modulus e) (bit (literal σ x)) (bit (literal σ y))) first second;
    }

-- ---- a column that isn't replaced

pub column_kept : (t : Table) (e : Extended) (k : ℕ) (g : Gathered) → (IsReplaced e k → ⊥) → HasColumn t t e k g g
column_kept t e k g kept = record {
  gathered = λ s f rest next same made low new sum h.
      let o : Lit = get_or e.graph.outputs k (record { 0 = 0 }) in
      let old : slice_get e.graph.outputs k ≡ Some o = slice_get-get_or e.graph.outputs k (record { 0 = 0 }) low in
      let out : slice_get (new_outputs e) k ≡ Some o = outputs_are_new.kept e k kept ∙ old in
      record {
        batches = h.batches;
        added = added_more e f.added k g.columns.items h.added;
        parts = h.parts;
        fixed = h.fixed;
        low = h.low;
        pending = (pending_adds_column e s (axioms e).live (value_in t g.total) rest next f (scaled_parts t g.power g.parts.items) k o o h.pending old out new (sum o out)).0 refl;
        of = h.of;
        sum = h.sum;
      };
  count = refl;
}

-- ---- a replaced one

-- its axiom times 2^k goes into the total
pending_more : (e : Extended) (s : Sides) (f : Taken) (start more rest next : Assignment → ℕ) (parts : List algebra.Part) (k : ℕ) (o r : Lit) → slice_get e.graph.outputs k ≡ Some o → slice_get (new_outputs e) k ≡ Some r →
    has f.added k ≡ false → ((σ : Assignment) → next σ ≡ (rest σ + column_value e s k r σ) % graphs.modulus e) →
    ((σ : Assignment) → more σ ≡ (start σ + difference (graphs.modulus e) (bit (literal σ o)) (bit (literal σ r)) * 2 ^ k) % graphs.modulus e) →
    IsPending e s (axioms e).live start f rest parts → IsPending e s (axioms e).live more (step f (Add k)) next parts
pending_more e s f start more rest next parts k o r old out new sum more_is h =
    let m = graphs.modulus e in
    let c : Assignment → ℕ = combined m (axioms e).live parts in
    let law = adding_keeps_rest_line e s f.added k o r (gap e s f.added rest) rest next (λ σ. refl) old out new sum in
    record {
      sum = λ σ. law.0 (λ τ. (more τ + c τ) % m)
          (λ τ.
          let d = difference m (bit (literal τ o)) (bit (literal τ r)) in
          let turned : start τ + d * 2 ^ k + c τ ≡ start τ + c τ + 2 ^ k * d = omega arith in
          ap (λ n. (n + c τ) % m) (more_is τ) ∙ mod-add-mod (start τ + d * 2 ^ k) m (c τ) ∙ ap (λ n. n % m) turned ∙ sym (mod-add-mod (start τ + c τ) m (2 ^ k * d)) ∙ ap (λ n. (n + 2 ^ k * d) % m) (h.sum τ)) σ;
      spare = h.spare;
      taken = λ i d low. taken_adding e f k (slice_index_or parts i d).id (h.taken i d low);
    }

columns_pushed : (e : Extended) (t : Table) (added : List ℕ) (k : ℕ) (weight : Sum) (columns : List (ℕ × Sum)) → modulus_in t ≡ graphs.modulus e → k < length e.graph.outputs → has added k ≡ false → IsLive (axioms e).live (e.max + 1 + k) →
    IsOf t weight → ((σ : Assignment) → value_in t weight σ ≡ 2 ^ k) → AreOfAdded e added columns → AreColumns e t columns → AreColumns e t (columns ++ (e.max + 1 + k, weight) ∷ [])
columns_pushed e t added k weight columns same low new live of weight_is are h =
    let m = graphs.modulus e in
    let over : IsOver e.max t weight = over_fixed e.max t weight of (λ v b σ above. weight_is (set_to v b σ) ∙ sym (weight_is σ)) in
    let nonzero : IsNotZero m (monomials_in t weight) = λ none.
    let at : Assignment = λ v. false in
    let zero : 2 ^ k ≡ 0 = sym (weight_is at) ∙ ap (λ n. value n (monomials_in t weight) at) same ∙ none at in
    let some = pow_pos k in absurd (omega arith) in
    let apart : All (λ q. q.0 ≢ e.max + 1 + k) columns = λ i d low'.
    let one = are i d low' in λ is. true≢false (sym one.1 ∙ ap (has added) (let number : one.0 ≡ k = omega (arith, one.2, is) in number) ∙ new) in
    record {
      over = All-push (λ p. IsOver e.max t p.1) columns (e.max + 1 + k, weight) h.over over;
      nonzero = All-push (λ p. IsNotZero m (monomials_in t p.1)) columns (e.max + 1 + k, weight) h.nonzero nonzero;
      live = All-push (λ p. IsLive (axioms e).live p.0) columns (e.max + 1 + k, weight) h.live live;
      once = all_pairs_push (λ p q. p.0 ≢ q.0) columns (e.max + 1 + k, weight) h.once apart;
      ids = All-push (λ p. (e.max < p.0) × (p.0 ≤ e.max + length e.graph.outputs)) columns (e.max + 1 + k, weight) h.ids (omega arith, omega arith);
    }

pub column_taken : (t0 t1 t2 t : Table) (e : Extended) (k : ℕ) (o r : Lit) (equal weight : Sum) (g more : Gathered) → Extends t0 t1 → Extends t1 t2 → Extends t2 t → IsReplaced e k →
    slice_get e.graph.outputs k ≡ Some o → slice_get (new_outputs e) k ≡ Some r → IsOf t1 equal → IsLiteralDifference t1 equal o r → IsOf t2 weight → ((σ : Assignment) → value_in t2 weight σ ≡ 2 ^ k) → IsOf t more.total →
    ((σ : Assignment) → value_in t more.total σ ≡ (value_in t2 g.total σ + value_in t2 equal σ * value_in t2 weight σ) % modulus_in t2) →
    more.batches ≡ g.batches → more.columns.items ≡ g.columns.items ++ (e.max + 1 + k, weight) ∷ [] → more.parts ≡ g.parts → more.stated ≡ g.stated → more.power ≡ g.power → HasColumn t0 t e k g more
column_taken t0 t1 t2 t e k o r equal weight g more first second third replaced old out of_axiom axiom_is of_weight weight_is of_total total_is batches columns parts stated power = record {
  gathered = λ s f rest next same made low new sum h0.
      let m = graphs.modulus e in
      let live = (axioms e).live in
      let id = e.max + 1 + k in
      let to2 = extends_on t0 t1 t2 first second in
      let all = extends_on t0 t2 t to2 third in
      let h = gathered_grown e s t0 t f rest g all h0 in
      let here : modulus_in t ≡ m = modulus_stays t0 t all ∙ same in
      let there : modulus_in t2 ≡ m = modulus_stays t0 t2 to2 ∙ same in
      let d : Assignment → ℕ = λ σ. difference m (bit (literal σ o)) (bit (literal σ r)) in
      let column = live_column e k o r made replaced old out in
      let weight_now : (σ : Assignment) → value_in t weight σ ≡ 2 ^ k = λ σ. value_stays t2 t weight σ third of_weight ∙ weight_is σ in
      let axiom_now : (σ : Assignment) → value_in t2 equal σ ≡ d σ = λ σ.
      value_stays t1 t2 equal σ second of_axiom ∙ axiom_is σ ∙ ap (λ n. difference n (bit (literal σ o)) (bit (literal σ r))) (modulus_stays t0 t1 first ∙ same) in
      let total_now : (σ : Assignment) → value_in t more.total σ ≡ (value_in t g.total σ + d σ * 2 ^ k) % m = λ σ.
      total_is σ ∙ ap₂ (λ x n. (x + value_in t2 equal σ * value_in t2 weight σ) % n) (sym (value_stays t2 t g.total σ third (stays t0 t2 g.total to2 h0.batches.of))) there ∙
      ap₂ (λ x y. (value_in t g.total σ + x * y) % m) (axiom_now σ) (weight_is σ) in
      let pushed : AreColumns e t (g.columns.items ++ (id, weight) ∷ []) =
      columns_pushed e t f.added k weight g.columns.items here low new column.live (stays t2 t weight third of_weight) weight_now h.added h.batches.of_columns in
      let all_batches : AreSumBatches e t g.batches.items (g.columns.items ++ (id, weight) ∷ []) more.total = record {
        batches = h.batches.batches;
        of_columns = pushed;
        of = of_total;
        fixed = same_fixed e.max (value_in t more.total) (λ σ. (value_in t g.total σ + d σ * 2 ^ k) % m) total_now
            (λ v b σ above. ap₂ (λ x y. (x + y * 2 ^ k) % m) (h.batches.fixed v b σ above)
            (ap₂ (λ x y. difference m (bit x) (bit y)) (literal_fixed e.max o v b σ above (output_low e.graph.outputs e.max k o (outputs_low e made) old))
            (literal_fixed e.max r v b σ above (output_low (new_outputs e) e.max k r (new_outputs_low e made) out))));
        sum = λ σ.
            let own = batches_sum t g.batches.items σ in
            let c = combined m live (parts_in t g.columns.items) σ in
            let factor : value m (monomials_in t weight) σ ≡ 2 ^ k = ap (λ n. value n (monomials_in t weight) σ) (sym here) ∙ weight_now σ in
            let one : value_of live id σ * value m (monomials_in t weight) σ ≡ d σ * 2 ^ k = ap₂ ◌*◌ (column.states σ) factor in
            let parts_are : combined m live (parts_in t (g.columns.items ++ (id, weight) ∷ [])) σ ≡ c + value_of live id σ * value m (monomials_in t weight) σ =
            ap (λ ps. combined m live ps σ) (part_pushed t g.columns.items (id, weight)) ∙ combined_push m live (parts_in t g.columns.items) (record { id = id; factor = monomials_in t weight }) σ in
            let sum_is : own + combined m live (parts_in t (g.columns.items ++ (id, weight) ∷ [])) σ ≡ (own + c) + d σ * 2 ^ k = omega (arith, parts_are, one) in
            ap (λ n. n % m) sum_is ∙ sym (mod-add-mod (own + c) m (d σ * 2 ^ k)) ∙ ap (λ n. (n + d σ * 2 ^ k) % m) (h.batches.sum σ) ∙ sym (total_now σ);
      } in
      record {
        batches = subst (λ gs. AreSumBatches e t gs.items more.columns.items more.total) (sym batches) (subst (λ cs. AreSumBatches e t g.batches.items cs more.total) (sym columns) all_batches);
        added = subst (AreOfAdded e (k ∷ f.added)) (sym columns)
            (All-push (λ p. (j : ℕ) × (has (k ∷ f.added) j ≡ true) × (p.0 ≡ e.max + 1 + j)) g.columns.items (id, weight) (added_more e f.added k g.columns.items h.added) (k, has_first k f.added, refl));
        parts = subst (λ ps. AreGateParts e t ps.items) (sym parts) h.parts;
        fixed = subst (λ ps. IsFixedAbove e.max (combined m live (parts_in t ps.items))) (sym parts) h.fixed;
        low = subst (λ n. n < t.exponent) (sym power) h.low;
        pending = subst (λ ps. IsPending e s live (value_in t more.total) (step f (Add k)) next (scaled_parts t more.power ps.items)) (sym parts)
            (subst (λ n. IsPending e s live (value_in t more.total) (step f (Add k)) next (scaled_parts t n g.parts.items)) (sym power)
            (pending_more e s f (value_in t g.total) (value_in t more.total) rest next (scaled_parts t g.power g.parts.items) k o r old out new (sum r out) total_now h.pending));
        of = subst (IsOf t) (sym stated) h.of;
        sum = λ σ. ap (λ p. value_in t p σ) stated ∙ h.sum σ ∙ sym (ap (λ ps. combined m live (parts_in t ps.items) σ % m) parts);
      };
  count = ap₂ (λ gs ps. length gs.items + one_if_some ps.items) batches parts;
}
