-- What is gathered before the first step, after a part was taken, and after a batch was ended.
use Rattle.std.specs.Prelude.{◌≡◌, ◌≢◌, ℕ, ◌+◌, ◌*◌, ◌%◌, ◌^◌, ◌<◌, ◌≤◌, true, false, List, [], ◌∷◌, ◌++◌, map, length, suc, IfSome}
use Rattle.std.specs.List.{AllByRecursion, AllPairs, Contains}
use Rattle.std.specs.declared.option.Option.{Option}
use Rattle.std.specs.declared.option.Option.TheVariants.{None, Some}
use Rattle.std.proofs.Common.{length-append, refl, sym, ap, ap₂, subst, ◌∙◌, arith}
use Rattle.std.proofs.Math.Nat.{zero-mod, mod-mod, mod-add-mod}
use Rattle.std.proofs.Math.Path.{fun_ext}
use Rattle.std.proofs.lemmas.List.Elements.{All-contains, All-from_recursion, All-push, recursion_from_All}
use Rattle.std.proofs.lemmas.List.Kept.{AllPairs-cons}
use Rattle.std.proofs.lemmas.Nat.{pow_pos}
use Rattle.graph_core.specs.declared.gate.Gate.{Gate}
use Rattle.graph_core.specs.declared.literal.Lit.{Lit}
use Rattle.graph_core.specs.Graph.Assignments.{Assignment}
use Rattle.graph_core.specs.Graph.Operands.{Sides}
use Rattle.graph_core.specs.Graph.Extended.{Extended}
use Rattle.algebra_core.specs.AlgebraLines.{LiveLine, Part, IsLive, axioms, combined, gate_axiom, value_of}
use Rattle.graph_core.specs.Graph.Extended as graphs
use Rattle.algebra_core.specs.Polynomials.{difference, product, value}
use Rattle.algebra_core.proofs.CallerLemmas.{modulus_pos}
use Rattle.graph_core.proofs.OfGraphs.CallerLemmas.{product_same, sum_same}
use Rattle.frontier_core.specs.Frontier.{set_to}
use Rattle.pac_writer.specs.Writing.{IsOver}
use Rattle.poly_terms.specs.Tables.{Table, Sum, Extends, IsOf, modulus_in, monomials_in, value_in, variables_in}
use Rattle.poly_terms.specs.Entries.{total}
use Rattle.poly_terms.proofs.Indexing.{table_once, zero_of, zero-value}
use Rattle.poly_terms.proofs.Values.{value-total}
use Rattle.poly_text.specs.Lines.{part_in, parts_in}
use Rattle.poly_terms.specs.Laws.{extends_on, modulus_stays, stays, value_stays}
use Rattle.frontier_core.specs.Sets.{has}
use Rattle.frontier_core.specs.declared.step.Step.TheVariants.{Eliminate}
use Rattle.frontier_core.specs.Plan.{Taken, nothing, step}
use Rattle.frontier_core.specs.Pending.{AreSpare, IsNotZero, IsPending, gap}
use Rattle.frontier_core.specs.Substitution.{gate_value, quotient, substituted}
use Rattle.frontier_core.specs.Columns.{columns_sum}
use Rattle.frontier_core.specs.RestLine.{partial_specification}
use Rattle.frontier_core.proofs.Gathered.{combined_push, pending_eliminates, pending_starts}
use Rattle.frontier_core.proofs.LineLemmas.{axioms_are_live}
use Rattle.frontier_core.proofs.PlainOrders.{gates_had}
use Rattle.frontier_core.proofs.RestLines.{difference_small, rest_line_starts}
use Rattle.column_reducer.specs.declared.gate_part.GatePart.{GatePart}
use Rattle.column_reducer.specs.declared.gathered.Gathered.{Gathered}
use Rattle.column_reducer.specs.declared.gathered.Batch.{Batch}
use Rattle.column_reducer.specs.Gathering.{AreColumns, AreGateParts, AreOfAdded, AreSumBatches, HasPart, HasPower, HasTakenGate, IsEndedBatch, IsFixedAbove, IsGatePart, IsGatePartOf, IsGathered, IsBatch, IsLeft, IsNext, KeepsGathered, batches_sum, one_if_some, scaled_parts, times}
use Rattle.column_reducer.proofs.Fixed.{axiom_fixed, fixed_over, over_fixed, quotient_fixed, same_fixed}
use Rattle.column_reducer.proofs.Grown.{gathered_grown, over_grown}
use Rattle.column_reducer.proofs.Sizes.{opposite_zero}

-- ---- factors that are 2^k times as great

total_times : (F : ℕ → ℕ) (w : ℕ) (p : Sum) → total F (times w p) ≡ w * total F p
total_times F w [] = omega arith
total_times F w (e ∷ es) = ap (λ n. w * e.1 * F e.0 + n) (total_times F w es) ∙ omega arith

pub times_value : (t : Table) (w : ℕ) (p : Sum) (σ : Assignment) → value_in t (times w p) σ ≡ (w * value_in t p σ) % modulus_in t
times_value t w p σ =
    let m = modulus_in t in
    let F : ℕ → ℕ = λ k. product σ (variables_in t k) in
    value-total t (times w p) σ ∙ ap (λ n. n % m) (total_times F w p) ∙ sym (product_same m w w (total F p % m) (total F p) refl (mod-mod (total F p) m)) ∙
    ap (λ n. (w * n) % m) (sym (value-total t p σ))

whole_sum : (t : Table) (live : List LiveLine) (k : ℕ) (parts : List (ℕ × Sum)) (σ : Assignment) →
    combined (modulus_in t) live (scaled_parts t k parts) σ % modulus_in t ≡ (2 ^ k * combined (modulus_in t) live (parts_in t parts) σ) % modulus_in t
whole_sum t live k [] σ = ap (λ n. n % modulus_in t) (omega arith)
whole_sum t live k (p ∷ parts) σ =
    let m = modulus_in t in
    let w = 2 ^ k in
    let l = value_of live p.0 σ in
    let v = value_in t p.1 σ in
    let c = combined m live (parts_in t parts) σ in
    let one : (l * value_in t (times w p.1) σ) % m ≡ (w * (l * v)) % m =
    ap (λ x. (l * x) % m) (times_value t w p.1 σ) ∙ product_same m l l ((w * v) % m) (w * v) refl (mod-mod (w * v) m) ∙ ap (λ n. n % m) (omega arith) in
    sum_same m (l * value_in t (times w p.1) σ) (w * (l * v)) (combined m live (scaled_parts t k parts) σ) (w * c) one (whole_sum t live k parts σ) ∙
    ap (λ n. n % m) (let e : w * (l * v) + w * c ≡ w * (l * v + c) = omega arith in e)

-- the same where the modulus is the graph's
pub whole_is : (e : Extended) (t : Table) (live : List LiveLine) (k : ℕ) (parts : List (ℕ × Sum)) (σ : Assignment) → modulus_in t ≡ graphs.modulus e →
    combined (graphs.modulus e) live (scaled_parts t k parts) σ % graphs.modulus e ≡ (2 ^ k * combined (graphs.modulus e) live (parts_in t parts) σ) % graphs.modulus e
whole_is e t live k parts σ same = subst (λ m. combined m live (scaled_parts t k parts) σ % m ≡ (2 ^ k * combined m live (parts_in t parts) σ) % m) same (whole_sum t live k parts σ)

-- parts are spare where they are so 2^k times as great
spare_parts : (t : Table) (lines : List LiveLine) (k : ℕ) (parts : List (ℕ × Sum)) → AreSpare (modulus_in t) lines (scaled_parts t k parts) → AreSpare (modulus_in t) lines (parts_in t parts)
spare_parts t lines k parts h = record {
  live = All-from_recursion (λ p. IsLive lines p.id) (parts_in t parts) (live_along parts (recursion_from_All (λ p. IsLive lines p.id) (scaled_parts t k parts) h.live));
  once = once_along parts h.once;
  nonzero = All-from_recursion (λ p. IsNotZero (modulus_in t) p.factor) (parts_in t parts) (nonzero_along parts (recursion_from_All (λ p. IsNotZero (modulus_in t) p.factor) (scaled_parts t k parts) h.nonzero));
}
  where
    live_along : (ps : List (ℕ × Sum)) → AllByRecursion (λ p. IsLive lines p.id) (scaled_parts t k ps) → AllByRecursion (λ p. IsLive lines p.id) (parts_in t ps)
    live_along [] h = tt
    live_along (p ∷ ps) h = (h.0, live_along ps h.1)

    nonzero_along : (ps : List (ℕ × Sum)) → AllByRecursion (λ p. IsNotZero (modulus_in t) p.factor) (scaled_parts t k ps) → AllByRecursion (λ p. IsNotZero (modulus_in t) p.factor) (parts_in t ps)
    nonzero_along [] h = tt
    nonzero_along (p ∷ ps) h = (
      (λ none. h.0 (λ σ. times_value t (2 ^ k) p.1 σ ∙ ap (λ n. (2 ^ k * n) % modulus_in t) (none σ) ∙ ap (λ n. n % modulus_in t) (let e : 2 ^ k * 0 ≡ 0 = omega arith in e) ∙ zero-mod (modulus_in t))),
      nonzero_along ps h.1,
    )

    apart_along : (i : ℕ) (ps : List (ℕ × Sum)) → AllByRecursion (λ q. i ≢ q.id) (scaled_parts t k ps) → AllByRecursion (λ q. i ≢ q.id) (parts_in t ps)
    apart_along i [] h = tt
    apart_along i (p ∷ ps) h = (h.0, apart_along i ps h.1)

    once_along : (ps : List (ℕ × Sum)) → AllPairs (λ p q. p.id ≢ q.id) (scaled_parts t k ps) → AllPairs (λ p q. p.id ≢ q.id) (parts_in t ps)
    once_along [] h = λ i j d lt within. absurd (omega arith)
    once_along (p ∷ ps) h =
        AllPairs-cons (λ (q : Part) (r : Part). q.id ≢ r.id) (part_in t p) (parts_in t ps)
        (All-from_recursion (λ q. p.0 ≢ q.id) (parts_in t ps) (apart_along p.0 ps (recursion_from_All (λ q. p.0 ≢ q.id) (scaled_parts t k ps) (λ j d low. h 0 (suc j) d (omega arith) (omega arith)))))
        (once_along ps (λ i j d lt within. h (suc i) (suc j) d (omega arith) (omega arith)))

-- ---- before the first step

no_parts : (e : Extended) (t : Table) → AreGateParts e t []
no_parts e t = record { of = λ k d low. absurd (omega arith); gates = λ k d low. absurd (omega arith) }

no_columns : (e : Extended) (t : Table) → AreColumns e t []
no_columns e t = record {
  over = λ k d low. absurd (omega arith);
  nonzero = λ k d low. absurd (omega arith);
  live = λ k d low. absurd (omega arith);
  once = λ i j d lt within. absurd (omega arith);
  ids = λ k d low. absurd (omega arith);
}

no_batches : (e : Extended) (t : Table) (total : Sum) → IsOf t total → ((σ : Assignment) → value_in t total σ ≡ 0) → AreSumBatches e t [] [] total
no_batches e t total of none = record {
  batches = λ k d low. absurd (omega arith);
  of_columns = no_columns e t;
  of = of;
  fixed = λ v b σ above. none (set_to v b σ) ∙ sym (none σ);
  sum = λ σ. zero-mod (graphs.modulus e) ∙ sym (none σ);
}

-- no part is open, and the ended batches state the gap
nothing_open : (e : Extended) (s : Sides) (t : Table) (f : Taken) (rest : Assignment → ℕ) (g : Gathered) → AreSumBatches e t g.batches.items g.columns.items g.total → AreOfAdded e f.added g.columns.items →
    ((σ : Assignment) → value_in t g.total σ ≡ gap e s f.added rest σ) → g.power < t.exponent → g.parts.items ≡ [] → g.stated ≡ [] → IsGathered e s t f rest g
nothing_open e s t f rest g batches added is low parts stated =
    let m = graphs.modulus e in
    let live = (axioms e).live in
    record {
      batches = batches;
      added = added;
      parts = subst (AreGateParts e t) (sym parts) (no_parts e t);
      fixed = subst (λ ps. IsFixedAbove e.max (combined m live (parts_in t ps))) (sym parts) (λ v b σ above. refl);
      low = low;
      pending = subst (λ ps. IsPending e s live (value_in t g.total) f rest (scaled_parts t g.power ps)) (sym parts)
          (subst (λ (h : Assignment → ℕ). IsPending e s live h f rest []) (sym (fun_ext is)) (pending_starts e s live f rest));
      of = subst (IsOf t) (sym stated) (zero_of t (table_once t g.total batches.of));
      sum = λ σ. ap (λ p. value_in t p σ) stated ∙ zero-value t σ ∙ sym (ap (λ ps. combined m live (parts_in t ps) σ % m) parts ∙ zero-mod m);
    }

pub gathered_first : (e : Extended) (s : Sides) (t : Table) (rest : Assignment → ℕ) (g : Gathered) → g.batches.items ≡ [] → g.columns.items ≡ [] → g.parts.items ≡ [] → g.stated ≡ [] → g.power < t.exponent → IsOf t g.total →
    ((σ : Assignment) → value_in t g.total σ ≡ 0) → ((σ : Assignment) → rest σ ≡ 0) → IsGathered e s t nothing rest g
gathered_first e s t rest g batches columns parts stated low of none rest_none =
    nothing_open e s t nothing rest g (subst (λ gs. AreSumBatches e t gs g.columns.items g.total) (sym batches) (subst (λ cs. AreSumBatches e t [] cs g.total) (sym columns) (no_batches e t g.total of none)))
    (subst (AreOfAdded e []) (sym columns) (λ k d low'. absurd (omega arith)))
    (λ σ. none σ ∙ rest_line_starts e s (λ τ. 0) rest (λ τ. refl) rest_none σ) low parts stated

-- the same batches and columns' parts
pub batches_moved : (e : Extended) (t : Table) (g more : Gathered) → more.batches ≡ g.batches → more.columns ≡ g.columns → more.total ≡ g.total → AreSumBatches e t g.batches.items g.columns.items g.total →
    AreSumBatches e t more.batches.items more.columns.items more.total
batches_moved e t g more batches columns total h =
    subst (λ gs. AreSumBatches e t gs.items more.columns.items more.total) (sym batches)
    (subst (λ cs. AreSumBatches e t g.batches.items cs.items more.total) (sym columns) (subst (AreSumBatches e t g.batches.items g.columns.items) (sym total) h))

-- ---- a part more

pub part_pushed : (t : Table) (xs : List (ℕ × Sum)) (x : ℕ × Sum) → parts_in t (xs ++ x ∷ []) ≡ parts_in t xs ++ record { id = x.0; factor = monomials_in t x.1 } ∷ []
part_pushed t [] x = refl
part_pushed t (y ∷ xs) x = ap (λ ps. record { id = y.0; factor = monomials_in t y.1 } ∷ ps) (part_pushed t xs x)

whole_pushed : (t : Table) (k : ℕ) (xs : List (ℕ × Sum)) (x : ℕ × Sum) → scaled_parts t k (xs ++ x ∷ []) ≡ scaled_parts t k xs ++ record { id = x.0; factor = monomials_in t (times (2 ^ k) x.1) } ∷ []
whole_pushed t k [] x = refl
whole_pushed t k (y ∷ xs) x = ap (λ ps. record { id = y.0; factor = monomials_in t (times (2 ^ k) y.1) } ∷ ps) (whole_pushed t k xs x)

parts_pushed : (e : Extended) (t : Table) (parts : List (ℕ × Sum)) (x : Gate) (factor : Sum) → Contains e.gates x → IsOver e.max t factor → AreGateParts e t parts → AreGateParts e t (parts ++ (x.v, factor) ∷ [])
parts_pushed e t parts x factor c of h = record {
  of = All-push (λ p. IsOver e.max t p.1) parts (x.v, factor) h.of of;
  gates = All-push (λ p. has (map (λ y. y.v) e.gates) p.0 ≡ true) parts (x.v, factor) h.gates
      (All-contains (λ y. has (map (λ z. z.v) e.gates) y.v ≡ true) e.gates x (gates_had e.gates) c);
}

pub above_zero : (e : Extended) (f : Taken) (x : Gate) → IsNext e f x → 0 < x.v
above_zero e f x h = All-contains (λ y. 0 < y.v) e.gates x h.made.defined_once.gates h.gate

within : (e : Extended) (f : Taken) (x : Gate) → IsNext e f x → x.v ≤ e.max
within e f x h = All-contains (λ y. y.v ≤ e.max) e.gates x h.made.gates_in_range h.gate

-- no term has the gate's variable
pub none_taken : (e : Extended) (s : Sides) (t : Table) (f : Taken) (rest next : Assignment → ℕ) (g : Gathered) (x : Gate) → IsNext e f x →
    ((σ : Assignment) → next σ ≡ substituted (graphs.modulus e) x.v (gate_value x) rest σ) → ((σ : Assignment) → quotient (graphs.modulus e) x.v rest σ ≡ 0) →
    IsGathered e s t f rest g → IsGathered e s t (step f (Eliminate x.v)) next g
none_taken e s t f rest next g x is next_is none h =
    let law = pending_eliminates e s (axioms e).live (value_in t g.total) rest next f (scaled_parts t g.power g.parts.items) x h.pending (above_zero e f x is) (within e f x is) is.new next_is in
    record { batches = h.batches; added = h.added; parts = h.parts; fixed = h.fixed; low = h.low; pending = law.0 none; of = h.of; sum = h.sum }

-- a part that is divided by the open batch's power
pub part_taken : (e : Extended) (s : Sides) (t0 t : Table) (f : Taken) (rest next : Assignment → ℕ) (g more : Gathered) (x : Gate) (p : GatePart) → IsNext e f x → modulus_in t0 ≡ graphs.modulus e → Extends t0 t →
    IsFixedAbove e.max rest → ((σ : Assignment) → next σ ≡ substituted (graphs.modulus e) x.v (gate_value x) rest σ) → IsGatePart (graphs.modulus e) t0 x (quotient (graphs.modulus e) x.v rest) p → g.power ≡ p.power →
    HasPart t x p g more → IsGathered e s t f rest g → IsGathered e s t (step f (Eliminate x.v)) next more
part_taken e s t0 t f rest next g more x p is same grown fixed next_is is_part power has h =
    let m = graphs.modulus e in
    let live = (axioms e).live in
    let k = g.power in
    let factor = p.factor in
    let low = within e f x is in
    let here : modulus_in t ≡ m = modulus_stays t0 t grown ∙ same in
    let over : IsOver e.max t0 factor = over_fixed e.max t0 factor is_part.of.factor (is_part.fixed e.max low (quotient_fixed e.max m x.v rest low fixed)) in
    let over_now : IsOver e.max t factor = over_grown e.max t0 t factor grown over in
    let part : Part = record { id = x.v; factor = monomials_in t (times (2 ^ k) factor) } in
    let axiom_live = (axioms_are_live e is.made).0 x is.gate in
    let law = pending_eliminates e s live (value_in t g.total) rest next f (scaled_parts t k g.parts.items) x h.pending (above_zero e f x is) low is.new next_is in
    let part_is : (σ : Assignment) → value m (monomials_in t (times (2 ^ k) factor)) σ ≡ difference m 0 (quotient m x.v rest σ) = λ σ.
    ap (λ n. value n (monomials_in t (times (2 ^ k) factor)) σ) (sym here) ∙ times_value t (2 ^ k) factor σ ∙
    ap₂ (λ n v. (2 ^ k * v) % n) here (value_stays t0 t factor σ grown over.0) ∙ ap (λ j. (2 ^ j * value_in t0 factor σ) % m) power ∙ is_part.minus σ in
    let some : IsNotZero m (monomials_in t (times (2 ^ k) factor)) = λ none. is_part.nonzero
    (λ σ. opposite_zero m (quotient m x.v rest σ) (modulus_pos e) (difference_small m (rest (set_to x.v true σ)) (rest (set_to x.v false σ)) (modulus_pos e)) (sym (part_is σ) ∙ none σ)) in
    let pending = law.1 part refl axiom_live.0 axiom_live.1 part_is some in
    let line : (σ : Assignment) → combined m live (parts_in t more.parts.items) σ ≡ combined m live (parts_in t g.parts.items) σ + value_of live x.v σ * value m (monomials_in t factor) σ = λ σ.
    ap (λ ps. combined m live (parts_in t ps) σ) has.parts ∙ ap (λ ps. combined m live ps σ) (part_pushed t g.parts.items (x.v, factor)) ∙
    combined_push m live (parts_in t g.parts.items) (record { id = x.v; factor = monomials_in t factor }) σ in
    let factor_is : (σ : Assignment) → value m (monomials_in t factor) σ ≡ value_in t factor σ = λ σ. ap (λ n. value n (monomials_in t factor) σ) (sym here) in
    let product_is : (σ : Assignment) → (value_in t p.operands σ + value_in t p.variable σ) % m ≡ (value_of live x.v σ * value m (monomials_in t factor) σ) % m = λ σ.
    ap (λ n. n % m) (ap₂ ◌+◌ (value_stays t0 t p.operands σ grown is_part.of.operands) (value_stays t0 t p.variable σ grown is_part.of.variable)) ∙ is_part.product σ ∙
    ap₂ (λ a v. (a * v) % m) (sym (axiom_live.1 σ)) (sym (value_stays t0 t factor σ grown over.0) ∙ sym (factor_is σ)) in
    record {
      batches = batches_moved e t g more has.batches has.columns has.total h.batches;
      added = subst (AreOfAdded e f.added) (sym (ap (λ v. v.items) has.columns)) h.added;
      parts = subst (AreGateParts e t) (sym has.parts) (parts_pushed e t g.parts.items x factor is.gate over_now h.parts);
      fixed = same_fixed e.max (combined m live (parts_in t more.parts.items)) (λ σ. combined m live (parts_in t g.parts.items) σ + value_of live x.v σ * value m (monomials_in t factor) σ) line
          (λ v b σ above. ap₂ ◌+◌ (h.fixed v b σ above)
          (ap₂ ◌*◌ (same_fixed e.max (value_of live x.v) (gate_axiom m x).value axiom_live.1 (axiom_fixed e m x is.made is.gate) v b σ above)
          (same_fixed e.max (value m (monomials_in t factor)) (value_in t factor) factor_is (fixed_over e.max t factor over_now) v b σ above)));
      low = subst (λ n. n < t.exponent) (sym has.power) h.low;
      pending = subst (λ n. IsPending e s live (value_in t more.total) (step f (Eliminate x.v)) next (scaled_parts t n more.parts.items)) (sym has.power)
          (subst (λ total. IsPending e s live (value_in t total) (step f (Eliminate x.v)) next (scaled_parts t k more.parts.items)) (sym has.total)
          (subst (IsPending e s live (value_in t g.total) (step f (Eliminate x.v)) next) (sym (ap (scaled_parts t k) has.parts ∙ whole_pushed t k g.parts.items (x.v, factor))) pending));
      of = has.of;
      sum = λ σ.
          let old = value_in t g.stated σ in
          let o = value_in t p.operands σ in
          let d = value_in t p.variable σ in
          let c = combined m live (parts_in t g.parts.items) σ in
          has.stated σ ∙ ap (λ n. ((old + o) % n + d) % n) here ∙ mod-add-mod (old + o) m d ∙ ap (λ n. n % m) (let e1 : old + o + d ≡ old + (o + d) = omega arith in e1) ∙
          sum_same m old c (o + d) (value_of live x.v σ * value m (monomials_in t factor) σ) (ap (λ n. n % m) (h.sum σ) ∙ mod-mod c m) (product_is σ) ∙ ap (λ n. n % m) (sym (line σ));
    }

-- ---- a batch ended

pub sum_more : (t : Table) (gs : List Batch) (g : Batch) (σ : Assignment) → batches_sum t (gs ++ g ∷ []) σ ≡ batches_sum t gs σ + value_in t g.poly σ * value_in t g.weight σ
sum_more t [] g σ = omega arith
sum_more t (h ∷ gs) g σ = omega (arith, sum_more t gs g σ)

pub ended : (e : Extended) (s : Sides) (t : Table) (f : Taken) (rest : Assignment → ℕ) (g more : Gathered) (poly weight : Sum) → modulus_in t ≡ graphs.modulus e →
    IsFixedAbove e.max (gap e s f.added rest) → 0 < length g.parts.items → IsOf t poly → IsOf t weight → IsOf t more.total → ((σ : Assignment) → value_in t weight σ ≡ 2 ^ g.power) →
    ((σ : Assignment) → value_in t poly σ ≡ value_in t g.stated σ) →
    ((σ : Assignment) → value_in t more.total σ ≡ (value_in t g.total σ + value_in t poly σ * value_in t weight σ) % modulus_in t) →
    more.batches.items ≡ g.batches.items ++ record { parts = g.parts; poly = poly; weight = weight } ∷ [] → more.columns ≡ g.columns → more.parts.items ≡ [] → more.stated ≡ [] →
    more.power ≡ g.power → IsGathered e s t f rest g → IsGathered e s t f rest more
ended e s t f rest g more poly weight same fixed some of_poly of_weight of_total weight_is poly_is total_is batches columns parts stated power h =
    let m = graphs.modulus e in
    let live = (axioms e).live in
    let w = 2 ^ g.power in
    let batch : Batch = record { parts = g.parts; poly = poly; weight = weight } in
    let c : Assignment → ℕ = combined m live (parts_in t g.parts.items) in
    let states : (σ : Assignment) → value_in t poly σ ≡ c σ % m = λ σ. poly_is σ ∙ h.sum σ in
    let adds : (σ : Assignment) → value_in t more.total σ ≡ (value_in t g.total σ + value_in t poly σ * value_in t weight σ) % m = λ σ.
    total_is σ ∙ ap (λ n. (value_in t g.total σ + value_in t poly σ * value_in t weight σ) % n) same in
    let weighs : (σ : Assignment) → (value_in t poly σ * value_in t weight σ) % m ≡ combined m live (scaled_parts t g.power g.parts.items) σ % m = λ σ.
    ap₂ (λ a b. (a * b) % m) (states σ) (weight_is σ) ∙ product_same m (c σ % m) (c σ) w w (mod-mod (c σ) m) refl ∙ ap (λ n. n % m) (omega arith) ∙ sym (whole_is e t live g.power g.parts.items σ same) in
    let now : (σ : Assignment) → value_in t more.total σ ≡ gap e s f.added rest σ = λ σ.
    adds σ ∙ sum_same m (value_in t g.total σ) (value_in t g.total σ) (value_in t poly σ * value_in t weight σ) (combined m live (scaled_parts t g.power g.parts.items) σ) refl (weighs σ) ∙ h.pending.sum σ in
    let poly_over = over_fixed e.max t poly of_poly
    (same_fixed e.max (value_in t poly) (λ σ. c σ % m) states (λ v b σ above. ap (λ n. n % m) (h.fixed v b σ above))) in
    let weight_over = over_fixed e.max t weight of_weight (λ v b σ above. weight_is (set_to v b σ) ∙ sym (weight_is σ)) in
    let spare = subst (λ n. AreSpare n live (parts_in t g.parts.items)) same (spare_parts t live g.power g.parts.items (subst (λ n. AreSpare n live (scaled_parts t g.power g.parts.items)) (sym same) h.pending.spare)) in
    let nonzero : IsNotZero m (monomials_in t weight) = λ none.
    let at : Assignment = λ v. false in
    let zero : w ≡ 0 = sym (weight_is at) ∙ ap (λ n. value n (monomials_in t weight) at) same ∙ none at in
    let some' = pow_pos g.power in absurd (omega arith) in
    let all : AreSumBatches e t (g.batches.items ++ batch ∷ []) g.columns.items more.total = record {
      batches = All-push (IsBatch e t) g.batches.items batch h.batches.batches
          (record { some = some; parts = h.parts; of = poly_over; of_weight = weight_over; spare = spare; states = states; nonzero = nonzero });
      of_columns = h.batches.of_columns;
      of = of_total;
      fixed = same_fixed e.max (value_in t more.total) (gap e s f.added rest) now fixed;
      sum = λ σ.
          let own = batches_sum t g.batches.items σ in
          let of_columns = combined m live (parts_in t g.columns.items) σ in
          let more_is : batches_sum t (g.batches.items ++ batch ∷ []) σ + of_columns ≡ (own + of_columns) + value_in t poly σ * value_in t weight σ = omega (arith, sum_more t g.batches.items batch σ) in
          ap (λ z. z % m) more_is ∙ sym (mod-add-mod (own + of_columns) m (value_in t poly σ * value_in t weight σ)) ∙
          ap (λ z. (z + value_in t poly σ * value_in t weight σ) % m) (h.batches.sum σ) ∙ sym (adds σ);
    } in
    nothing_open e s t f rest more (subst (λ gs. AreSumBatches e t gs more.columns.items more.total) (sym batches) (subst (λ cs. AreSumBatches e t (g.batches.items ++ batch ∷ []) cs.items more.total) (sym columns) all))
    (subst (λ cs. AreOfAdded e f.added cs.items) (sym columns) h.added) now (subst (λ n. n < t.exponent) (sym power) h.low) parts stated

-- another power, where no batch is open
pub repowered : (e : Extended) (s : Sides) (t : Table) (f : Taken) (rest : Assignment → ℕ) (g more : Gathered) (k : ℕ) → more.batches ≡ g.batches → more.columns ≡ g.columns → more.total ≡ g.total → more.parts ≡ g.parts →
    more.stated ≡ g.stated → more.power ≡ k → k ≤ g.power → g.parts.items ≡ [] → IsGathered e s t f rest g → IsGathered e s t f rest more
repowered e s t f rest g more k batches columns total parts stated power low none h =
    let live = (axioms e).live in
    let is : more.parts.items ≡ [] = ap (λ v. v.items) parts ∙ none in
    let old = h.low in
    record {
      batches = batches_moved e t g more batches columns total h.batches;
      added = subst (λ cs. AreOfAdded e f.added cs.items) (sym columns) h.added;
      parts = subst (AreGateParts e t) (sym (ap (λ v. v.items) parts)) h.parts;
      fixed = subst (λ ps. IsFixedAbove e.max (combined (graphs.modulus e) live (parts_in t ps))) (sym (ap (λ v. v.items) parts)) h.fixed;
      low = omega arith;
      pending = subst (λ ps. IsPending e s live (value_in t more.total) f rest (scaled_parts t more.power ps)) (sym is)
          (subst (λ u. IsPending e s live (value_in t u) f rest []) (sym total) (subst (λ ps. IsPending e s live (value_in t g.total) f rest (scaled_parts t g.power ps)) none h.pending));
      of = subst (IsOf t) (sym stated) h.of;
      sum = λ σ. ap (λ p. value_in t p σ) stated ∙ h.sum σ ∙
          sym (ap (λ v. combined (graphs.modulus e) live (parts_in t v.items) σ % graphs.modulus e) parts);
    }

-- no column is known at first
none_added : (m : ℕ) (s : Sides) (k : ℕ) (os : List Lit) (σ : Assignment) → columns_sum m s [] k os σ ≡ 0
none_added m s k [] σ = refl
none_added m s k (o ∷ os) σ = omega (arith, none_added m s (suc k) os σ)

pub none_known : (e : Extended) (s : Sides) (σ : Assignment) → partial_specification e s [] σ ≡ 0
none_known e s σ = ap (λ z. z % graphs.modulus e) (none_added (graphs.modulus e) s 0 e.graph.outputs σ) ∙ zero-mod (graphs.modulus e)

-- ---- what calls answer

pub settled_itself : (t : Table) (g : Gathered) → KeepsGathered t t g g
settled_itself t g = record { gathered = λ e s f rest same fixed h. h; of = λ h. h; count = omega arith }

pub ended_itself : (t : Table) (g : Gathered) → g.parts.items ≡ [] → IsEndedBatch t t g g
ended_itself t g none = record { settles = settled_itself t g; none = none; power = refl }

pub batch_ended : (t0 t1 t2 t3 : Table) (g more : Gathered) (poly weight : Sum) → Extends t0 t1 → Extends t1 t2 → Extends t2 t3 → 0 < length g.parts.items → IsOf t1 poly → IsOf t2 weight → IsOf t3 more.total →
    ((σ : Assignment) → value_in t1 poly σ ≡ value_in t0 g.stated σ) → ((σ : Assignment) → value_in t2 weight σ ≡ 2 ^ g.power) →
    ((σ : Assignment) → value_in t3 more.total σ ≡ (value_in t2 g.total σ + value_in t2 poly σ * value_in t2 weight σ) % modulus_in t2) →
    more.batches.items ≡ g.batches.items ++ record { parts = g.parts; poly = poly; weight = weight } ∷ [] → more.columns ≡ g.columns → more.parts.items ≡ [] → more.stated ≡ [] →
    more.power ≡ g.power → IsEndedBatch t0 t3 g more
batch_ended t0 t1 t2 t3 g more poly weight first second third some of_poly of_weight of_total poly_is weight_is total_is batches columns parts stated power = record {
  settles = record {
    gathered = λ e s f rest same fixed h.
        let all = extends_on t0 t1 t3 first (extends_on t1 t2 t3 second third) in
        let grown = gathered_grown e s t0 t3 f rest g all h in
        let to2 = extends_on t0 t1 t2 first second in
        let late = extends_on t1 t2 t3 second third in
        ended e s t3 f rest g more poly weight (modulus_stays t0 t3 all ∙ same) fixed some (stays t1 t3 poly late of_poly) (stays t2 t3 weight third of_weight) of_total
        (λ σ. value_stays t2 t3 weight σ third of_weight ∙ weight_is σ)
        (λ σ. value_stays t1 t3 poly σ late of_poly ∙ poly_is σ ∙ sym (value_stays t0 t3 g.stated σ all h.of))
        (λ σ. total_is σ ∙ ap₂ ◌%◌ (ap₂ ◌+◌ (sym (value_stays t2 t3 g.total σ third (stays t0 t2 g.total to2 h.batches.of)))
        (ap₂ ◌*◌ (sym (value_stays t2 t3 poly σ third (stays t1 t2 poly second of_poly))) (sym (value_stays t2 t3 weight σ third of_weight)))) (sym (modulus_stays t2 t3 third)))
        batches columns parts stated power grown;
    of = λ h. subst (IsOf t3) (sym stated) (zero_of t3 (table_once t3 more.total of_total));
    count =
        let one : one_if_some g.parts.items ≡ 1 = counted g.parts.items some in
        let none : one_if_some more.parts.items ≡ 0 = ap one_if_some parts in
        let longer = ap length batches in
        let sum = length-append g.batches.items (record { parts = g.parts; poly = poly; weight = weight } ∷ []) in
        omega arith;
  };
  none = parts;
  power = power;
}
  where
    counted : (ps : List (ℕ × Sum)) → 0 < length ps → one_if_some ps ≡ 1
    counted [] h = absurd (omega arith)
    counted (p ∷ ps) h = refl

pub power_set : (t0 t : Table) (g mid more : Gathered) (k : ℕ) → IsEndedBatch t0 t g mid → more.batches ≡ mid.batches → more.columns ≡ mid.columns → more.total ≡ mid.total → more.parts ≡ mid.parts →
    more.stated ≡ mid.stated → more.power ≡ k → k ≤ g.power →
    HasPower t0 t k g more
power_set t0 t g mid more k h batches columns total parts stated power low = record {
  settles = record {
    gathered = λ e s f rest same fixed old. let same_power = h.power in
        repowered e s t f rest mid more k batches columns total parts stated power (omega arith) h.none (h.settles.gathered e s f rest same fixed old);
    of = λ old. subst (IsOf t) (sym stated) (h.settles.of old);
    count = let count = h.settles.count in let a = ap (λ v. length v.items) batches in let b = ap (λ v. one_if_some v.items) parts in omega arith;
  };
  power = power;
}

pub taken_none : (t : Table) (x : Gate) (g : Gathered) → HasTakenGate t t x None g g
taken_none t x g = record { gathered = λ e s f rest next same is fixed gap_is next_is turned h. none_taken e s t f rest next g x is next_is turned h; count = omega arith }

-- a part, where the open batch has its power
pub taken_part : (t0 t : Table) (x : Gate) (p : GatePart) (g mid more : Gathered) → Extends t0 t → HasPower t0 t p.power g mid → HasPart t x p mid more → HasTakenGate t0 t x (Some p) g more
taken_part t0 t x p g mid more grown has part = record {
  gathered = λ e s f rest next same is fixed gap_is next_is left h.
      part_taken e s t0 t f rest next mid more x p is same grown fixed next_is left has.power part (has.settles.gathered e s f rest same gap_is h);
  count =
      let count = has.settles.count in
      let batches = ap (λ v. length v.items) part.batches in
      let one = at_most_one more.parts.items in
      omega arith;
}
  where
    at_most_one : (ps : List (ℕ × Sum)) → one_if_some ps ≤ 1
    at_most_one [] = omega arith
    at_most_one (p ∷ ps) = omega arith

pub settled_ended : (t0 t : Table) (g r : Gathered) → IsEndedBatch t0 t g r → KeepsGathered t0 t g r
settled_ended t0 t g r h = h.settles

-- ---- what calls ask for

pub left_of : (m : ℕ) (t : Table) (x : Gate) (by : Assignment → ℕ) (q : Option GatePart) → IsLeft m t x by q → IfSome q (IsGatePartOf t)
left_of m t x by None h = tt
left_of m t x by (Some q) h = h.of

-- a part in a table that has grown
pub part_grown : (t0 t : Table) (p : GatePart) → Extends t0 t → IsGatePartOf t0 p → IsGatePartOf t p
part_grown t0 t p grown h = record { factor = stays t0 t p.factor grown h.factor; operands = stays t0 t p.operands grown h.operands; variable = stays t0 t p.variable grown h.variable }
