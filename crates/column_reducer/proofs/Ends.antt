-- What a walk answers.
use Rattle.std.specs.Prelude.{◌≡◌, ℕ, ◌+◌, ◌%◌, ◌<◌, ◌≤◌, true, length, take, IfSome}
use Rattle.std.specs.declared.option.Option.{Option}
use Rattle.std.specs.declared.option.Option.TheVariants.{None, Some}
use Rattle.std.proofs.Common.{sym, ap, subst, ◌∙◌, arith, ⊎_elim}
use Rattle.std.proofs.Math.Nat.{mod-mod}
use Rattle.std.proofs.Math.Seq.{take-length}
use Rattle.std.proofs.lemmas.Bool.{cases_eq}
use Rattle.graph_core.specs.Graph.Assignments.{Assignment}
use Rattle.graph_core.specs.Graph.Operands.{Sides}
use Rattle.graph_core.specs.Graph.Extended.{Extended}
use Rattle.algebra_core.specs.AlgebraLines.{axioms, combined}
use Rattle.graph_core.specs.Graph.Extended as graphs
use Rattle.algebra_core.specs.NormalForm.{HasSize, IsNormalForm}
use Rattle.algebra_core.specs.Polynomials.{sum_of, value}
use Rattle.poly_terms.specs.Indexed.{IndexedSum}
use Rattle.poly_terms.specs.Tables.{Table, Sum, Extends, IsOf, modulus_in, monomials_in, value_in}
use Rattle.poly_terms.specs.Laws.{modulus_stays, stays, value_stays}
use Rattle.frontier_core.specs.Sets.{has}
use Rattle.frontier_core.specs.Plan.{Taken, nothing, taken, value_of_taken}
use Rattle.frontier_core.specs.Pending.{gap}
use Rattle.frontier_core.proofs.Added.{total_ends}
use Rattle.column_reducer.specs.declared.gathered.Gathered.{Gathered}
use Rattle.column_reducer.specs.declared.walk.Walk.{Walk}
use Rattle.column_reducer.specs.declared.walk.Ended.{Ended}
use Rattle.column_reducer.specs.Gathering.{AreTotal, HasEnded, IsEndedWalk, IsRest, IsWalked, scaled_parts}
use Rattle.column_reducer.proofs.Counts.{eliminated_few}
use Rattle.column_reducer.specs.Reducing.{HasSizeAt, IsPassed, IsPlanned, KeepsBudget, Planned}

-- what was taken after so many steps
abbrev pub taken_after : Planned → ℕ → Taken
taken_after p i = taken nothing (take i p.steps)

-- the rest's size is the frontier's
size_same : (p : Planned) (s : Sides) (t : Table) (count n : ℕ) (rest : IndexedSum) → IsRest p.extended s t (taken_after p count) rest → HasSize (modulus_in t) (value_in t rest.sum) n →
    HasSize (graphs.modulus p.extended) (value_of_taken p.extended s (taken_after p count)) n
size_same p s t count n rest h size =
    (size.0, subst (λ m. IsNormalForm m size.0) h.same_modulus size.1, (λ σ. sym (ap (λ m. value m size.0 σ) h.same_modulus) ∙ size.2 σ ∙ h.value σ), size.3)

size_back : (p : Planned) (s : Sides) (t : Table) (count n : ℕ) (rest : IndexedSum) → IsRest p.extended s t (taken_after p count) rest → HasSize (graphs.modulus p.extended) (value_of_taken p.extended s (taken_after p count)) n →
    HasSize (modulus_in t) (value_in t rest.sum) n
size_back p s t count n rest h size =
    (size.0, subst (λ m. IsNormalForm m size.0) (sym h.same_modulus) size.1, (λ σ. ap (λ m. value m size.0 σ) h.same_modulus ∙ size.2 σ ∙ sym (h.value σ)), size.3)

pub size_of_rest : (p : Planned) (s : Sides) (t : Table) (count step n : ℕ) (rest : IndexedSum) → IsRest p.extended s t (taken_after p count) rest → p.uncounted + step ≡ count → HasSize (modulus_in t) (value_in t rest.sum) n →
    HasSizeAt p s step n
size_of_rest p s t count step n rest h is size =
    subst (λ i. HasSize (graphs.modulus p.extended) (value_of_taken p.extended s (taken_after p i)) n) (sym is) (size_same p s t count n rest h size)

-- no frontier before this one was above the budget, nor is this one
pub within_more : (p : Planned) (s : Sides) (t : Table) (budget count : ℕ) (rest : IndexedSum) → IsRest p.extended s t (taken_after p count) rest →
    (p.uncounted ≤ count → (n : ℕ) → HasSize (modulus_in t) (value_in t rest.sum) n → n ≤ budget) →
    ((i n : ℕ) → p.uncounted + i < count → HasSizeAt p s i n → n ≤ budget) → (i n : ℕ) → p.uncounted + i < count + 1 → HasSizeAt p s i n → n ≤ budget
within_more p s t budget count rest h here before i n low has =
    ⊎_elim
    (λ is. here (omega arith) n
    (size_back p s t count n rest h (subst (λ j. HasSize (graphs.modulus p.extended) (value_of_taken p.extended s (taken_after p j)) n) is has)))
    (λ ne. before i n (omega (arith, ne)) has) (cases_eq (p.uncounted + i) count)

pub is_passed : (p : Planned) (s : Sides) (t : Table) (budget count step n : ℕ) (rest : IndexedSum) → IsRest p.extended s t (taken_after p count) rest → p.uncounted + step ≡ count → count ≤ length p.steps →
    HasSize (modulus_in t) (value_in t rest.sum) n → budget < n → ((i k : ℕ) → p.uncounted + i < count → HasSizeAt p s i k → k ≤ budget) → IsPassed p s budget step n
is_passed p s t budget count step n rest h is low size above before = record {
  there = omega arith;
  above = above;
  has = size_of_rest p s t count step n rest h is size;
  first = λ i k lt has. before i k (omega arith) has;
}

-- the same of what may be there
pub may_be_passed : (p : Planned) (s : Sides) (t : Table) (budget count : ℕ) (at : Option (ℕ × ℕ)) (rest : IndexedSum) → IsRest p.extended s t (taken_after p count) rest → count ≤ length p.steps →
    IfSome at (λ r. p.uncounted + r.0 ≡ count) → IfSome at (λ r. budget < r.1) → IfSome at (λ r. HasSize (modulus_in t) (value_in t rest.sum) r.1) →
    ((i k : ℕ) → p.uncounted + i < count → HasSizeAt p s i k → k ≤ budget) → IfSome at (λ r. IsPassed p s budget r.0 r.1)
may_be_passed p s t budget count None rest h low is above size before = tt
may_be_passed p s t budget count (Some r) rest h low is above size before = is_passed p s t budget count r.0 r.1 rest h is low size above before

-- what the batches state in all is the specification minus the rest
total_at_end : (e : Extended) (s : Sides) (t : Table) (f : Taken) (rest : Sum) (g : Gathered) → modulus_in t ≡ graphs.modulus e → ((k : ℕ) → k < length e.graph.outputs → has f.added k ≡ true) → length f.eliminated ≤ length e.gates →
    HasEnded e s t f rest g → AreTotal e s t rest g
total_at_end e s t f rest g same all few h =
    let m = graphs.modulus e in
    let alone : (σ : Assignment) → (value_in t g.total σ + 0) % m ≡ gap e s f.added (value_in t rest) σ = λ σ.
    sym (ap (λ ps. (value_in t g.total σ + combined m (axioms e).live (scaled_parts t g.power ps) σ) % m) h.none) ∙ h.gathered.pending.sum σ in
    record {
      batches = h.gathered.batches;
      few = let low = h.few in omega arith;
      total = λ σ. sym (mod-mod (sum_of (modulus_in t) (monomials_in t g.total) σ) (modulus_in t)) ∙ ap (λ k. value_in t g.total σ % k) same ∙ ap (λ z. z % m) (omega arith) ∙
          alone σ ∙ (total_ends e s f.added (value_in t rest) all).0 σ;
    }

pub is_ended : (p : Planned) (s : Sides) (t0 t : Table) (budget : ℕ) (w : Walk) (last : Ended) → IsPlanned p → Extends t0 t → IsWalked p.extended s t0 (taken nothing p.steps) w → last.rest ≡ w.rest.sum →
    KeepsBudget p s budget → HasEnded p.extended s t (taken nothing p.steps) last.rest last.gathered → IsEndedWalk p s t budget last
is_ended p s t0 t budget w last plan grown h same within total = record {
  of = subst (IsOf t) (sym same) (stays t0 t w.rest.sum grown h.rest.of);
  last = λ σ. ap (λ r. value_in t r σ) same ∙ value_stays t0 t w.rest.sum σ grown h.rest.of ∙ h.rest.value σ ∙ sym (ap (λ ss. value_of_taken p.extended s (taken nothing ss) σ) (take-length p.steps));
  within = within;
  total = total_at_end p.extended s t (taken nothing p.steps) last.rest last.gathered (modulus_stays t0 t grown ∙ h.rest.same_modulus) plan.plan.last.all_columns (eliminated_few p.extended p.steps plan.plan.follow) total;
}
