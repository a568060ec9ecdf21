-- What a line leaves of the specification, and axioms that are known.
use Rattle.std.specs.Prelude.{◌≡◌, ℕ, zero, suc, ◌+◌, ◌*◌, ◌%◌, ◌<◌, ◌≤◌, Bool, true, false, ◌||◌, List, [], ◌∷◌, map, length, slice_get, slice_index_or, ◌==◌}
use Rattle.std.specs.declared.option.Option.TheVariants.{Some}
use Rattle.std.specs.List.{Contains}
use Rattle.std.proofs.Common.{refl, sym, ap, ap₂, subst, ◌∙◌, arith, eq-eqb}
use Rattle.std.proofs.Math.Nat.{mod-mod}
use Rattle.std.proofs.lemmas.List.Elements.{All-contains}
use Rattle.graph_core.specs.declared.literal.Lit.{Lit}
use Rattle.graph_core.specs.declared.gate.Gate.{Gate}
use Rattle.graph_core.specs.Graph.Literals.{variable_of}
use Rattle.graph_core.specs.Graph.Assignments.{bit, literal}
use Rattle.graph_core.specs.Graph.Extended.{Column, Extended, modulus}
use Rattle.algebra_core.specs.AlgebraLines.{IsLive, axioms, gate_axiom, value_of}
use Rattle.algebra_core.proofs.CallerLemmas.{difference_is}
use Rattle.graph_core.proofs.OfGraphs.CallerLemmas.{product_same, sum_same}
use Rattle.algebra_core.specs.Polynomials.{difference}
use Rattle.ripple_graft.specs.Extension.{IsExtension, IsReplaced, new_outputs}
use Rattle.frontier_core.specs.Sets.{has}
use Rattle.frontier_core.proofs.LineLemmas.{axioms_are_live}
use Rattle.ripple_graft.proofs.NewOutputs.{outputs_are_new}
use Rattle.gate_axioms.specs.Axioms.{IsGateAxiom, IsLiteralDifference}
use Rattle.poly_terms.specs.Tables.{Table, Sum, Extends, IsOf, modulus_in}
use Rattle.line_drafts.specs.declared.known.Known.{Known}
use Rattle.line_drafts.specs.Drafts.{IsAxiomOf}
use Rattle.line_drafts.proofs.OpenDrafts.{known_stays}

or_true : (b : Bool) → (b || true) ≡ true
or_true true = refl
or_true false = refl

pub lit_has : (ls : List Lit) (v i : ℕ) (d : Lit) → i < length ls → variable_of (slice_index_or ls i d) ≡ v → has (map variable_of ls) v ≡ true
lit_has [] v i d low e = absurd (omega arith)
lit_has (l ∷ ls) v zero d low e = ap (λ b. b || has (map variable_of ls) v) (eq-eqb (variable_of l) v e)
lit_has (l ∷ ls) v (suc i) d low e = ap (λ b. (variable_of l == v) || b) (lit_has ls v i d (omega arith) e) ∙ or_true (variable_of l == v)

-- what is left, taken from the specification again
pub taken_again : (m S T less : ℕ) → 0 < m → (less + 1) % m ≡ 0 → difference m S ((S + (less * T) % m) % m) ≡ T % m
taken_again m S T less some none =
    let inner : (T + (S + (less * T) % m) % m) % m ≡ (T + (S + less * T)) % m =
    sum_same m T T ((S + (less * T) % m) % m) (S + less * T) refl (mod-mod (S + (less * T) % m) m ∙ sum_same m S S ((less * T) % m) (less * T) refl (mod-mod (less * T) m)) in
    let apart : T + (S + less * T) ≡ S + (less + 1) * T = omega arith in
    let zero_product : ((less + 1) * T) % m ≡ (0 * T) % m = product_same m (less + 1) 0 T T (none ∙ sym (zero_mod m)) refl in
    let nothing : S + 0 * T ≡ S = omega arith in
    difference_is m S ((S + (less * T) % m) % m) T some
    (inner ∙ ap (λ n. n % m) apart ∙ sum_same m S S ((less + 1) * T) (0 * T) refl zero_product ∙ ap (λ n. n % m) nothing)
  where
    zero_mod : (m : ℕ) → 0 % m ≡ 0
    zero_mod m = omega arith

-- ---- axioms

pub axiom_stays : (e : Extended) (t0 t1 : Table) (k : Known) → Extends t0 t1 → IsAxiomOf e t0 k → IsAxiomOf e t1 k
axiom_stays e t0 t1 k grown h = record { known = known_stays t0 t1 (axioms e).live k grown h.known; low = h.low }

pub gate_known : (e : Extended) (t : Table) (x : Gate) (id : ℕ) (poly : Sum) → IsExtension e → modulus_in t ≡ modulus e → Contains e.gates x → id ≡ x.v → IsOf t poly → IsGateAxiom t poly x →
    IsAxiomOf e t (record { id = id; poly = poly })
gate_known e t x id poly made same is named of value_is =
    let law = (axioms_are_live e made).0 x is in
    let small = All-contains (λ y. y.v ≤ e.max) e.gates x made.gates_in_range is in
    subst (λ i. IsAxiomOf e t (record { id = i; poly = poly })) (sym named)
    (record {
      known = record {
        of = of;
        line = law.0;
        value = λ σ. value_is σ ∙ ap (λ m. (gate_axiom m x).value σ) same ∙ sym (law.1 σ);
      };
      low = omega (arith, small);
    })

same_Some : (x y : Lit) → Some x ≡ Some y → x ≡ y
same_Some x y e = cc

-- a replaced column's axiom is live, and states its old output minus its new one
pub column_known : (e : Extended) (t : Table) (k : ℕ) (o r : Lit) (id : ℕ) (poly : Sum) → IsExtension e → modulus_in t ≡ modulus e → IsReplaced e k → k < length e.graph.outputs →
    slice_get e.graph.outputs k ≡ Some o → slice_get (new_outputs e) k ≡ Some r → id ≡ e.max + 1 + k → IsOf t poly → IsLiteralDifference t poly o r → IsAxiomOf e t (record { id = id; poly = poly })
column_known e t k o r id poly made same replaced low old new named of value_is =
    let c : Column = replaced.1 in
    let is : Contains e.replaced c = (replaced.0, replaced.2, replaced.3) in
    let number : c.number ≡ k = replaced.4 in
    let law = (axioms_are_live e made).1 c is in
    let first : c.old ≡ o = same_Some c.old o (sym (All-contains (λ x. slice_get e.graph.outputs x.number ≡ Some x.old) e.replaced c made.replaced is) ∙ ap (slice_get e.graph.outputs) number ∙ old) in
    let second : c.new ≡ r = same_Some c.new r (sym (All-contains (λ x. slice_get (new_outputs e) x.number ≡ Some x.new) e.replaced c (outputs_are_new.replaced e made) is) ∙ ap (slice_get (new_outputs e)) number ∙ new) in
    let here : e.max + 1 + c.number ≡ id = ap (λ n. e.max + 1 + n) number ∙ sym named in
    record {
      known = record {
        of = of;
        line = subst (IsLive (axioms e).live) here law.0;
        value = λ σ.
            value_is σ ∙ ap (λ m. difference m (bit (literal σ o)) (bit (literal σ r))) same ∙
            sym (ap (λ i. value_of (axioms e).live i σ) (sym here) ∙ law.1 σ ∙ ap₂ (λ x y. difference (modulus e) (bit (literal σ x)) (bit (literal σ y))) first second);
      };
      low = omega (arith, named, low);
    }
