-- The values of the polynomials of forms.
use Rattle.std.proofs.Common.{◌≡◌, ℕ, ◌+◌, ◌*◌, ◌%◌, ◌^◌, [], refl, sym, ap, ap₂, subst, ◌∙◌, arith, one-mul, mul_comm}
use Rattle.std.proofs.Math.Nat.{mod-mod, mod-add-mod}
use Rattle.std.proofs.lemmas.Nat.{pow_pos}
use Rattle.graph_core.specs.declared.literal.Lit.{Lit}
use Rattle.graph_core.specs.declared.gate.Gate.{Gate}
use Rattle.graph_core.specs.Graph.Assignments.{Assignment, variable, bit, literal, word}
use Rattle.graph_core.specs.Graph.{Aig}
use Rattle.graph_core.specs.Graph.Extended.{without_cut, modulus as modulus_of}
use Rattle.graph_core.specs.Graph.Operands.{Sides, claimed, operand_word}
use Rattle.algebra_core.specs.AlgebraLines.{gate_axiom}
use Rattle.algebra_core.specs.Polynomials.{Polynomial, sum_of, value, difference}
use Rattle.frontier_core.specs.Substitution.{gate_value}
use Rattle.graph_core.proofs.OfGraphs.CallerLemmas.{plus_word_is, product_same}
use Rattle.poly_terms.specs.Tables.{Table, Sum, modulus_in, value_in, IsOf, Extends}
use Rattle.poly_terms.specs.Laws.{modulus_stays, value_stays, extends_on}
use Rattle.gate_axioms.specs.Axioms.{HasSpecificationValue}
use Rattle.gate_axioms.specs.Form.{AddsNumber, HasFormValue, HasPolyValue}
use Rattle.gate_axioms.proofs.Opposites.{opposite_difference, sum_with_product_same}

-- A form with this value at each assignment, modulo a number.
pub record FormHas (m : ℕ) (form : Polynomial) (f : Assignment → ℕ) : Type 0 where
  pub value : (σ : Assignment) → value m form σ % m ≡ f σ % m

-- a form that began as nothing has what was added to it
pub form_has : (t : Table) (w : ℕ) (start form : Polynomial) (f : Assignment → ℕ) → w ≡ t.exponent → start ≡ [] → AddsNumber w start form f → FormHas (modulus_in t) form f
form_has t w start form f width none adds = subst (λ k. FormHas (2 ^ k) form f) width (record {
  value = λ σ.
      let m = 2 ^ w in
      ap (λ n. n % m) (adds.sum σ) ∙ mod-mod (value m start σ + f σ) m ∙ ap (λ ps. (value m ps σ + f σ) % m) none ∙ mod-add-mod 0 m (f σ) ∙ ap (λ n. n % m) (omega arith);
})

-- so has its polynomial in a table that extends
pub poly_has : (old new : Table) (p : Sum) (form : Polynomial) (f : Assignment → ℕ) → Extends old new → HasPolyValue new p (value (modulus_in old) form) → FormHas (modulus_in old) form f → HasPolyValue new p f
poly_has old new p form f grown has is = record { value = λ σ. has.value σ ∙ subst (λ m. value (modulus_in old) form σ % m ≡ f σ % m) (sym (modulus_stays old new grown)) (is.value σ) }

-- three polynomials made one after the other, and the first with the product of the others
pub combined_has : (t0 t1 t2 t3 t4 : Table) (sum left right : Polynomial) (a b c p : Sum) → Extends t0 t1 → Extends t1 t2 → Extends t2 t3 → Extends t3 t4 → IsOf t1 a → IsOf t2 b →
    HasPolyValue t1 a (value (modulus_in t0) sum) → HasPolyValue t2 b (value (modulus_in t1) left) → HasPolyValue t3 c (value (modulus_in t2) right) →
    ((σ : Assignment) → value_in t4 p σ ≡ (value_in t3 a σ + value_in t3 b σ * value_in t3 c σ) % modulus_in t3) →
    HasPolyValue t4 p (λ σ. value (modulus_in t0) sum σ + value (modulus_in t0) left σ * value (modulus_in t0) right σ)
combined_has t0 t1 t2 t3 t4 sum left right a b c p e1 e2 e3 e4 a_of b_of a_is b_is c_is is = record {
  value = λ σ.
      let m = modulus_in t0 in
      let m1 : modulus_in t1 ≡ m = modulus_stays t0 t1 e1 in
      let m2 : modulus_in t2 ≡ m = modulus_stays t1 t2 e2 ∙ m1 in
      let m3 : modulus_in t3 ≡ m = modulus_stays t2 t3 e3 ∙ m2 in
      let first : value_in t3 a σ ≡ value m sum σ % m = value_stays t1 t3 a σ (extends_on t1 t2 t3 e2 e3) a_of ∙ a_is.value σ ∙ ap (λ k. value m sum σ % k) m1 in
      let second : value_in t3 b σ ≡ value m left σ % m = value_stays t2 t3 b σ e3 b_of ∙ b_is.value σ ∙ ap₂ (λ j k. value j left σ % k) m1 m2 in
      let third : value_in t3 c σ ≡ value m right σ % m = c_is.value σ ∙ ap₂ (λ j k. value j right σ % k) m2 m3 in
      is σ ∙ ap (λ k. (value_in t3 a σ + value_in t3 b σ * value_in t3 c σ) % k) m3 ∙
      sum_with_product_same m (value_in t3 a σ) (value_in t3 b σ) (value_in t3 c σ) (value m sum σ) (value m left σ) (value m right σ)
      (ap (λ n. n % m) first ∙ mod-mod (value m sum σ) m) (ap (λ n. n % m) second ∙ mod-mod (value m left σ) m) (ap (λ n. n % m) third ∙ mod-mod (value m right σ) m) ∙
      ap (λ k. (value m sum σ + value m left σ * value m right σ) % k) (sym (modulus_stays t3 t4 e4 ∙ m3));
}

-- the same, by what the forms have
pub sum_with_product_has : (old new : Table) (p : Sum) (sum left right : Polynomial) (f g h : Assignment → ℕ) → Extends old new →
    FormHas (modulus_in old) sum f → FormHas (modulus_in old) left g → FormHas (modulus_in old) right h →
    HasPolyValue new p (λ σ. value (modulus_in old) sum σ + value (modulus_in old) left σ * value (modulus_in old) right σ) → HasPolyValue new p (λ σ. f σ + g σ * h σ)
sum_with_product_has old new p sum left right f g h grown first second third has = record {
  value = λ σ.
      let m = modulus_in old in
      let all = value m sum σ + value m left σ * value m right σ in
      has.value σ ∙
      subst (λ k. all % k ≡ (f σ + g σ * h σ) % k) (sym (modulus_stays old new grown))
      (sum_with_product_same m (value m sum σ) (value m left σ) (value m right σ) (f σ) (g σ) (h σ) (first.value σ) (second.value σ) (third.value σ));
}

-- a value up to an opposite of 1 is a difference
difference_from : (old new : Table) (p : Sum) (o x y : ℕ) (f : Assignment → ℕ) (σ : Assignment) → Extends old new → (o + 1) % modulus_in old ≡ 0 → HasPolyValue new p f → f σ ≡ x + o * y →
    value_in new p σ ≡ difference (modulus_in new) x y
difference_from old new p o x y f σ grown opposite has is =
    has.value σ ∙ opposite_difference (modulus_in new) x y (f σ) o (pow_pos new.exponent) (ap (λ m. (o + 1) % m) (modulus_stays old new grown) ∙ opposite) (ap (λ n. n % modulus_in new) is)

-- and a form's
form_difference : (t : Table) (form : Polynomial) (o x y : ℕ) (f : Assignment → ℕ) (σ : Assignment) → (o + 1) % modulus_in t ≡ 0 → FormHas (modulus_in t) form f → f σ ≡ x + o * y → value (modulus_in t) form σ ≡ difference (modulus_in t) x y
form_difference t form o x y f σ opposite has is =
    let m = modulus_in t in
    sym (mod-mod (sum_of m form σ) m) ∙ has.value σ ∙ opposite_difference m x y (f σ) o (pow_pos t.exponent) opposite (ap (λ n. n % m) is)

pub literals_have : (t : Table) (form : Polynomial) (n o : ℕ) (left right : Lit) → n ≡ 1 → (o + 1) % modulus_in t ≡ 0 → FormHas (modulus_in t) form (λ σ. n * bit (literal σ left) + o * bit (literal σ right)) →
    HasFormValue (modulus_in t) form (λ σ. difference (modulus_in t) (bit (literal σ left)) (bit (literal σ right)))
literals_have t form n o left right one opposite has σ =
    form_difference t form o (bit (literal σ left)) (bit (literal σ right)) _ σ opposite has (ap (λ k. k * bit (literal σ left) + o * bit (literal σ right)) one ∙ omega arith)

pub gate_has : (t : Table) (form : Polynomial) (gate : Gate) (o n : ℕ) → (o + 1) % modulus_in t ≡ 0 → n ≡ 1 →
    FormHas (modulus_in t) form (λ σ. o * bit (variable σ gate.v) + n * (bit (literal σ gate.left) * bit (literal σ gate.right))) → HasFormValue (modulus_in t) form (gate_axiom (modulus_in t) gate).value
gate_has t form gate o n opposite one has σ =
    let l = bit (literal σ gate.left) in
    let r = bit (literal σ gate.right) in
    let v = bit (variable σ gate.v) in
    form_difference t form o (l * r) v _ σ opposite has (ap (λ j. o * v + j * (l * r)) one ∙ omega arith)

-- the polynomial of a form has its value
pub made_has : (old new : Table) (p : Sum) (form : Polynomial) (f : ℕ → Assignment → ℕ) → Extends old new → HasPolyValue new p (value (modulus_in old) form) → HasFormValue (modulus_in old) form (f (modulus_in old)) →
    (σ : Assignment) → value_in new p σ ≡ f (modulus_in new) σ
made_has old new p form f grown has is σ =
    let m = modulus_in old in
    let same : modulus_in new ≡ m = modulus_stays old new grown in
    has.value σ ∙ ap (λ k. value m form σ % k) same ∙ mod-mod (sum_of m form σ) m ∙ is σ ∙ ap (λ k. f k σ) (sym same)

-- a number times the product of a gate's operands
pub times_has : (t : Table) (form : Polynomial) (gate : Gate) (n x : ℕ) (σ : Assignment) → n ≡ 1 →
    FormHas (modulus_in t) form (λ σ. n * (bit (literal σ gate.left) * bit (literal σ gate.right))) → (x * value (modulus_in t) form σ) % modulus_in t ≡ (gate_value gate σ * x) % modulus_in t
times_has t form gate n x σ one has =
    let m = modulus_in t in
    let g = gate_value gate σ in
    let is : value m form σ % m ≡ g % m = has.value σ ∙ ap (λ k. k % m) (ap (λ j. j * g) one ∙ one-mul g) in
    product_same m x x (value m form σ) g refl is ∙ ap (λ k. k % m) (mul_comm x g)

pub specification_has : (old new : Table) (p : Sum) (g : Aig) (s : Sides) (o n : ℕ) → modulus_in old ≡ modulus_of (without_cut g) → Extends old new →
    (o + 1) % modulus_in old ≡ 0 → n ≡ 1 →
    HasPolyValue new p (λ σ. (n * word σ g.outputs + o * word σ s.c) + (o * operand_word (modulus_in old) s.claim.sign σ s.a) * (n * operand_word (modulus_in old) s.claim.sign σ s.b)) →
    HasSpecificationValue new p (without_cut g) s
specification_has old new p g s o n same grown opposite one has σ =
    let out = word σ g.outputs in
    let a = operand_word (modulus_in old) s.claim.sign σ s.a in
    let b = operand_word (modulus_in old) s.claim.sign σ s.b in
    let c = word σ s.c in
    difference_from old new p o out (a * b + c) _ σ grown opposite has (ap (λ i. (i * out + o * c) + (o * a) * (i * b)) one ∙ gathered out o c a b) ∙
    ap (λ m. difference m out (a * b + c)) (modulus_stays old new grown) ∙ ap (difference (modulus_in old) out) (sym (plus_word_is (a * b) σ s.c)) ∙
    ap (λ m. difference m out (claimed m s σ)) same
  where
    gathered : (w o c a b : ℕ) → (1 * w + o * c) + (o * a) * (1 * b) ≡ w + o * (a * b + c)
    gathered w o c a b = omega arith
