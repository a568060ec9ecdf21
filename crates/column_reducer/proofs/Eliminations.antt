-- A gate taken out of a polynomial.
use Rattle.std.specs.Prelude.{Bool, true, false, cond, ◌≡◌, ◌==◌, ℕ, ◌+◌, ◌*◌, ◌%◌, ◌^◌, ◌<◌}
use Rattle.std.specs.declared.option.Option.TheVariants.{None, Some}
use Rattle.std.proofs.Common.{refl, sym, ap, ap₂, subst, ◌∙◌, arith}
use Rattle.std.proofs.Math.Nat.{mod-mod, zero-mod}
use Rattle.std.proofs.Math.Path.{fun_ext}
use Rattle.std.proofs.lemmas.Nat.{pow_pos}
use Rattle.graph_core.specs.declared.gate.Gate.{Gate}
use Rattle.graph_core.specs.Graph.Assignments.{Assignment}
use Rattle.algebra_core.specs.Polynomials.{difference, sum_of}
use Rattle.graph_core.proofs.OfGraphs.CallerLemmas.{product_same, sum_same}
use Rattle.algebra_core.proofs.CallerLemmas.{difference_is, difference_same}
use Rattle.poly_terms.specs.Indexed.{IndexedSum, IsIndexed}
use Rattle.poly_terms.specs.Tables.{Table, Sum, Extends, IsOf, assigned, modulus_in, monomials_in, quotient_value, value_in}
use Rattle.poly_terms.specs.Laws.{modulus_stays, value_stays}
use Rattle.frontier_core.specs.Substitution.{gate_value, quotient}
use Rattle.column_reducer.specs.declared.gate_part.GatePart.{GatePart}
use Rattle.column_reducer.specs.Gathering.{IsEliminated, IsGatePart}
use Rattle.column_reducer.proofs.GateParts.{none_with, opposite_sum}

-- ---- what is taken out

false_twice : (v : ℕ) (σ : Assignment) → assigned (assigned σ v false) v false ≡ assigned σ v false
false_twice v σ = fun_ext (λ u. go (u == v) (σ u))
  where
    go : (b c : Bool) → cond b false (cond b false c) ≡ cond b false c
    go true c = refl
    go false c = refl

-- what is taken is 0 where the variable is false
pub taken_false : (t : Table) (v : ℕ) (p taken left : Sum) → ((σ : Assignment) → value_in t left σ ≡ value_in t p (assigned σ v false)) →
    ((σ : Assignment) → value_in t p σ ≡ (value_in t left σ + value_in t taken σ) % modulus_in t) → (σ : Assignment) → value_in t taken (assigned σ v false) ≡ 0
taken_false t v p taken left left_is sum σ =
    let m = modulus_in t in
    let τ : Assignment = assigned σ v false in
    let a = value_in t p τ in
    let x = value_in t taken τ in
    let same : value_in t left τ ≡ a = left_is τ ∙ ap (value_in t p) (false_twice v σ) in
    let twice : (x + a) % m ≡ a % m =
    ap (λ n. n % m) (let e : x + a ≡ a + x = omega arith in e) ∙ sym (sum τ ∙ ap (λ n. (n + x) % m) same) ∙ sym (mod-mod (sum_of m (monomials_in t p) τ) m) in
    sym (mod-mod (sum_of m (monomials_in t taken) τ) m) ∙ sym (difference_is m a a x (pow_pos t.exponent) twice) ∙ difference_same m a (pow_pos t.exponent)

-- ---- what is put back

-- c is minus w, and w times f minus q: so c times g times f is g times q
turned_product : (m w c f q g o : ℕ) → 0 < m → (c + w) % m ≡ 0 → (w * f) % m ≡ difference m 0 q → o % m ≡ (g * f) % m → (c * o) % m ≡ (g * q) % m
turned_product m w c f q g o pos opposite minus is =
    let y = w * (g * f) in
    let none : ((c + w) * (g * f)) % m ≡ (0 * (g * f)) % m = product_same m (c + w) 0 (g * f) (g * f) (opposite ∙ sym (zero-mod m)) refl in
    let first : (c * (g * f) + y) % m ≡ 0 = ap (λ n. n % m) (let e : c * (g * f) + y ≡ (c + w) * (g * f) = omega arith in e) ∙ none ∙ ap (λ n. n % m) (let e : 0 * (g * f) ≡ 0 = omega arith in e) ∙ zero-mod m in
    let turned : (w * f + q) % m ≡ 0 = sum_same m (w * f) (difference m 0 q) q q (sym (mod-mod (w * f) m) ∙ ap (λ n. n % m) minus) refl ∙ none_with m q pos in
    let second : (g * q + y) % m ≡ 0 =
    ap (λ n. n % m) (let e : g * q + y ≡ g * (w * f + q) = omega arith in e) ∙ product_same m g g (w * f + q) 0 refl (turned ∙ sym (zero-mod m)) ∙
    ap (λ n. n % m) (let e : g * 0 ≡ 0 = omega arith in e) ∙ zero-mod m in
    product_same m c c o (g * f) refl is ∙ sym (opposite_sum m (c * (g * f)) y pos first) ∙ opposite_sum m (g * q) y pos second

part_same : (m : ℕ) (t : Table) (x : Gate) (f g : Assignment → ℕ) (p : GatePart) → ((σ : Assignment) → f σ ≡ g σ) → IsGatePart m t x f p → IsGatePart m t x g p
part_same m t x f g p is h = subst (λ (k : Assignment → ℕ). IsGatePart m t x k p) (fun_ext is) h

-- the terms with the variable, taken out and put back with the product in its place
pub eliminated_of : (t0 t1 : Table) (x : Gate) (p taken : Sum) (left next : IndexedSum) (part : GatePart) (c : ℕ) → Extends t0 t1 → IsOf t0 left.sum → IsOf t1 next.sum → IsIndexed t1 next →
    ((σ : Assignment) → value_in t0 left.sum σ ≡ value_in t0 p (assigned σ x.v false)) → ((σ : Assignment) → quotient_value t0 taken x.v σ ≡ quotient_value t0 p x.v σ) →
    IsGatePart (modulus_in t0) t1 x (quotient_value t0 taken x.v) part → (c + 2 ^ part.power) % modulus_in t1 ≡ 0 →
    ((σ : Assignment) → value_in t1 next.sum σ ≡ (value_in t1 left.sum σ + (c * value_in t1 part.operands σ) % modulus_in t1) % modulus_in t1) → IsEliminated t0 t1 x p next (Some part)
eliminated_of t0 t1 x p taken left next part c grown of_left of_next indexed left_is same is_part opposite next_is =
    let m = modulus_in t0 in
    let m1 : modulus_in t1 ≡ m = modulus_stays t0 t1 grown in
    record {
      of = of_next;
      indexed = indexed;
      value = λ σ.
          let free = value_in t0 p (assigned σ x.v false) in
          let g = gate_value x σ in
          let f = value_in t1 part.factor σ in
          let o = value_in t1 part.operands σ in
          let q = quotient_value t0 p x.v σ in
          let back : (c * o) % m ≡ (g * q) % m =
          turned_product m (2 ^ part.power) c f q g o (pow_pos t0.exponent) (ap (λ n. (c + 2 ^ part.power) % n) (sym m1) ∙ opposite) (is_part.minus σ ∙ ap (difference m 0) (same σ))
          (ap (λ n. n % m) (is_part.operands σ) ∙ mod-mod (g * f) m) in
          next_is σ ∙ ap₂ (λ a k. a % k) (ap₂ ◌+◌ (value_stays t0 t1 left.sum σ grown of_left ∙ left_is σ) (ap (λ k. (c * o) % k) m1)) m1 ∙
          sum_same m free free ((c * o) % m) (g * q) refl (mod-mod (c * o) m ∙ back);
      left = part_same m t1 x (quotient_value t0 taken x.v) (quotient m x.v (value_in t0 p)) part same is_part;
    }

-- no term has the variable
pub eliminated_none : (t : Table) (x : Gate) (p taken : Sum) (left : IndexedSum) → IsOf t left.sum → IsIndexed t left → ((σ : Assignment) → value_in t left.sum σ ≡ value_in t p (assigned σ x.v false)) →
    ((σ : Assignment) → quotient_value t taken x.v σ ≡ quotient_value t p x.v σ) → ((σ : Assignment) → value_in t taken σ ≡ 0) → IsEliminated t t x p left None
eliminated_none t x p taken left of indexed left_is same none =
    let m = modulus_in t in
    let zero : (σ : Assignment) → quotient_value t p x.v σ ≡ 0 = λ σ.
    sym (same σ) ∙ ap₂ (difference m) (none (assigned σ x.v true)) (none (assigned σ x.v false)) ∙ difference_same m 0 (pow_pos t.exponent) in
    record {
      of = of;
      indexed = indexed;
      value = λ σ.
          left_is σ ∙
          sym
          (ap (λ b. (value_in t p (assigned σ x.v false) + gate_value x σ * b) % m) (zero σ) ∙ ap (λ z. z % m) (omega arith) ∙
          mod-mod (sum_of m (monomials_in t p) (assigned σ x.v false)) m);
      left = zero;
    }
