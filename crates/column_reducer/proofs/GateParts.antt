-- What is left of terms that all have a gate's variable.
use Rattle.std.specs.Prelude.{Bool, true, false, not, cond, ◌≡◌, ℕ, ◌+◌, ◌*◌, ◌%◌, ◌^◌, ◌<◌, ◌≤◌, List, [], ◌∷◌, map}
use Rattle.std.specs.List.{AllByRecursion}
use Rattle.std.proofs.Common.{refl, sym, ap, ap₂, subst, ◌∙◌, arith}
use Rattle.std.proofs.Math.Nat.{mod-mod, zero-mod}
use Rattle.std.proofs.lemmas.Nat.{pow_pos}
use Rattle.graph_core.specs.declared.gate.Gate.{Gate}
use Rattle.graph_core.specs.Graph.Assignments.{Assignment, bit, variable}
use Rattle.algebra_core.specs.AlgebraLines.{gate_axiom}
use Rattle.algebra_core.specs.Polynomials.{difference, product, sum_of}
use Rattle.algebra_core.proofs.CallerLemmas.{normal_forms_differ, difference_is, difference_plus}
use Rattle.graph_core.proofs.OfGraphs.CallerLemmas.{product_same, sum_same}
use Rattle.frontier_core.specs.Substitution.{gate_value}
use Rattle.frontier_core.proofs.Substituting.{quotient_splits}
use Rattle.poly_terms.specs.Entries.{total}
use Rattle.poly_terms.specs.Laws.{extends_itself, extends_on, modulus_stays, stays, value_stays}
use Rattle.poly_terms.specs.Monomials.{free_of, has_in, has_variable}
use Rattle.poly_terms.specs.Tables.{Table, Sum, Extends, IsOf, assigned, modulus_in, monomial_in, monomials_in, quotient_value, value_in, variables_in}
use Rattle.poly_terms.proofs.Assigned.{product-false}
use Rattle.poly_terms.proofs.Dividing.{rest-value}
use Rattle.poly_terms.proofs.Replacing.{free_of-IsOf}
use Rattle.poly_terms.proofs.Values.{normal, value-total}
use Rattle.column_reducer.specs.Gathering.{IsFixedAbove, IsGatePart}
use Rattle.column_reducer.proofs.Fixed.{fixed_over, over_fixed, over_same, quotient_fixed, same_fixed, variable_fixed}

-- ---- terms that all have a variable

-- a polynomial that is 0 everywhere has no terms
no_terms : (t : Table) (es : Sum) → IsOf t es → ((σ : Assignment) → value_in t es σ ≡ 0) → es ≡ []
unfolding monomials_in
no_terms t [] of none = refl
no_terms t (e ∷ es) of none = let some = normal_forms_differ (modulus_in t) (monomials_in t (e ∷ es)) (normal t (e ∷ es) of) (omega arith) in absurd (some.1 (none some.0))

all_have : (ms : List (List ℕ)) (v : ℕ) (es : Sum) → free_of ms v es ≡ [] → AllByRecursion (λ e. has_in ms v e ≡ true) es
all_have ms v [] none = tt
all_have ms v (e ∷ es) none = go (all_have ms v es) (has_in ms v e) refl
  where
    go : (free_of ms v es ≡ [] → AllByRecursion (λ x. has_in ms v x ≡ true) es) → (b : Bool) → has_in ms v e ≡ b → (has_in ms v e ≡ true) × AllByRecursion (λ x. has_in ms v x ≡ true) es
    go rest true is = (is, rest (ap (λ b. cond (not b) (e ∷ free_of ms v es) (free_of ms v es)) (sym is) ∙ none))
    go rest false is =
        let some : e ∷ free_of ms v es ≡ [] = ap (λ b. cond (not b) (e ∷ free_of ms v es) (free_of ms v es)) (sym is) ∙ none in
        absurd (cc)

-- those of the same monomials too
have_too : (t : Table) (v : ℕ) (p q : Sum) → map (λ y. y.variables) (monomials_in t q) ≡ map (λ y. y.variables) (monomials_in t p) → AllByRecursion (λ e. has_in t.monomials v e ≡ true) p →
    AllByRecursion (λ e. has_in t.monomials v e ≡ true) q
unfolding monomials_in
have_too t v p q same h = back q (subst (AllByRecursion (λ vs. has_variable v vs ≡ true)) (sym same) (forth p h))
  where
    forth : (es : Sum) → AllByRecursion (λ e. has_in t.monomials v e ≡ true) es → AllByRecursion (λ vs. has_variable v vs ≡ true) (map (λ y. y.variables) (map (monomial_in t) es))
    forth [] h = tt
    forth (e ∷ es) h = (h.0, forth es h.1)

    back : (es : Sum) → AllByRecursion (λ vs. has_variable v vs ≡ true) (map (λ y. y.variables) (map (monomial_in t) es)) → AllByRecursion (λ e. has_in t.monomials v e ≡ true) es
    back [] h = tt
    back (e ∷ es) h = (h.0, back es h.1)

total_zero : (t : Table) (v : ℕ) (σ : Assignment) (es : Sum) → 0 < v → AllByRecursion (λ e. has_in t.monomials v e ≡ true) es → total (λ k. product (assigned σ v false) (variables_in t k)) es ≡ 0
total_zero t v σ [] some h = refl
total_zero t v σ (e ∷ es) some h =
    omega (arith, ap (λ n. e.1 * n) (product-false σ v (variables_in t e.0) some h.0), total_zero t v σ es some h.1)

-- A polynomial that is 0 wherever a variable is false; so is one of the same monomials.
pub false_too : (t : Table) (v : ℕ) (p q : Sum) → 0 < v → IsOf t p → ((σ : Assignment) → value_in t p (assigned σ v false) ≡ 0) →
    map (λ y. y.variables) (monomials_in t q) ≡ map (λ y. y.variables) (monomials_in t p) → (σ : Assignment) → value_in t q (assigned σ v false) ≡ 0
false_too t v p q some of none same σ =
    let free = free_of t.monomials v p in
    let zero : (τ : Assignment) → value_in t free τ ≡ 0 = λ τ. rest-value t.exponent v t.monomials t t p p free free τ refl refl of refl refl (extends_itself t) some ∙ none τ in
    let all : AllByRecursion (λ e. has_in t.monomials v e ≡ true) p = all_have t.monomials v p (no_terms t free (free_of-IsOf t v p of) zero) in
    value-total t q (assigned σ v false) ∙ ap (λ n. n % modulus_in t) (total_zero t v σ q some (have_too t v p q same all)) ∙ zero-mod (modulus_in t)

-- ---- numbers modulo m

-- what is 0 with a sum, is the opposite of its other part
pub opposite_sum : (m a b : ℕ) → 0 < m → (a + b) % m ≡ 0 → difference m 0 b ≡ a % m
opposite_sum m a b pos none = difference_is m 0 b a pos (none ∙ sym (zero-mod m))

pub none_with : (m b : ℕ) → 0 < m → (difference m 0 b + b) % m ≡ 0
none_with m b pos = difference_plus m 0 b pos ∙ zero-mod m

-- w times a factor f, the opposite of b, is the opposite of w times b
minus_times : (m w f b q : ℕ) → 0 < m → (f + b) % m ≡ 0 → (w * b) % m ≡ q % m → (w * f) % m ≡ difference m 0 q
minus_times m w f b q pos none is =
    let all : (w * f + q) % m ≡ (w * (f + b)) % m = sum_same m (w * f) (w * f) q (w * b) refl (sym is) ∙ ap (λ n. n % m) (let e : w * f + w * b ≡ w * (f + b) = omega arith in e) in
    let zero : (w * (f + b)) % m ≡ (w * 0) % m = product_same m w w (f + b) 0 refl (none ∙ sym (zero-mod m)) in
    sym (opposite_sum m (w * f) q pos (all ∙ zero ∙ ap (λ n. n % m) (let e : w * 0 ≡ 0 = omega arith in e) ∙ zero-mod m))

-- the operands' product g times f, and the variable c times the opposite of f, are g - c times f
axiom_times : (m g c f b o d : ℕ) → 0 < m → (f + b) % m ≡ 0 → o % m ≡ (g * f) % m → d % m ≡ (c * b) % m → (o + d) % m ≡ (difference m g c * f) % m
axiom_times m g c f b o d pos none is_o is_d =
    let a = difference m g c in
    let zero : (c * (f + b)) % m ≡ (c * 0) % m = product_same m c c (f + b) 0 refl (none ∙ sym (zero-mod m)) in
    let first : (g * f) % m ≡ ((a + c) * f) % m = product_same m g (a + c) f f (sym (difference_plus m g c pos)) refl in
    sum_same m o ((a + c) * f) d (c * b) (is_o ∙ first) is_d ∙ ap (λ n. n % m) (let e : (a + c) * f + c * b ≡ a * f + c * (f + b) = omega arith in e) ∙
    sum_same m (a * f) (a * f) (c * (f + b)) (c * 0) refl zero ∙ ap (λ n. n % m) (let e : a * f + c * 0 ≡ a * f = omega arith in e)

-- ---- the part

-- A part is made of terms of t0 that are 0 where the gate's variable is false: these divided by 2^power, their quotient by the variable, and minus that.
module _ (t0 t1 t : Table) (x : Gate) (taken variables by factor operands : Sum) (power : ℕ) (first : Extends t0 t1) (second : Extends t1 t) (above : 0 < x.v)
    (of_taken : IsOf t0 taken) (of_variables : IsOf t0 variables) (of_by : IsOf t1 by) (of_factor : IsOf t1 factor) (of_operands : IsOf t operands)
    (all : (σ : Assignment) → value_in t0 taken (assigned σ x.v false) ≡ 0) (some : ((σ : Assignment) → value_in t0 taken σ ≡ 0) → ⊥)
    (divided : (σ : Assignment) → (2 ^ power * value_in t0 variables σ) % modulus_in t0 ≡ value_in t0 taken σ)
    (same : map (λ y. y.variables) (monomials_in t0 variables) ≡ map (λ y. y.variables) (monomials_in t0 taken))
    (by_is : (σ : Assignment) → value_in t1 by σ ≡ quotient_value t0 variables x.v σ)
    (factor_is : (σ : Assignment) → value_in t1 factor σ ≡ difference (modulus_in t1) 0 (value_in t1 by σ))
    (operands_are : (σ : Assignment) → value_in t operands σ ≡ (gate_value x σ * value_in t1 factor σ) % modulus_in t1) where
  pos : 0 < modulus_in t0
  pos = pow_pos t0.exponent

  small : (p : Sum) (σ : Assignment) → value_in t0 p σ % modulus_in t0 ≡ value_in t0 p σ
  small p σ = mod-mod (sum_of (modulus_in t0) (monomials_in t0 p) σ) (modulus_in t0)

  -- minus 0
  less_none : (p : Sum) (σ : Assignment) → value_in t0 p (assigned σ x.v false) ≡ 0 → quotient_value t0 p x.v σ ≡ value_in t0 p (assigned σ x.v true)
  less_none p σ none =
      let m = modulus_in t0 in
      let n = value_in t0 p (assigned σ x.v true) in
      ap (difference m n) none ∙ difference_is m n 0 n pos (ap (λ k. k % m) (let e : n + 0 ≡ n = omega arith in e)) ∙ small p (assigned σ x.v true)

  -- the variable times the quotient is the polynomial
  splits : (p : Sum) (σ : Assignment) → value_in t0 p (assigned σ x.v false) ≡ 0 → (bit (variable σ x.v) * quotient_value t0 p x.v σ) % modulus_in t0 ≡ value_in t0 p σ
  splits p σ none =
      let m = modulus_in t0 in
      let n = bit (variable σ x.v) * quotient_value t0 p x.v σ in
      ap (λ k. k % m) (let e : n ≡ n + 0 = omega arith in e) ∙ ap (λ k. (n + k) % m) (sym none) ∙ quotient_splits m x.v (value_in t0 p) σ pos above ∙ small p σ

  all_variables : (σ : Assignment) → value_in t0 variables (assigned σ x.v false) ≡ 0
  all_variables = false_too t0 x.v taken variables above of_taken all same

  same1 : modulus_in t1 ≡ modulus_in t0
  same1 = modulus_stays t0 t1 first

  -- the factor is minus the quotient
  none_left : (σ : Assignment) → (value_in t1 factor σ + quotient_value t0 variables x.v σ) % modulus_in t0 ≡ 0
  none_left σ =
      let m = modulus_in t0 in
      let q = quotient_value t0 variables x.v σ in
      ap (λ n. (n + q) % m) (factor_is σ ∙ ap₂ (λ k n. difference k 0 n) same1 (by_is σ)) ∙ none_with m q pos

  factor_now : (σ : Assignment) → value_in t factor σ ≡ value_in t1 factor σ
  factor_now σ = value_stays t1 t factor σ second of_factor

  minus_of : (σ : Assignment) → (2 ^ power * value_in t factor σ) % modulus_in t0 ≡ difference (modulus_in t0) 0 (quotient_value t0 taken x.v σ)
  minus_of σ =
      let m = modulus_in t0 in
      let w = 2 ^ power in
      let one : (w * quotient_value t0 variables x.v σ) % m ≡ quotient_value t0 taken x.v σ % m =
      ap (λ n. (w * n) % m) (less_none variables σ (all_variables σ)) ∙ divided (assigned σ x.v true) ∙ sym (small taken (assigned σ x.v true)) ∙ ap (λ n. n % m) (sym (less_none taken σ (all σ))) in
      ap (λ n. (w * n) % m) (factor_now σ) ∙ minus_times m w (value_in t1 factor σ) (quotient_value t0 variables x.v σ) (quotient_value t0 taken x.v σ) pos (none_left σ) one

  operands_of : (σ : Assignment) → value_in t operands σ ≡ (gate_value x σ * value_in t factor σ) % modulus_in t0
  operands_of σ = operands_are σ ∙ ap₂ (λ n k. (gate_value x σ * n) % k) (sym (factor_now σ)) same1

  product_of : (σ : Assignment) → (value_in t operands σ + value_in t variables σ) % modulus_in t0 ≡ ((gate_axiom (modulus_in t0) x).value σ * value_in t factor σ) % modulus_in t0
  product_of σ =
      let m = modulus_in t0 in
      let f = value_in t factor σ in
      let c = bit (variable σ x.v) in
      let q = quotient_value t0 variables x.v σ in
      let there : value_in t variables σ ≡ value_in t0 variables σ = value_stays t0 t variables σ (extends_on t0 t1 t first second) of_variables in
      axiom_times m (gate_value x σ) c f q (value_in t operands σ) (value_in t variables σ) pos
      (ap (λ n. (n + q) % m) (factor_now σ) ∙ none_left σ)
      (ap (λ n. n % m) (operands_of σ) ∙ mod-mod (gate_value x σ * f) m)
      (ap (λ n. n % m) (there ∙ sym (splits variables σ (all_variables σ))) ∙ mod-mod (c * q) m)

  some_quotient : ((σ : Assignment) → quotient_value t0 taken x.v σ ≡ 0) → ⊥
  some_quotient none =
      some (λ σ. sym (splits taken σ (all σ)) ∙ ap (λ n. (bit (variable σ x.v) * n) % modulus_in t0) (none σ) ∙
      ap (λ n. n % modulus_in t0) (let e : bit (variable σ x.v) * 0 ≡ 0 = omega arith in e) ∙ zero-mod (modulus_in t0))

  fixed_of : (max : ℕ) → x.v ≤ max → IsFixedAbove max (quotient_value t0 taken x.v) → IsFixedAbove max (value_in t factor)
  fixed_of max low fixed =
      let m = modulus_in t0 in
      let taken_fixed : IsFixedAbove max (value_in t0 taken) =
      same_fixed max (value_in t0 taken) (λ σ. (bit (variable σ x.v) * quotient_value t0 taken x.v σ) % m) (λ σ. sym (splits taken σ (all σ)))
      (λ v b σ over. ap₂ (λ c n. (bit c * n) % m) (variable_fixed max x.v v b σ over low) (fixed v b σ over)) in
      let variables_fixed = fixed_over max t0 variables (over_same max t0 taken variables of_variables same (over_fixed max t0 taken of_taken taken_fixed)) in
      same_fixed max (value_in t factor) (λ σ. difference m 0 (quotient_value t0 variables x.v σ))
      (λ σ. factor_now σ ∙ factor_is σ ∙ ap₂ (λ k n. difference k 0 n) same1 (by_is σ))
      (λ v b σ over. ap (difference m 0) (quotient_fixed max m x.v (value_in t0 variables) low variables_fixed v b σ over))

  pub part_made : IsGatePart (modulus_in t0) t x (quotient_value t0 taken x.v) (record { power = power; factor = factor; operands = operands; variable = variables })
  part_made = record {
    of = record {
      factor = stays t1 t factor second of_factor;
      operands = of_operands;
      variable = stays t0 t variables (extends_on t0 t1 t first second) of_variables;
    };
    minus = minus_of;
    nonzero = some_quotient;
    operands = operands_of;
    product = product_of;
    fixed = fixed_of;
  }
