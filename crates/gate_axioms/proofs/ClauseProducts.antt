-- The product that is a clause's polynomial, literal by literal, and where it is 0.
use Rattle.std.specs.Prelude.{◌≡◌, ℕ, suc, ◌*◌, ◌%◌, ◌+◌, ◌<◌, ◌≤◌, ◌||◌, Bool, true, false, not, ℤ, pos, negsuc, [], ◌∷◌, length, drop}
use Rattle.std.proofs.Common.{refl, sym, ap, ap₂, ◌∙◌, arith, get_or, drop-cons, drop_of_length-le, mul-one, one-mul, mul_assoc}
use Rattle.std.proofs.Math.Nat.{mod-mod, zero-mod}
use Rattle.std.proofs.lemmas.Nat.{mul-mod_first, mul-mod_second}
use Rattle.clause_core.specs.Clause.{Clause, holds, signed}
use Rattle.clause_core.proofs.CallerLemmas.{subset_holds}
use Rattle.graph_core.specs.declared.literal.Lit.{Lit}
use Rattle.graph_core.specs.Graph.Assignments.{Assignment, HasBound, bit, literal, variable}
use Rattle.graph_core.proofs.OfGraphs.CallerLemmas.{literal-inverted, literal-plain, product_same}
use Rattle.algebra_core.proofs.Support.{bound_constant, bound_of, bound_of_two, bound_variable}
use Rattle.poly_terms.specs.Tables.{Table, Sum, IsOf, Extends, modulus_in, value_in}
use Rattle.poly_terms.specs.Laws.{modulus_stays, value_stays}
use Rattle.gate_axioms.specs.ClauseValues.{ClauseValues, IsClausePoly, clause_value, opposite}
use Rattle.gate_axioms.specs.Form.{HasPolyValue}

-- ---- the value by whether the clause holds

nor_is : (a b : Bool) → bit (not a) * bit (not b) ≡ bit (not (a || b))
nor_is true true = refl
nor_is true false = refl
nor_is false true = refl
nor_is false false = refl

pub value_is : (c : Clause) (σ : Assignment) → clause_value c σ ≡ bit (not (holds σ c))
value_is [] σ = refl
value_is (l ∷ ls) σ = ap (λ n. bit (not (signed σ l)) * n) (value_is ls σ) ∙ nor_is (signed σ l) (holds σ ls)

vanishing : (c : Clause) (σ : Assignment) → holds σ c ≡ true → clause_value c σ ≡ 0
vanishing c σ h = value_is c σ ∙ ap (λ b. bit (not b)) h

same_bools : (a b : Bool) → (a ≡ true → b ≡ true) → (b ≡ true → a ≡ true) → a ≡ b
same_bools true b f g = sym (f refl)
same_bools false true f g = g refl
same_bools false false f g = refl

bound_signed : (l : ℤ) → HasBound (λ σ. signed σ l)
bound_signed (pos v) = bound_variable v
bound_signed (negsuc v) = bound_of not (λ σ. variable σ (suc v)) (bound_variable (suc v))

bound_clause : (c : Clause) → HasBound (clause_value c)
bound_clause [] = bound_constant 1
bound_clause (l ∷ ls) = bound_of_two (λ b n. bit (not b) * n) (λ σ. signed σ l) (clause_value ls) (bound_signed l) (bound_clause ls)

pub clause_values : ClauseValues
clause_values = record {
  vanish = vanishing;
  by_set = λ c d σ same. value_is c σ ∙ ap (λ b. bit (not b)) (same_bools (holds σ c) (holds σ d) (subset_holds c d σ same.0) (subset_holds d c σ same.1)) ∙ sym (value_is d σ);
  bounded = bound_clause;
  polys_vanish = λ t p c σ is h. is σ ∙ ap (λ n. n % modulus_in t) (vanishing c σ h) ∙ zero-mod (modulus_in t);
}

-- ---- one literal

pub opposite_is : (l : ℤ) (σ : Assignment) → literal σ (opposite l) ≡ not (signed σ l)
opposite_is (pos v) σ = literal-inverted σ v
opposite_is (negsuc v) σ = literal-plain σ (suc v) ∙ twice (variable σ (suc v))
  where
    twice : (b : Bool) → b ≡ not (not b)
    twice true = refl
    twice false = refl

pub literal_has : (t : Table) (p : Sum) (n : ℕ) (lit : Lit) → n ≡ 1 → HasPolyValue t p (λ σ. n * bit (literal σ lit)) → HasPolyValue t p (λ σ. bit (literal σ lit))
literal_has t p n lit one has = record { value = λ σ. has.value σ ∙ ap (λ x. x % modulus_in t) (ap (λ k. k * bit (literal σ lit)) one ∙ one-mul (bit (literal σ lit))) }

-- a product with the opposite of one literal
pub literal_joins : (t u : Table) (p q : Sum) (l : ℤ) (lit : Lit) (n : ℕ) (σ : Assignment) → Extends t u → IsOf t p → lit ≡ opposite l → HasPolyValue u q (λ τ. bit (literal τ lit)) →
    n ≡ (value_in u p σ * value_in u q σ) % modulus_in u → n ≡ (value_in t p σ * bit (not (signed σ l))) % modulus_in t
literal_joins t u p q l lit n σ grown of lit_is has is =
    let b = bit (not (signed σ l)) in
    let factor : value_in u q σ ≡ b % modulus_in u = has.value σ ∙ ap (λ k. bit (literal σ k) % modulus_in u) lit_is ∙ ap (λ t. bit t % modulus_in u) (opposite_is l σ) in
    is ∙ ap₂ (λ x y. (x * y) % modulus_in u) (value_stays t u p σ grown of) factor ∙ mul-mod_second (value_in t p σ) b (modulus_in u) ∙ ap (λ m. (value_in t p σ * b) % m) (modulus_stays t u grown)

-- ---- the loop

-- The polynomial and the literals that are left give the clause's value.
pub record IsProductSoFar (start t : Table) (p : Sum) (c : Clause) (i : ℕ) : Type 0 where
  pub of_table : IsOf t p
  pub grown : Extends start t
  pub value : (σ : Assignment) → (value_in t p σ * clause_value (drop i c) σ) % modulus_in t ≡ clause_value c σ % modulus_in t

pub product_starts : (start t : Table) (p : Sum) (c : Clause) → Extends start t → IsOf t p → HasPolyValue t p (λ σ. bit (literal σ (record { 0 = 1 }))) → IsProductSoFar start t p c 0
product_starts start t p c grown of has = record {
  of_table = of;
  grown = grown;
  value = λ σ. product_same (modulus_in t) (value_in t p σ) 1 (clause_value c σ) (clause_value c σ) (ap (λ n. n % modulus_in t) (has.value σ) ∙ mod-mod 1 (modulus_in t)) refl ∙ ap (λ n. n % modulus_in t) (one-mul (clause_value c σ));
}

pub product_goes_on : (start t u : Table) (p r : Sum) (c : Clause) (i : ℕ) (d : ℤ) → i < length c → Extends start u → Extends t u → IsOf u r →
    ((σ : Assignment) → value_in u r σ ≡ (value_in t p σ * bit (not (signed σ (get_or c i d)))) % modulus_in t) → IsProductSoFar start t p c i → IsProductSoFar start u r c (i + 1)
product_goes_on start t u p r c i d below grown on of is h = record {
  of_table = of;
  grown = grown;
  value = λ σ.
      let l = get_or c i d in
      let next : suc i ≡ i + 1 = omega arith in
      let first : drop i c ≡ l ∷ drop (i + 1) c = drop-cons c i d below ∙ ap (λ n. l ∷ drop n c) next in
      let x = value_in t p σ in
      let b = bit (not (signed σ l)) in
      let rest = clause_value (drop (i + 1) c) σ in
      let m = modulus_in t in
      let step : ((x * b) % m * rest) % m ≡ (x * (b * rest)) % m = mul-mod_first (x * b) rest m ∙ ap (λ n. n % m) (mul_assoc x b rest) in
      let same = modulus_stays t u on in
      ap (λ n. (value_in u r σ * rest) % n) same ∙ ap (λ n. (n * rest) % m) (is σ) ∙ step ∙ ap (λ ls. (x * clause_value ls σ) % m) (sym first) ∙ h.value σ ∙ ap (λ n. clause_value c σ % n) (sym same);
}

pub product_ends : (start t : Table) (p : Sum) (c : Clause) (i : ℕ) → length c ≤ i → IsProductSoFar start t p c i → IsClausePoly t p c
product_ends start t p c i far h σ =
    reduced ∙ ap (λ n. n % modulus_in t) (sym (mul-one (value_in t p σ))) ∙ ap (λ ls. (value_in t p σ * clause_value ls σ) % modulus_in t) (sym (drop_of_length-le c {i = i} far)) ∙ h.value σ
  where
    reduced : value_in t p σ ≡ value_in t p σ % modulus_in t
    reduced = sym (mod-mod _ (modulus_in t))
