-- A polynomial split by a variable.
use Rattle.std.specs.Prelude.{◌≡◌, ◌≢◌, ℕ, ◌+◌, ◌*◌, ◌%◌, Bool, true, false, not, cond, List, [], ◌∷◌, ◌==◌}
use Rattle.std.specs.List.{AllByRecursion}
use Rattle.std.proofs.Common.{refl, sym, ap, ap₂, subst, ◌∙◌, arith, ⊎_elim, eqb-true, ne_eqb, true≢false}
use Rattle.std.proofs.Math.Nat.{mod-mod}
use Rattle.std.proofs.lemmas.Bool.{cases_Bool, eqb-false, or_parts, or_cases, or_from}
use Rattle.std.proofs.lemmas.List.Elements.{recursion_from_All}
use Rattle.graph_core.specs.Graph.Assignments.{Assignment, variable, bit}
use Rattle.algebra_core.specs.Polynomials.{Polynomial, product, sum_of, value, difference}
use Rattle.graph_core.proofs.OfGraphs.CallerLemmas.{variable_same, variable-pos}
use Rattle.algebra_core.proofs.CallerLemmas.{difference_is}
use Rattle.frontier_core.specs.Sets.{has, without}
use Rattle.frontier_core.specs.Frontier.{set_to}
use Rattle.frontier_core.specs.Substitution.{quotient, IsFreeOf, SplittingSubstitutes, VariableIsTakenOut}
use Rattle.frontier_core.proofs.FrontierSteps.{set_to-same, set_to-other}

product_free : (v : ℕ) (b : Bool) (σ : Assignment) (vs : List ℕ) → has vs v ≡ false → product (set_to v b σ) vs ≡ product σ vs
product_free v b σ [] h = refl
product_free v b σ (w ∷ vs) h =
    let parts = or_parts (w == v) (has vs v) h in
    ap₂ (λ c n. bit c * n) (variable_same (set_to v b σ) σ w (set_to-other v b σ w (eqb-false w v parts.0))) (product_free v b σ vs parts.1)

-- a polynomial in which v doesn't occur has one value whatever v is
sum_free : (m v : ℕ) (b : Bool) (σ : Assignment) (p : Polynomial) → AllByRecursion (λ t. has t.variables v ≡ false) p → sum_of m p (set_to v b σ) ≡ sum_of m p σ
sum_free m v b σ [] h = refl
sum_free m v b σ (t ∷ p) h =
    ap₂ ◌+◌ (ap (λ n. cond t.negative (difference m 0 (t.coefficient * n)) (t.coefficient * n)) (product_free v b σ t.variables h.0)) (sum_free m v b σ p h.1)

pub value_free : (m v : ℕ) (b : Bool) (σ : Assignment) (p : Polynomial) → IsFreeOf v p → value m p (set_to v b σ) ≡ value m p σ
value_free m v b σ p h = ap (λ n. n % m) (sum_free m v b σ p (recursion_from_All (λ t. has t.variables v ≡ false) p h))

pub splitting_substitutes : SplittingSubstitutes
splitting_substitutes m v p c d h above c_free d_free is = (quotient_is, λ g σ. ap₂ (λ x y. (y + g σ * x) % m) (quotient_is σ) (at_false σ) ∙ ap (λ z. z % m) (omega arith))
  where
    at : (b : Bool) (σ : Assignment) → value m p (set_to v b σ) ≡ (bit b * value m c σ + value m d σ) % m
    at b σ =
        is (set_to v b σ) ∙ ap (λ z. z % m)
        (ap₂ ◌+◌ (ap₂ (λ x y. bit x * y) (variable-pos (set_to v b σ) v above ∙ set_to-same v b σ) (value_free m v b σ c c_free)) (value_free m v b σ d d_free))

    at_false : (σ : Assignment) → value m p (set_to v false σ) ≡ value m d σ
    at_false σ = at false σ ∙ ap (λ z. z % m) (omega arith) ∙ mod-mod (sum_of m d σ) m

    quotient_is : (σ : Assignment) → quotient m v (value m p) σ ≡ value m c σ
    quotient_is σ =
        let one : (bit true * value m c σ + value m d σ) ≡ value m c σ + value m d σ = omega arith in
        ap₂ (difference m) (at true σ) (at_false σ) ∙
        difference_is m ((bit true * value m c σ + value m d σ) % m) (value m d σ) (value m c σ) h (ap (λ z. z % m) (sym one) ∙ sym (mod-mod (bit true * value m c σ + value m d σ) m)) ∙
        mod-mod (sum_of m c σ) m

-- taking a variable out of a product
pub kept_or_not : (v w : ℕ) (vs : List ℕ) (P : List ℕ → Type 0) → (w ≡ v → P (without v vs)) → (w ≢ v → P (w ∷ without v vs)) → P (without v (w ∷ vs))
kept_or_not v w vs P yes' no' =
    ⊎_elim (λ e. subst P (ap (λ b. cond (not b) (w ∷ without v vs) (without v vs)) (sym e)) (yes' (eqb-true w v e)))
    (λ f. subst P (ap (λ b. cond (not b) (w ∷ without v vs) (without v vs)) (sym f)) (no' (eqb-false w v f))) (cases_Bool (w == v))

gone : (v : ℕ) (vs : List ℕ) → has (without v vs) v ≡ false
gone v [] = refl
gone v (w ∷ vs) = kept_or_not v w vs (λ us. has us v ≡ false) (λ e. gone v vs) (λ n. or_from (w == v) (has (without v vs) v) (ne_eqb w v n) (gone v vs))

square : (b : Bool) (x : ℕ) → bit b * x ≡ bit b * (bit b * x)
square true x = omega arith
square false x = omega arith

-- with the variable in front the product is one, whether it is in the list or not
in_front : (σ : Assignment) (v : ℕ) (vs : List ℕ) → bit (variable σ v) * product σ vs ≡ bit (variable σ v) * product σ (without v vs)
in_front σ v [] = refl
in_front σ v (w ∷ vs) =
    kept_or_not v w vs (λ us. bit (variable σ v) * (bit (variable σ w) * product σ vs) ≡ bit (variable σ v) * product σ us)
    (λ e. ap (λ u. bit (variable σ v) * (bit (variable σ u) * product σ vs)) e ∙ sym (square (variable σ v) (product σ vs)) ∙ in_front σ v vs)
    (λ n. let rest : bit (variable σ w) * (bit (variable σ v) * product σ vs) ≡ bit (variable σ w) * (bit (variable σ v) * product σ (without v vs)) = ap (λ z. bit (variable σ w) * z) (in_front σ v vs) in omega arith)

taken_out : (σ : Assignment) (v : ℕ) (vs : List ℕ) → has vs v ≡ true → product σ vs ≡ bit (variable σ v) * product σ vs
taken_out σ v [] h = absurd (true≢false (sym h))
taken_out σ v (w ∷ vs) h =
    ⊎_elim (λ e. let same = eqb-true w v e in square (variable σ w) (product σ vs) ∙ ap (λ u. bit (variable σ u) * (bit (variable σ w) * product σ vs)) same)
    (λ l. let rest : bit (variable σ w) * product σ vs ≡ bit (variable σ w) * (bit (variable σ v) * product σ vs) = ap (λ z. bit (variable σ w) * z) (taken_out σ v vs l) in omega arith)
    (or_cases (w == v) (has vs v) h)

pub variable_is_taken_out : VariableIsTakenOut
variable_is_taken_out v vs = (gone v vs, λ h σ. taken_out σ v vs h ∙ in_front σ v vs)
