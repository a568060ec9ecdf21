-- Parts as a caller gives them.
use Rattle.std.proofs.Common.{◌≡◌, ℕ, ◌+◌, ◌*◌, ◌<◌, true, ◌||◌, ◌==◌, List, [], ◌∷◌, ◌++◌, length, get_or, take, sym, ap, ap₂, ◌∙◌, arith, ⊎_elim, eqb-true, mul-zero, true≢false}
use Rattle.std.proofs.Math.Nat.{zero-mul}
use Rattle.std.proofs.lemmas.Bool.{cases_Bool}
use Rattle.std.proofs.lemmas.List.{take_more}
use Rattle.graph_core.specs.Graph.Assignments.{Assignment, variable, bit}
use Rattle.algebra_core.specs.Polynomials.{product, sum_of}
use Rattle.poly_terms.specs.Entries.{Sum}
use Rattle.poly_terms.specs.Monomials.{AreIn, Grows, has_variable, total_in}
use Rattle.poly_terms.specs.Tables.{said}
use Rattle.poly_terms.proofs.Adding.{spread, total_grown, turned}

-- a product over the constant is 0
pub zero_product : (σ : Assignment) (vs : List ℕ) → has_variable 0 vs ≡ true → product σ vs ≡ 0
zero_product σ [] h = absurd (true≢false (sym h))
zero_product σ (v ∷ vs) h =
    ⊎_elim
    (λ t. ap (λ k. bit (variable σ k) * product σ vs) (eqb-true v 0 t) ∙ zero-mul (product σ vs))
    (λ f. ap (λ n. bit (variable σ v) * n) (zero_product σ vs (ap (λ c. c || has_variable 0 vs) (sym f) ∙ h)) ∙ mul-zero (bit (variable σ v)))
    (cases_Bool (v == 0))

-- one more part adds its product
pub sum_said-push : (m : ℕ) (σ : Assignment) (xs : List (ℕ × List ℕ)) (x : ℕ × List ℕ) → sum_of m (said (xs ++ x ∷ [])) σ ≡ sum_of m (said xs) σ + x.0 * product σ x.1
sum_said-push m σ [] x = omega arith
sum_said-push m σ (y ∷ ys) x = omega (arith, sum_said-push m σ ys x)

-- the step of a loop over parts
pub one_more_part : (m : ℕ) (σ : Assignment) (parts : List (ℕ × List ℕ)) (i : ℕ) (part : ℕ × List ℕ) (vs : List ℕ) → i < length parts → part ≡ get_or parts i part → vs ≡ part.1 →
    sum_of m (said (take i parts)) σ + part.0 * product σ vs ≡ sum_of m (said (take (i + 1) parts)) σ
one_more_part m σ parts i part vs h at is =
    ap₂ (λ p us. sum_of m (said (take i parts)) σ + p * product σ us) (ap (λ p. p.0) at) (is ∙ ap (λ p. p.1) at) ∙
    sym (ap (λ ps. sum_of m (said ps) σ) (take_more parts i part h) ∙ sum_said-push m σ (take i parts) (get_or parts i part))

-- the step of a loop that multiplies entries by each part
pub one_more_multiple : (m : ℕ) (old mid : List (List ℕ)) (σ : Assignment) (es : Sum) (parts : List (ℕ × List ℕ)) (i : ℕ) (part : ℕ × List ℕ) (vs : List ℕ) →
    Grows old mid → AreIn old es → i < length parts → part ≡ get_or parts i part → vs ≡ part.1 →
    total_in old σ es * sum_of m (said (take i parts)) σ + part.0 * product σ vs * total_in mid σ es ≡ total_in old σ es * sum_of m (said (take (i + 1) parts)) σ
one_more_multiple m old mid σ es parts i part vs g h low at is =
    let l = total_in old σ es in
    let t = sum_of m (said (take i parts)) σ in
    let u = part.0 * product σ vs in
    ap (λ n. l * t + u * n) (total_grown old mid es σ g h) ∙ turned l t u ∙ spread l t u ∙ ap (λ n. l * n) (one_more_part m σ parts i part vs low at is)
