-- A function of few variables is the value of a polynomial with few terms.
use Rattle.std.specs.Prelude.{◌≡◌, ℕ, zero, suc, ◌+◌, ◌*◌, ◌^◌, ◌%◌, ◌<◌, ◌≤◌, Bool, true, false, cond, List, [], ◌∷◌, ◌++◌, map, length, ◌==◌}
use Rattle.std.specs.List.{AllByRecursion}
use Rattle.std.proofs.Common.{refl, sym, ap, ap₂, ◌∙◌, arith, ⊎_elim, length-append, pow-suc}
use Rattle.std.proofs.lemmas.Bool.{cases_eq}
use Rattle.std.proofs.lemmas.List.{length-map}
use Rattle.std.proofs.lemmas.List.Elements.{All-from_recursion}
use Rattle.graph_core.specs.Graph.Assignments.{Assignment, variable, bit}
use Rattle.algebra_core.specs.Polynomials.{Term, Polynomial, product, term_value, sum_of, difference}
use Rattle.graph_core.proofs.OfGraphs.CallerLemmas.{product_same, sum_same}
use Rattle.algebra_core.proofs.CallerLemmas.{difference_plus, sum_of-append}
use Rattle.frontier_core.specs.Frontier.{set_to}
use Rattle.frontier_core.proofs.FrontierSteps.{set_to-same, set_to-other}
use Rattle.enough_budget.specs.FewVariables.{FewVariablesAreSmall}

abbrev Depends : List ℕ → (Assignment → ℕ) → Type 0
Depends vs f = (σ τ : Assignment) → AllByRecursion (λ v. variable σ v ≡ variable τ v) vs → f σ ≡ f τ

-- terms without a sign
abbrev ArePlain : Polynomial → Type 0
ArePlain p = AllByRecursion (λ t. t.negative ≡ false) p

abbrev with_variable : ℕ → Term → Term
with_variable v t = record { negative = false; coefficient = t.coefficient; variables = v ∷ t.variables }

plain_append : (p q : Polynomial) → ArePlain p → ArePlain q → ArePlain (p ++ q)
plain_append [] q h k = k
plain_append (t ∷ p) q h k = (h.0, plain_append p q h.1 k)

plain_with : (v : ℕ) (p : Polynomial) → ArePlain (map (with_variable v) p)
plain_with v [] = tt
plain_with v (t ∷ p) = (refl, plain_with v p)

term_plain : (m : ℕ) (t : Term) (σ : Assignment) → t.negative ≡ false → term_value m t σ ≡ t.coefficient * product σ t.variables
term_plain m t σ h = ap (λ b. cond b (difference m 0 (t.coefficient * product σ t.variables)) (t.coefficient * product σ t.variables)) h

sum-with : (m v : ℕ) (p : Polynomial) (σ : Assignment) → ArePlain p → sum_of m (map (with_variable v) p) σ ≡ bit (variable σ v) * sum_of m p σ
sum-with m v [] σ h = omega arith
sum-with m v (t ∷ p) σ h =
    let here : term_value m t σ ≡ t.coefficient * product σ t.variables = term_plain m t σ h.0 in
    let split : bit (variable σ v) * (term_value m t σ + sum_of m p σ) ≡ t.coefficient * (bit (variable σ v) * product σ t.variables) + bit (variable σ v) * sum_of m p σ =
    ap (λ z. bit (variable σ v) * (z + sum_of m p σ)) here ∙ omega arith in
    omega (arith, sum-with m v p σ h.1, split)

record IsSmall (m : ℕ) (vs : List ℕ) (f : Assignment → ℕ) : Type 0 where
  polynomial : Polynomial
  plain : ArePlain polynomial
  value : (σ : Assignment) → sum_of m polynomial σ % m ≡ f σ % m
  few : length polynomial ≤ 2 ^ length vs

set-depends : (v : ℕ) (b : Bool) (vs : List ℕ) (f : Assignment → ℕ) → Depends (v ∷ vs) f → Depends vs (λ σ. f (set_to v b σ))
set-depends v b vs f h σ τ same = h (set_to v b σ) (set_to v b τ) (here v, rest vs same)
  where
    at : (w : ℕ) → (variable σ w ≡ variable τ w) → variable (set_to v b σ) w ≡ variable (set_to v b τ) w
    at zero e = refl
    at (suc w) e = ap (λ x. cond (suc w == v) b x) e

    here : (w : ℕ) → variable (set_to w b σ) w ≡ variable (set_to w b τ) w
    here zero = refl
    here (suc w) = set_to-same (suc w) b σ ∙ sym (set_to-same (suc w) b τ)

    rest : (ws : List ℕ) → AllByRecursion (λ w. variable σ w ≡ variable τ w) ws → AllByRecursion (λ w. variable (set_to v b σ) w ≡ variable (set_to v b τ) w) ws
    rest [] s = tt
    rest (w ∷ ws) s = (at w s.0, rest ws s.1)

-- the assignment with a variable set to its own value
set-own : (v : ℕ) (vs : List ℕ) (f : Assignment → ℕ) → Depends (v ∷ vs) f → (σ : Assignment) (b : Bool) → variable σ v ≡ b → f (set_to v b σ) ≡ f σ
set-own v vs f h σ b e = h (set_to v b σ) σ (at v, all vs)
  where
    at : (w : ℕ) → variable (set_to v b σ) w ≡ variable σ w
    at zero = refl
    at (suc w) = ⊎_elim (λ s. ap (λ u. set_to v b σ u) s ∙ set_to-same v b σ ∙ sym e ∙ ap (variable σ) (sym s)) (λ d. set_to-other v b σ (suc w) d) (cases_eq (suc w) v)

    all : (ws : List ℕ) → AllByRecursion (λ w. variable (set_to v b σ) w ≡ variable σ w) ws
    all [] = tt
    all (w ∷ ws) = (at w, all ws)

small : (m : ℕ) (vs : List ℕ) (f : Assignment → ℕ) → 0 < m → Depends vs f → IsSmall m vs f
small m [] f pos h = record {
  polynomial = record { negative = false; coefficient = f (λ v. false); variables = [] } ∷ [];
  plain = (refl, tt);
  value = λ σ. ap (λ z. z % m) (omega (arith, h σ (λ v. false) tt));
  few = omega arith;
}
small m (v ∷ vs) f pos h =
    let low = λ (σ : Assignment). f (set_to v false σ) in
    let step = λ (σ : Assignment). difference m (f (set_to v true σ)) (f (set_to v false σ)) in
    let p = small m vs low pos (set-depends v false vs f h) in
    let q = small m vs step pos (λ σ τ s. ap₂ (difference m) (set-depends v true vs f h σ τ s) (set-depends v false vs f h σ τ s)) in
    record {
      polynomial = p.polynomial ++ map (with_variable v) q.polynomial;
      plain = plain_append p.polynomial (map (with_variable v) q.polynomial) p.plain (plain_with v q.polynomial);
      value = λ σ.
          ap (λ z. z % m) (sum_of-append m p.polynomial (map (with_variable v) q.polynomial) σ ∙ ap (λ z. sum_of m p.polynomial σ + z) (sum-with m v q.polynomial σ q.plain)) ∙
          sum_same m (sum_of m p.polynomial σ) (low σ) (bit (variable σ v) * sum_of m q.polynomial σ) (bit (variable σ v) * step σ) (p.value σ)
          (product_same m (bit (variable σ v)) (bit (variable σ v)) (sum_of m q.polynomial σ) (step σ) refl (q.value σ)) ∙ go σ (variable σ v) refl;
      few = omega (arith, length-append p.polynomial (map (with_variable v) q.polynomial), length-map q.polynomial (with_variable v), p.few, q.few, pow-suc 2 (length vs));
    }
  where
    go : (σ : Assignment) (b : Bool) → variable σ v ≡ b → (f (set_to v false σ) + bit b * difference m (f (set_to v true σ)) (f (set_to v false σ))) % m ≡ f σ % m
    go σ true e =
        let d = difference m (f (set_to v true σ)) (f (set_to v false σ)) in
        let flip : f (set_to v false σ) + bit true * d ≡ d + f (set_to v false σ) = omega arith in
        ap (λ z. z % m) flip ∙ difference_plus m (f (set_to v true σ)) (f (set_to v false σ)) pos ∙ ap (λ z. z % m) (set-own v vs f h σ true e)
    go σ false e = ap (λ z. z % m) (omega (arith, set-own v vs f h σ false e))

pub few_variables_are_small : FewVariablesAreSmall
few_variables_are_small m vs f pos h =
    let is = small m vs f pos (λ σ τ s. h σ τ (All-from_recursion (λ v. variable σ v ≡ variable τ v) vs s)) in
    (is.polynomial, is.value, is.few)
