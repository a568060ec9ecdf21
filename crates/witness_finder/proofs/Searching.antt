-- A turn of the search for a term that no other one precedes.
use Rattle.std.specs.Prelude.{◌≡◌, ℕ, ◌+◌, ◌<◌, Bool, true, false, List, [], length, take, get_or, Some, slice_get, option_map, MatchBool}
use Rattle.std.specs.List.{All}
use Rattle.std.proofs.Common.{refl, sym, ap, subst, ◌∙◌, inl, inr, ⊎_elim}
use Rattle.std.proofs.lemmas.List.Elements.{All-more, All-weaker}
use Rattle.std.proofs.lemmas.Option.{slice_get-get_or}
use Rattle.graph_core.specs.Graph.Operands.{Sides, inputs_in}
use Rattle.algebra_core.specs.Polynomials.{Term, Polynomial}
use Rattle.algebra_core.specs.NormalForm.{IsNormalForm}
use Rattle.frontier_core.specs.LastFrontier.{IsOverInputs}
use Rattle.frontier_core.specs.LeastDifference.{Precedes}
use Rattle.frontier_core.proofs.CallerLemmas.{precedes_transitive}
use Rattle.witness_finder.specs.Positions.{IsMonomialOver, IsNoLater, positions}

pub no_term : Term
no_term = record { negative = false; coefficient = 0; variables = [] }

-- no later than a term
abbrev pub IsBest : Sides → List ℕ → Term → Type 0
IsBest s best t = IsNoLater (positions s best) (positions s t.variables)

-- the term at i comes before the best one so far, or doesn't
pub best_step : (s : Sides) (ts : List Term) (i best : ℕ) (d : Term) (r : Bool) → i < length ts →
    MatchBool r (Precedes (positions s (get_or ts i d).variables) (positions s (get_or ts best d).variables)) (IsNoLater (positions s (get_or ts best d).variables) (positions s (get_or ts i d).variables)) →
    All (IsBest s (get_or ts best d).variables) (take i ts) →
    (n : ℕ) → (r ≡ true → n ≡ i) → (r ≡ false → n ≡ best) → All (IsBest s (get_or ts n d).variables) (take (i + 1) ts)
best_step s ts i best d true h says least n is_i is_best =
    let here = positions s (get_or ts i d).variables in
    let there = positions s (get_or ts best d).variables in
    subst (λ k. All (IsBest s (get_or ts k d).variables) (take (i + 1) ts)) (sym (is_i refl))
    (All-more (IsBest s (get_or ts i d).variables) ts i d h
    (All-weaker (IsBest s (get_or ts best d).variables) (IsBest s (get_or ts i d).variables)
    (λ t a. inr (⊎_elim (λ e. subst (Precedes here) e says) (λ p. precedes_transitive here there (positions s t.variables) says p) a)) (take i ts) least)
    (inl refl))
best_step s ts i best d false h says least n is_i is_best =
    subst (λ k. All (IsBest s (get_or ts k d).variables) (take (i + 1) ts)) (sym (is_best refl))
    (All-more (IsBest s (get_or ts best d).variables) ts i d h least says)

-- a term's variables, as a call gives them
pub variables_at : (ts : List Term) (i : ℕ) (d : Term) (vs : List ℕ) → i < length ts → option_map (λ (m : Term). m.variables) (slice_get ts i) ≡ Some vs → (get_or ts i d).variables ≡ vs
variables_at ts i d vs low e = some_is (get_or ts i d).variables vs (ap (option_map (λ (m : Term). m.variables)) (sym (slice_get-get_or ts i d low)) ∙ e)
  where
    some_is : (us vs : List ℕ) → Some us ≡ Some vs → us ≡ vs
    some_is us vs e = cc

-- each term of a normal form over the inputs is a monomial there
pub monomial_at : (m : ℕ) (s : Sides) (p : Polynomial) (i : ℕ) (d : Term) → i < length p → IsNormalForm m p → IsOverInputs (inputs_in s) p → IsMonomialOver s (get_or p i d).variables
monomial_at m s p i d low normal over = let term = normal.terms i d low in record { rising = term.3; over = over i d low }
