-- Normal forms of polynomials: distinct monomials with coefficients other than 0.
use Rattle.std.specs.Prelude.{◌≡◌, ◌≢◌, ℕ, ◌<◌, ◌≤◌, false, List, [], ◌∷◌, length}
use Rattle.std.specs.List.{All, AllPairs, Contains}
use Rattle.graph_core.specs.Graph.Assignments.{Assignment}
use Rattle.algebra_core.specs.Polynomials.{Polynomial, Term, value}

-- variables that rise, from above a first one
abbrev pub AreRising : ℕ → List ℕ → Type 0
AreRising v [] = Unit {0}
AreRising v (w ∷ ws) = (v < w) × AreRising w ws

-- a monomial with a coefficient other than 0 modulo m, and each of its variables once
abbrev pub IsNormalTerm : ℕ → Term → Type 0
IsNormalTerm m t = (t.negative ≡ false) × (0 < t.coefficient) × (t.coefficient < m) × AreRising 0 t.variables

-- The normal form: such monomials, no two over the same variables.
pub record IsNormalForm (m : ℕ) (p : Polynomial) : Type 0 where
  pub terms : All (IsNormalTerm m) p
  pub once : AllPairs (λ s t. s.variables ≢ t.variables) p

-- The size of a function: the number of monomials of the normal form that has its value at every assignment.
abbrev pub HasSize : ℕ → (Assignment → ℕ) → ℕ → Type 0
HasSize m f n = (p : Polynomial) × IsNormalForm m p × ((σ : Assignment) → value m p σ ≡ f σ) × (length p ≡ n)

-- A normal form with a monomial has a value other than 0 at some assignment.
abbrev pub NormalFormsDiffer : Type 0
NormalFormsDiffer = (m : ℕ) (p : Polynomial) → IsNormalForm m p → 0 < length p → (σ : Assignment) × (value m p σ ≢ 0)

-- Two normal forms with one value have the same monomials, in some order, with the same coefficients.
abbrev pub NormalFormIsOne : Type 0
NormalFormIsOne = (m : ℕ) (p q : Polynomial) → IsNormalForm m p → IsNormalForm m q → ((σ : Assignment) → value m p σ ≡ value m q σ) →
    (length p ≡ length q) × All (Contains q) p × All (Contains p) q

-- So a function has one size.
abbrev pub SizeIsOne : Type 0
SizeIsOne = (m : ℕ) (f : Assignment → ℕ) (j k : ℕ) → HasSize m f j → HasSize m f k → j ≡ k

-- Each polynomial has a normal form, of at most as many terms.
abbrev pub NormalFormExists : Type 0
NormalFormExists = (m : ℕ) (p : Polynomial) → 0 < m → (q : Polynomial) × IsNormalForm m q ×
    ((σ : Assignment) → value m q σ ≡ value m p σ) × (length q ≤ length p)
