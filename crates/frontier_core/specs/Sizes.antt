-- How many monomials a function has.
use Rattle.std.specs.Prelude.{◌≡◌, ℕ, ◌+◌, ◌*◌, ◌%◌, ◌<◌, ◌≤◌, List, [], ◌∷◌, length}
use Rattle.graph_core.specs.Graph.Assignments.{Assignment, variable, bit}
use Rattle.graph_core.specs.Graph.Operands.{Sides}
use Rattle.algebra_core.specs.Polynomials.{Polynomial, value}
use Rattle.algebra_core.specs.NormalForm.{HasSize}
use Rattle.graph_core.specs.Graph.Extended.{Extended, modulus}
use Rattle.frontier_core.specs.Frontier.{frontier_value}

-- A function's size is at most the number of terms of any polynomial that has its values.
abbrev pub SizeIsAtMost : Type 0
SizeIsAtMost = (m : ℕ) (f : Assignment → ℕ) (p : Polynomial) (n : ℕ) → 0 < m → ((σ : Assignment) → value m p σ ≡ f σ) → HasSize m f n → n ≤ length p

-- the sum of coefficients times variables, and of coefficients times products of two variables
abbrev pub linear_sum : List (ℕ × ℕ) → Assignment → ℕ
linear_sum [] σ = 0
linear_sum (x ∷ xs) σ = x.0 * bit (variable σ x.1) + linear_sum xs σ

abbrev pub bilinear_sum : List (ℕ × ℕ × ℕ) → Assignment → ℕ
bilinear_sum [] σ = 0
bilinear_sum (x ∷ xs) σ = x.0 * (bit (variable σ x.1) * bit (variable σ x.2)) + bilinear_sum xs σ

-- A constant, so many variables, so many products of two, and the terms of a polynomial on top have together at most that many monomials.
abbrev pub LinearIsSmall : Type 0
LinearIsSmall = (m c : ℕ) (singles : List (ℕ × ℕ)) (products : List (ℕ × ℕ × ℕ)) (more : Polynomial) (f : Assignment → ℕ) (n : ℕ) → 0 < m →
    ((σ : Assignment) → f σ ≡ (c + linear_sum singles σ + bilinear_sum products σ + value m more σ) % m) → HasSize m f n →
    n ≤ 1 + length singles + length products + length more

-- the assignments agree on the variables from 1 to n
abbrev pub AgreeOnVariables : ℕ → Assignment → Assignment → Type 0
AgreeOnVariables n σ τ = (v : ℕ) → v ≤ n → variable σ v ≡ variable τ v

-- A function of finitely many variables has a polynomial.
abbrev pub FunctionHasPolynomial : Type 0
FunctionHasPolynomial = (m n : ℕ) (f : Assignment → ℕ) → 0 < m → ((σ τ : Assignment) → AgreeOnVariables n σ τ → f σ ≡ f τ) →
    (p : Polynomial) × ((σ : Assignment) → value m p σ ≡ f σ % m)

-- So a frontier has a size.
abbrev pub FrontierHasSize : Type 0
FrontierHasSize = (e : Extended) (s : Sides) (added eliminated : List ℕ) → (n : ℕ) × HasSize (modulus e) (frontier_value e s added eliminated) n
