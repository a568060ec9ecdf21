-- Polynomials over truth values, with coefficients modulo a number.
use Rattle.std.specs.Prelude.{ℕ, ◌+◌, ◌*◌, ◌-◌, ◌%◌, Bool, List, [], ◌∷◌, if◌then◌else◌}
use Rattle.graph_core.specs.Graph.Assignments.{Assignment, variable, bit}

-- A term: a sign, a coefficient, and a product of variables, of which some may be repeated.
pub record Term : Type 0 where
  pub negative : Bool
  pub coefficient : ℕ
  pub variables : List ℕ

-- A polynomial is the sum of its terms, in any order.
abbrev pub Polynomial : Type 0
Polynomial = List Term

-- x - y modulo m
abbrev pub difference : ℕ → ℕ → ℕ → ℕ
difference m x y = (x + (m - y % m)) % m

-- the product of variables: 1 where each of them is true, else 0
abbrev pub product : Assignment → List ℕ → ℕ
product σ [] = 1
product σ (v ∷ vs) = bit (variable σ v) * product σ vs

-- a term's value, up to multiples of m
abbrev pub term_value : ℕ → Term → Assignment → ℕ
term_value m t σ = if t.negative then difference m 0 (t.coefficient * product σ t.variables) else t.coefficient * product σ t.variables

-- the sum of the terms' values
abbrev pub sum_of : ℕ → Polynomial → Assignment → ℕ
sum_of m [] σ = 0
sum_of m (t ∷ ts) σ = term_value m t σ + sum_of m ts σ

-- The polynomial's value at an assignment, modulo m: the sum of the signed coefficients times the products.
abbrev pub value : ℕ → Polynomial → Assignment → ℕ
value m p σ = sum_of m p σ % m
