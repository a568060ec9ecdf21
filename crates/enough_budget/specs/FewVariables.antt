-- Sizes of functions of few variables.
use Rattle.std.specs.Prelude.{◌≡◌, ℕ, ◌^◌, ◌<◌, ◌≤◌, ◌%◌, List, length}
use Rattle.std.specs.List.{All}
use Rattle.graph_core.specs.Graph.Assignments.{Assignment, variable}
use Rattle.algebra_core.specs.Polynomials.{Polynomial, value}

-- A function that depends on these variables alone.
abbrev pub DependsOn : List ℕ → (Assignment → ℕ) → Type 0
DependsOn vs f = (σ τ : Assignment) → All (λ v. variable σ v ≡ variable τ v) vs → f σ ≡ f τ

abbrev pub FewVariablesAreSmall : Type 0
FewVariablesAreSmall = (m : ℕ) (vs : List ℕ) (f : Assignment → ℕ) → 0 < m → DependsOn vs f →
    (p : Polynomial) × ((σ : Assignment) → value m p σ ≡ f σ % m) × (length p ≤ 2 ^ length vs)
