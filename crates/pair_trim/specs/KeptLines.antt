-- The lines that a trimmed algebra certificate keeps.
use Rattle.std.specs.Prelude.{◌≡◌, ℕ, Bool, true, false, List, map, IsSome}
use Rattle.std.specs.List.{All, filter}
use Rattle.algebra_core.specs.AlgebraLines.{AreLawful, Line, Sum, Product, Combination, Import, Delete, Premises, import_of, import_or_zero, operands}
use Rattle.graph_core.specs.Graph.Assignments.{Assignment}
use Rattle.graph_core.specs.Graph.Operands.{Sides}

-- a line is kept where the id that it introduces is; deletions aren't
abbrev pub is_kept : (ℕ → Bool) → Line → Bool
is_kept keeps (Sum id i j p) = keeps id
is_kept keeps (Product id i q p) = keeps id
is_kept keeps (Combination id parts p) = keeps id
is_kept keeps (Import id n p) = keeps id
is_kept keeps (Delete id) = false

-- the same line, but an import names its value by another number
abbrev pub renumbered : (ℕ → ℕ) → Line → Line
renumbered number (Sum id i j p) = Sum id i j p
renumbered number (Product id i q p) = Product id i q p
renumbered number (Combination id parts p) = Combination id parts p
renumbered number (Import id n p) = Import id (number n) p
renumbered number (Delete id) = Delete id

abbrev pub kept_lines : (ℕ → Bool) → (ℕ → ℕ) → List Line → List Line
kept_lines keeps number lines = map (renumbered number) (filter (is_kept keeps) lines)

-- The ids of all operands of kept lines are kept, and that of the closing line.
pub record AreIdsClosed (keeps : ℕ → Bool) (lines : List Line) (closing : ℕ) : Type 0 where
  pub operands_kept : All (λ x. is_kept keeps x ≡ true → All (λ id. keeps id ≡ true) (operands x)) lines
  pub closing_kept : keeps closing ≡ true

-- What an import names is there among the others by its new number, with the same value at each assignment.
abbrev pub IsImportKept : List (Assignment → ℕ) → List (Assignment → ℕ) → (ℕ → ℕ) → Line → Type 0
IsImportKept imports others number (Sum id i j p) = Unit {0}
IsImportKept imports others number (Product id i q p) = Unit {0}
IsImportKept imports others number (Combination id parts p) = Unit {0}
IsImportKept imports others number (Import id n p) = IsSome (import_of others (number n)) ×
    ((σ : Assignment) → import_or_zero (import_of others (number n)) σ ≡ import_or_zero (import_of imports n) σ)
IsImportKept imports others number (Delete id) = Unit {0}

-- The other premises stand on the same extended graph, and have what kept lines import.
pub record ArePremisesKept (p q : Premises) (keeps : ℕ → Bool) (number : ℕ → ℕ) (lines : List Line) : Type 0 where
  pub extended : q.extended ≡ p.extended
  pub imports : All (λ x. is_kept keeps x ≡ true → IsImportKept p.imports q.imports number x) lines

-- ---- laws

-- What is kept of lawful lines is lawful over premises that have what it imports, and closes as they do.
abbrev pub KeptLinesAreLawful : Type 0
KeptLinesAreLawful = (p q : Premises) (s : Sides) (keeps : ℕ → Bool) (number : ℕ → ℕ) (lines : List Line) (closing : ℕ) → AreLawful p s lines closing →
    AreIdsClosed keeps lines closing → ArePremisesKept p q keeps number lines → AreLawful q s (kept_lines keeps number lines) closing
