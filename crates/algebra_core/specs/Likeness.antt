-- Lines that differ only in how their polynomials are written: what holds of a line holds of each line that is alike.
use Rattle.std.specs.Prelude.{◌≡◌, ℕ, List, [], ◌∷◌}
use Rattle.graph_core.specs.Graph.Assignments.{Assignment}
use Rattle.graph_core.specs.Graph.Extended.{Extended, modulus}
use Rattle.algebra_core.specs.Agreement.{LedgersAgree}
use Rattle.algebra_core.specs.InRange.{IsRefusedInRange}
use Rattle.algebra_core.specs.Polynomials.{Polynomial, value}
use Rattle.algebra_core.specs.Refusal.{AlgebraCause}
use Rattle.algebra_core.specs.AlgebraLines.{Line, Sum, Product, Combination, Import, Delete, Part, Ledger, IsLawfulLine, operands, after}

-- the same value modulo m at every assignment
abbrev pub HaveSameValue : ℕ → Polynomial → Polynomial → Type 0
HaveSameValue m p q = (σ : Assignment) → value m p σ ≡ value m q σ

-- the same ids in the same order, times polynomials with the same values
abbrev pub ArePartsAlike : ℕ → List Part → List Part → Type 0
ArePartsAlike m [] others = others ≡ []
ArePartsAlike m (part ∷ parts) [] = ⊥
ArePartsAlike m (part ∷ parts) (other ∷ others) = (part.id ≡ other.id) × HaveSameValue m part.factor other.factor × ArePartsAlike m parts others

-- the same form and the same ids, and polynomials with the same values
abbrev pub AreAlike : ℕ → Line → Line → Type 0
AreAlike m (Sum id i j p) other = (q : Polynomial) × (other ≡ Sum id i j q) × HaveSameValue m p q
AreAlike m (Product id i f p) other = (g q : Polynomial) × (other ≡ Product id i g q) × HaveSameValue m f g × HaveSameValue m p q
AreAlike m (Combination id parts p) other = (others : List Part) × (q : Polynomial) ×
    (other ≡ Combination id others q) × ArePartsAlike m parts others × HaveSameValue m p q
AreAlike m (Import id number p) other = (q : Polynomial) × (other ≡ Import id number q) × HaveSameValue m p q
AreAlike m (Delete id) other = other ≡ Delete id

-- Where lines are alike, they name the same operands, one is lawful or refused where the other one is, and the same ledger follows.
pub record LikenessIsKept : Type 0 where
  pub operands : (m : ℕ) (x y : Line) → AreAlike m x y → operands x ≡ operands y
  pub lawful : (m : ℕ) (l : Ledger) (x y : Line) → AreAlike m x y → IsLawfulLine m l y → IsLawfulLine m l x
  pub refused : (e : Extended) (l : Ledger) (x y : Line) (cause : AlgebraCause) → AreAlike (modulus e) x y →
      IsRefusedInRange e l y cause → IsRefusedInRange e l x cause
  pub after : (m : ℕ) (l : Ledger) (x y : Line) → AreAlike m x y → LedgersAgree (after m l y) (after m l x)
