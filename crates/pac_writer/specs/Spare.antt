-- What a certificate leaves out: parts times 0, a line twice in one combination, terms of value 0, a monomial twice.
use Rattle.std.specs.Prelude.{◌≢◌, ℕ, List}
use Rattle.std.specs.List.{All, AllPairs}
use Rattle.algebra_core.specs.Polynomials.{Polynomial}
use Rattle.algebra_core.specs.NormalForm.{IsNormalForm}
use Rattle.algebra_core.specs.AlgebraLines.{Line, Sum, Product, Combination, Import, Delete, Part}
use Rattle.frontier_core.specs.Pending.{IsNotZero}

-- A combination has no line twice and none times 0, and each of its polynomials is a normal form.
pub record IsSpareCombination (m : ℕ) (parts : List Part) (p : Polynomial) : Type 0 where
  pub once : AllPairs (λ p q. p.id ≢ q.id) parts
  pub nonzero : All (λ p. IsNotZero m p.factor) parts
  pub factors : All (λ p. IsNormalForm m p.factor) parts
  pub stated : IsNormalForm m p

-- A line of a certificate that is written: a combination, or a deletion.
abbrev pub IsSpareLine : ℕ → Line → Type 0
IsSpareLine m (Sum id i j p) = ⊥
IsSpareLine m (Product id i q p) = ⊥
IsSpareLine m (Combination id parts p) = IsSpareCombination m parts p
IsSpareLine m (Import id number p) = ⊥
IsSpareLine m (Delete id) = Unit {0}
