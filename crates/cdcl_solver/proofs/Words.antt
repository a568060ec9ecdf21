-- Words that proofs alone cite.
use Rattle.std.specs.Prelude.{◌≡◌, ℕ, ℤ, List}
use Rattle.std.specs.List.{Contains}
use Rattle.clause_core.specs.Clause.{Clause}
use Rattle.unit_prop.specs.Standing.{Standing, live_of}
use Rattle.unit_prop.specs.Trail.{IsLiteralUpTo}
use Rattle.cdcl_solver.specs.Loading.{SameLive}

-- These clauses are live, over the variables.
pub record Loads (s : Standing) (max : ℕ) (clauses : List Clause) : Type 0 where
  pub greatest : s.trail.greatest ≡ max
  pub live : SameLive (live_of s.clauses) clauses
  pub within : (c : Clause) → Contains clauses c → (l : ℤ) → Contains c l → IsLiteralUpTo max l
