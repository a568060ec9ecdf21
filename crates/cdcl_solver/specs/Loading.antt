-- A propagator over given clauses.
use Rattle.std.specs.Prelude.{◌≡◌, ℕ, List}
use Rattle.std.specs.List.{Contains}
use Rattle.clause_core.specs.Clause.{Clause}
use Rattle.cdcl_solver.specs.Solvers.{SolverView}

-- the same clauses, in any order and number
pub record SameLive (a b : List Clause) : Type 0 where
  pub there : (c : Clause) → Contains a c → Contains b c
  pub back : (c : Clause) → Contains b c → Contains a c

-- a solver over these variables, over which these clauses are live
abbrev pub IsSolverOver : SolverView → ℕ → List Clause → Type 0
IsSolverOver s max clauses = (s.max ≡ max) × SameLive s.live clauses
