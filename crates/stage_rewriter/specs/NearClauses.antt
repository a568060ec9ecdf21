-- Clauses near an adder, and logs over them alone.
use Rattle.std.specs.Prelude.{◌≡◌, ◌⊎◌, Bool, true, false, List, [], ◌∷◌, ◌++◌, ℤ, nat_abs, slice_index_or}
use Rattle.std.specs.List.{All, Contains}
use Rattle.clause_core.specs.Clause.{Clause}
use Rattle.clause_core.specs.ClauseLines.{ClauseLine, clause_in}

-- a literal whose variable is marked
abbrev pub IsMarkedLiteral : List Bool → ℤ → Type 0
IsMarkedLiteral marks l = slice_index_or marks (nat_abs l) false ≡ true

-- a clause all of whose variables are marked
abbrev pub IsNear : List Bool → Clause → Type 0
IsNear marks c = All (IsMarkedLiteral marks) c

-- and a line with such a clause
abbrev pub IsNearLine : List Bool → ClauseLine → Type 0
IsNearLine marks x = IsNear marks (clause_in x)

-- some of the clauses, among them all that are near
pub record AreNearOf (marks : List Bool) (clauses near : List Clause) : Type 0 where
  pub inside : (c : Clause) → Contains near c → Contains clauses c
  pub all : (c : Clause) → Contains clauses c → IsNear marks c → Contains near c

-- one clause more, or none where it isn't near
abbrev pub PushesNear : List Bool → Clause → List Clause → List Clause → Type 0
PushesNear marks c old new = (IsNear marks c × (new ≡ old ++ c ∷ [])) ⊎ ((IsNear marks c → ⊥) × (new ≡ old))
