-- The value of a clause, as a line of an algebra certificate imports it.
use Rattle.std.specs.Prelude.{◌≡◌, ℕ, suc, ◌*◌, ◌%◌, true, not, ℤ, pos, negsuc, [], ◌∷◌}
use Rattle.clause_core.specs.Clause.{Clause, SameSet, holds, signed}
use Rattle.graph_core.specs.declared.literal.Lit.{Lit}
use Rattle.graph_core.specs.Graph.Assignments.{Assignment, HasBound, bit}
use Rattle.graph_core.specs.Graph.Literals.{inverted, plain}
use Rattle.poly_terms.specs.Tables.{Table, Sum, modulus_in, value_in}

-- The product, over the literals, of 1 minus the literal: a literal that is repeated doesn't count twice, since it is 0 or 1.
abbrev pub clause_value : Clause → Assignment → ℕ
clause_value [] σ = 1
clause_value (l ∷ ls) σ = bit (not (signed σ l)) * clause_value ls σ

-- a polynomial of a table with this value at every assignment
abbrev pub IsClausePoly : Table → Sum → Clause → Type 0
IsClausePoly t p c = (σ : Assignment) → value_in t p σ ≡ clause_value c σ % modulus_in t

-- the literal of a graph that is 1 minus this one
abbrev pub opposite : ℤ → Lit
opposite (pos v) = inverted v
opposite (negsuc v) = plain (suc v)

-- The value is 0 where the clause holds, it is the clause's as a set, and it depends on finitely many variables.
pub record ClauseValues : Type 0 where
  pub vanish : (c : Clause) (σ : Assignment) → holds σ c ≡ true → clause_value c σ ≡ 0
  pub by_set : (c d : Clause) (σ : Assignment) → SameSet c d → clause_value c σ ≡ clause_value d σ
  pub bounded : (c : Clause) → HasBound (clause_value c)
  pub polys_vanish : (t : Table) (p : Sum) (c : Clause) (σ : Assignment) → IsClausePoly t p c → holds σ c ≡ true → value_in t p σ ≡ 0
