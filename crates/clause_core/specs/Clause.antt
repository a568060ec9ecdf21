-- Clauses over signed variables, and what they say at an assignment.
use Rattle.std.specs.Prelude.{◌≡◌, ◌≢◌, ℕ, suc, ◌^◌, ◌<◌, ◌≤◌, ◌<ℤ◌, Bool, true, not, List, length, slice_index_or, ℤ, pos, negsuc, nat_abs}
use Rattle.std.specs.List.{All, Contains, list_any}
use Rattle.graph_core.specs.Graph.Assignments.{Assignment, variable}

-- A clause is a set of signed variables, as a list in any order: v, or -v for its negation.
abbrev pub Clause : Type 0
Clause = List ℤ

-- a signed variable's value
abbrev pub signed : Assignment → ℤ → Bool
signed σ (pos v) = variable σ v
signed σ (negsuc v) = not (variable σ (suc v))

-- No literal of a clause is 0, which has no sign.
abbrev pub HasSigns : Clause → Type 0
HasSigns c = All (λ l. l ≢ pos 0) c

-- a variable from 1 on, or its negation, as 32 bits hold both
abbrev pub IsLiteral : ℤ → Type 0
IsLiteral l = (l ≢ pos 0) × (nat_abs l < 2 ^ 31)

-- each literal is less than those after it
abbrev pub IsRising : Clause → Type 0
IsRising c = (i j : ℕ) → i < j → j < length c → slice_index_or c i (pos 0) <ℤ slice_index_or c j (pos 0)

-- a clause as it is kept: literals, none of them twice, in their one order
pub record IsClause (c : Clause) : Type 0 where
  pub literals : All IsLiteral c
  pub rising : IsRising c

-- variables from 1 to the greatest one
abbrev pub IsClauseInRange : ℕ → Clause → Type 0
IsClauseInRange max c = All (λ l. (l ≢ pos 0) × (nat_abs l ≤ max)) c

-- A clause holds where one of its literals is true.
abbrev pub holds : Assignment → Clause → Bool
holds σ c = list_any (signed σ) c

-- every clause of the list holds
abbrev pub Satisfies : Assignment → List Clause → Type 0
Satisfies σ cs = All (λ c. holds σ c ≡ true) cs

-- every literal of the first clause is one of the second
abbrev pub IsSubset : Clause → Clause → Type 0
IsSubset c d = (l : ℤ) → Contains c l → Contains d l

abbrev pub SameSet : Clause → Clause → Type 0
SameSet c d = IsSubset c d × IsSubset d c

-- Where a clause holds, so does each with at least its literals.
abbrev pub SubsetHolds : Type 0
SubsetHolds = (c d : Clause) (σ : Assignment) → IsSubset c d → holds σ c ≡ true → holds σ d ≡ true

-- Kept clauses of one set are one list.
abbrev pub SetsAreLists : Type 0
SetsAreLists = (c d : Clause) → IsClause c → IsClause d → SameSet c d → c ≡ d
