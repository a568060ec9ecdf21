-- How a tight chain is found from the reasons of what stands, from the last literal down. Private clauses alone cite it.
use Rattle.std.specs.Prelude.{◌≡◌, ◌≢◌, ◌⊎◌, ◌<◌, ℕ, Bool, true, false, List, [], map, length, take, ℤ, neg_ℤ, slice_index_or, IsSome}
use Rattle.std.specs.declared.option.Option.{Option}
use Rattle.std.specs.declared.option.Option.TheVariants.{None, Some}
use Rattle.std.specs.List.{All, Contains}
use Rattle.clause_core.specs.Clause.{Clause}
use Rattle.clause_core.specs.TightChains.{IsTightChain}
use Rattle.unit_prop.specs.Standing.{Standing, at, clause_at}
use Rattle.unit_prop.specs.Trail.{signed_variable}

-- the clause of a place, if it is live
abbrev pub clause_or_empty : Option Clause → Clause
clause_or_empty None = []
clause_or_empty (Some c) = c

abbrev pub clauses_at : List (Option Clause) → List ℕ → List Clause
clauses_at clauses places = map (λ r. clause_or_empty (clause_at clauses r)) places

-- a variable was marked
abbrev pub IsVariableSeen : List Bool → ℕ → Type 0
IsVariableSeen seen v = slice_index_or seen v false ≡ true

-- The variables of some literals are marked beside those that were.
pub record Marks (lits : List ℤ) (old new : List Bool) : Type 0 where
  pub places : length new ≡ length old
  pub now : (k : ℤ) → Contains lits k → IsVariableSeen new (signed_variable k)
  pub still : (v : ℕ) → IsVariableSeen old v → IsVariableSeen new v
  pub only : (v : ℕ) → IsVariableSeen new v → IsVariableSeen old v ⊎ ((k : ℤ) × Contains lits k × (signed_variable k ≡ v))

-- Each literal of the clause is false by the first literals that stand; or it is false by what is opposed, and none of these is of its variable.
abbrev pub IsOpposedBefore : Standing → ℕ → List ℤ → Clause → Type 0
IsOpposedBefore s n opposed c = (k : ℤ) → Contains c k → Contains (take n s.trail.literals) (neg_ℤ k) ⊎
    (Contains opposed (neg_ℤ k) × ((j : ℕ) → j < n → signed_variable (at s.trail.literals j) ≢ signed_variable k))

-- live clauses that are a tight chain for a clause
pub record AreTightAt (clauses : List (Option Clause)) (c : Clause) (places : List ℕ) : Type 0 where
  pub live : All (λ r. IsSome (clause_at clauses r)) places
  pub tight : IsTightChain c (clauses_at clauses places)
