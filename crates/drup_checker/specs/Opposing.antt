-- A clause whose literals are opposed: the negation of each stands. Private clauses alone cite it.
use Rattle.std.specs.Prelude.{◌≡◌, ◌≢◌, ℕ, ◌<◌, ◌≤◌, List, ◌++◌, length, map, ℤ, pos, neg_ℤ, nat_abs, slice_index_or}
use Rattle.std.specs.declared.option.Option.{Option}
use Rattle.std.specs.List.{Contains}
use Rattle.clause_core.specs.Clause.{Clause, IsSubset}
use Rattle.unit_prop.specs.Standing.{IsSound, Standing, assumed_of}

-- a literal of a variable from 1 to the greatest one
abbrev pub IsLiteralOf : ℕ → ℤ → Type 0
IsLiteralOf max l = (l ≢ pos 0) × (nat_abs l ≤ max)

-- More stands, by assumption or by clauses; nothing else changed.
pub record StandsMore (old now : Standing) : Type 0 where
  pub literals : List ℤ
  pub causes : List (Option ℕ)
  pub clauses : now.clauses ≡ old.clauses
  pub greatest : now.trail.greatest ≡ old.trail.greatest
  pub units : now.units ≡ old.units
  pub trail : now.trail.literals ≡ old.trail.literals ++ literals
  pub reasons : now.trail.reasons ≡ old.trail.reasons ++ causes

-- The negations of the first n literals stand, and nothing but negations of the clause's literals was assumed.
pub record OpposesFirst (old now : Standing) (c : Clause) (n : ℕ) : Type 0 where
  pub begins : StandsMore old now
  pub assumed : IsSubset (assumed_of now) (map neg_ℤ c)
  pub standing : (i : ℕ) → i < n → Contains now.trail.literals (neg_ℤ (slice_index_or c i (pos 0)))

abbrev pub Opposes : Standing → Standing → Clause → Type 0
Opposes old now c = OpposesFirst old now c (length c)

-- A literal of the clause stands, and nothing but negations of the clause's literals was assumed.
pub record IsClauseMet (now : Standing) (c : Clause) (l : ℤ) : Type 0 where
  pub sound : IsSound now
  pub assumed : IsSubset (assumed_of now) (map neg_ℤ c)
  pub has : Contains c l
  pub stands : Contains now.trail.literals l
