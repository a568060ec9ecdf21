-- The states of a search.
use Rattle.std.specs.Prelude.{◌≡◌, ◌≢◌, ℕ, ◌<◌, ◌≤◌, ◌⊎◌, Bool, true, false, List, ◌++◌, map, length, take, ℤ, pos, neg_ℤ}
use Rattle.std.specs.declared.option.Option.{Option}
use Rattle.std.specs.declared.option.Option.TheVariants.{None, Some}
use Rattle.std.specs.List.{Contains}
use Rattle.clause_core.specs.Clause.{IsSubset}
use Rattle.clause_core.specs.UnitPropagation.{IsFixpoint, IsRup}
use Rattle.unit_prop.specs.Standing.{at, reason_at}
use Rattle.unit_prop.specs.Trail.{IsOpen}
use Rattle.unit_prop.specs.Standing.{Standing, live_of, IsConflict, IsPropagated, IsSound}
use Rattle.unit_prop.specs.Trail.{signed_variable}

-- More stands, over the same clauses and variables.
pub record GainsStanding (old new : Standing) : Type 0 where
  pub more : List ℤ
  pub causes : List (Option ℕ)
  pub clauses : new.clauses ≡ old.clauses
  pub greatest : new.trail.greatest ≡ old.trail.greatest
  pub units : new.units ≡ old.units
  pub literals : new.trail.literals ≡ old.trail.literals ++ more
  pub reasons : new.trail.reasons ≡ old.trail.reasons ++ causes

-- The assumptions stand with every consequence, and nothing else was assumed.
pub record StandsUnder (s : Standing) (assumptions : List ℤ) : Type 0 where
  pub sound : IsSound s
  pub settled : IsPropagated s
  pub assumed : IsSubset assumptions s.trail.literals
  pub only : (i : ℕ) → i < length s.trail.literals → reason_at s.trail.reasons i ≡ None → Contains assumptions (at s.trail.literals i)

-- whether the assumptions stand, or are refuted
abbrev pub BeginsSearch : Standing → Standing → List ℤ → Bool → Type 0
BeginsSearch old new assumptions true = GainsStanding old new × StandsUnder new assumptions
BeginsSearch old new assumptions false = GainsStanding old new × IsRup (live_of old.clauses) (map neg_ℤ assumptions)

-- A conflict after a decision: before it every consequence stood, and after it each literal was forced.
pub record IsConflictAt (s : Standing) (clause level : ℕ) : Type 0 where
  pub sound : IsSound s
  pub conflict : IsConflict s clause
  pub below : level < length s.trail.literals
  pub settled : IsFixpoint (live_of s.clauses) (take level s.trail.literals)
  pub decision : reason_at s.trail.reasons level ≡ None
  pub forced : (i : ℕ) → level < i → i < length s.trail.literals → reason_at s.trail.reasons i ≢ None

-- each of these variables has a value
abbrev pub AllStand : List ℕ → Standing → Type 0
AllStand vars s = (v : ℕ) → Contains vars v → Contains s.trail.literals (pos v) ⊎ Contains s.trail.literals (neg_ℤ (pos v))

-- an open literal of a variable up to the greatest one
abbrev pub IsOpenChoice : Standing → ℤ → Type 0
IsOpenChoice s l = (0 < signed_variable l) × (signed_variable l ≤ s.trail.greatest) × IsOpen s.trail.literals l

-- an open literal, or none where each of these variables has a value
abbrev pub IsChoice : List ℕ → Standing → Option ℤ → Type 0
IsChoice vars s None = AllStand vars s
IsChoice vars s (Some l) = IsOpenChoice s l

-- an open literal of a variable, or none where it has a value
abbrev pub IsChoiceOf : Standing → ℕ → Option ℤ → Type 0
IsChoiceOf s v None = Contains s.trail.literals (pos v) ⊎ Contains s.trail.literals (neg_ℤ (pos v))
IsChoiceOf s v (Some l) = IsOpenChoice s l

-- what stood still does, over the same clauses
abbrev pub ExtendsStanding : Standing → Standing → Type 0
ExtendsStanding old new = GainsStanding old new × IsSubset old.trail.literals new.trail.literals × IsSound new

-- One more decision, with every consequence or up to a conflict.
abbrev pub DecidesOnce : Standing → Standing → Option ℕ → Type 0
DecidesOnce old new None = ExtendsStanding old new × IsPropagated new × (length old.trail.literals < length new.trail.literals)
DecidesOnce old new (Some r) = ExtendsStanding old new × IsConflictAt new r (length old.trail.literals)
