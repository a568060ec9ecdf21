-- The moments to which a search goes back.
use Rattle.std.specs.Prelude.{◌≡◌, ◌≢◌, ℕ, ◌<◌, ◌≤◌, ◌-◌, Bool, true, false, List, [], map, length, take, ℤ, neg_ℤ, slice_index_or}
use Rattle.std.specs.declared.option.Option.{Option}
use Rattle.std.specs.declared.option.Option.TheVariants.{None, Some}
use Rattle.std.specs.List.{Contains}
use Rattle.clause_core.specs.Clause.{Clause, IsSubset}
use Rattle.clause_core.specs.UnitPropagation.{IsFixpoint, IsRup}
use Rattle.unit_prop.specs.Standing.{Standing, live_of, AreUnits, IsMark, IsPropagated, IsSound}
use Rattle.unit_prop.specs.Trail.{IsOpen}

abbrev pub level_mark : List ℕ → ℕ → ℕ
level_mark marks i = slice_index_or marks i 0

-- At the base only the literals of unit clauses stood; at each mark every consequence did, each time with no fewer literals.
pub record IsStage (s : Standing) (base : ℕ) (marks : List ℕ) : Type 0 where
  pub units : AreUnits s.clauses s.trail.literals s.trail.reasons s.units
  pub bottom : base ≡ s.units
  pub marked : (i : ℕ) → i < length marks → IsMark s (level_mark marks i)
  pub rising : (i j : ℕ) → i ≤ j → j < length marks → level_mark marks i ≤ level_mark marks j
  pub settled : (i : ℕ) → i < length marks → IsFixpoint (live_of s.clauses) (take (level_mark marks i) s.trail.literals)

-- the last mark, if there is one
abbrev pub IsLast : List ℕ → Option ℕ → Type 0
IsLast marks None = marks ≡ []
IsLast marks (Some m) = (0 < length marks) × (m ≡ level_mark marks (length marks - 1))

-- the same clauses, over the same variables
pub record Keeps (old new : Standing) : Type 0 where
  pub clauses : new.clauses ≡ old.clauses
  pub greatest : new.trail.greatest ≡ old.trail.greatest

-- a literal of a clause that is open, other than one
abbrev pub IsOtherOpen : List ℤ → Clause → ℤ → ℤ → Type 0
IsOtherOpen lits c other l = Contains c l × (l ≢ other) × IsOpen lits l

-- two literals of a clause that are open
abbrev pub AreTwoOpen : List ℤ → Clause → ℤ × ℤ → Type 0
AreTwoOpen lits c two = (Contains c two.0 × IsOpen lits two.0) × IsOtherOpen lits c two.0 two.1

-- whether the assumptions stand with every consequence, or are refuted
abbrev pub SettlesAssumptions : Standing → Standing → List ℤ → Bool → Type 0
SettlesAssumptions old new assumptions true = IsSound new × IsPropagated new × IsSubset assumptions new.trail.literals
SettlesAssumptions old new assumptions false = IsRup (live_of old.clauses) (map neg_ℤ assumptions)
