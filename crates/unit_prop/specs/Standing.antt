-- What stands over a changing list of clauses, and unit propagation.
use Rattle.std.specs.Prelude.{◌≡◌, ◌≢◌, ℕ, ◌<◌, ◌≤◌, ◌⊎◌, List, [], ◌∷◌, ◌++◌, map, length, take, ℤ, pos, neg_ℤ, slice_index_or, slice_set}
use Rattle.std.specs.declared.option.Option.{Option}
use Rattle.std.specs.declared.option.Option.TheVariants.{None, Some}
use Rattle.std.specs.List.{Contains}
use Rattle.clause_core.specs.Clause.{Clause, SameSet}
use Rattle.clause_core.specs.UnitPropagation.{IsUnit, IsFalsified, IsFixpoint, IsRefuted}
use Rattle.unit_prop.specs.declared.assumed.Assumed.{Assumed}
use Rattle.unit_prop.specs.declared.assumed.Assumed.TheVariants.{Fresh, Known, Opposed}
use Rattle.unit_prop.specs.Trail.{signed_variable, AreDistinctVariables, AreLiteralsUpTo}

-- the greatest variable, what stands in the order in which it came, and for each place the clause that led to it, None where it was assumed
pub record TrailView : Type 0 where
  pub greatest : ℕ
  pub literals : List ℤ
  pub reasons : List (Option ℕ)

-- the clauses by reference, None for one that was removed; what stands and why; how many literals of unit clauses it begins with
pub record Standing : Type 0 where
  pub clauses : List (Option Clause)
  pub trail : TrailView
  pub units : ℕ

-- a clause by its reference, if it is live
abbrev pub clause_at : List (Option Clause) → ℕ → Option Clause
clause_at clauses r = slice_index_or clauses r None

-- the clause of a reference has this set
abbrev pub HasSetAt : List (Option Clause) → Clause → ℕ → Type 0
HasSetAt clauses c r = (d : Clause) × (clause_at clauses r ≡ Some d) × SameSet d c

abbrev pub at : List ℤ → ℕ → ℤ
at lits i = slice_index_or lits i (pos 0)

abbrev pub reason_at : List (Option ℕ) → ℕ → Option ℕ
reason_at reasons i = slice_index_or reasons i None

-- the live clauses
abbrev pub live_of : List (Option Clause) → List Clause
live_of [] = []
live_of (None ∷ clauses) = live_of clauses
live_of (Some c ∷ clauses) = c ∷ live_of clauses

-- the literals that were assumed
abbrev pub assumed_in : List ℤ → List (Option ℕ) → List ℤ
assumed_in [] reasons = []
assumed_in (l ∷ lits) [] = []
assumed_in (l ∷ lits) (None ∷ reasons) = l ∷ assumed_in lits reasons
assumed_in (l ∷ lits) (Some r ∷ reasons) = assumed_in lits reasons

abbrev pub assumed_of : Standing → List ℤ
assumed_of s = assumed_in s.trail.literals s.trail.reasons

-- a live clause that has the literal, and whose other literals are false before it
abbrev pub IsReason : List (Option Clause) → List ℤ → ℤ → ℕ → Type 0
IsReason clauses before l r = (c : Clause) × (clause_at clauses r ≡ Some c) × IsUnit before c l

-- Each literal that stands was assumed, or forced by a live clause when those before it stood.
pub record IsSound (s : Standing) : Type 0 where
  pub paired : length s.trail.reasons ≡ length s.trail.literals
  pub within : AreLiteralsUpTo s.trail.greatest s.trail.literals
  pub apart : AreDistinctVariables s.trail.literals
  pub forced : (i r : ℕ) → i < length s.trail.literals → reason_at s.trail.reasons i ≡ Some r →
      IsReason s.clauses (take i s.trail.literals) (at s.trail.literals i) r

-- no literal was assumed
abbrev pub HasNoAssumption : Standing → Type 0
HasNoAssumption s = (i : ℕ) → i < length s.trail.literals → reason_at s.trail.reasons i ≢ None

-- The first literals are those of unit clauses: each is forced by one, and for each unit clause its literal is there, or its negation
-- from an earlier clause.
pub record AreUnits (clauses : List (Option Clause)) (lits : List ℤ) (reasons : List (Option ℕ)) (units : ℕ) : Type 0 where
  pub within : units ≤ length lits
  pub by_unit : (i : ℕ) → i < units → (r : ℕ) × (reason_at reasons i ≡ Some r) × (clause_at clauses r ≡ Some (at lits i ∷ []))
  pub complete : (r : ℕ) (l : ℤ) → clause_at clauses r ≡ Some (l ∷ []) → (i q : ℕ) × (i < units) × (reason_at reasons i ≡ Some q) ×
      ((at lits i ≡ l) × (q ≤ r) ⊎ (at lits i ≡ neg_ℤ l) × (q < r))

-- nothing but the literals of unit clauses stands
abbrev pub StandsAlone : Standing → Type 0
StandsAlone s = AreUnits s.clauses s.trail.literals s.trail.reasons s.units × (s.units ≡ length s.trail.literals)

-- one more literal stands, assumed or forced
abbrev pub standing_with : Standing → ℤ → Option ℕ → Standing
standing_with s l reason = record {
  clauses = s.clauses;
  trail = record {
    greatest = s.trail.greatest;
    literals = s.trail.literals ++ l ∷ [];
    reasons = s.trail.reasons ++ reason ∷ [];
  };
  units = s.units;
}

-- one more clause is live, and what stands still does
abbrev pub standing_more : Standing → Clause → Standing
standing_more s c = record { clauses = s.clauses ++ Some c ∷ []; trail = s.trail; units = s.units }

-- what stood when fewer literals did
abbrev pub back_at : Standing → ℕ → Standing
back_at s mark = record {
  clauses = s.clauses;
  trail = record {
    greatest = s.trail.greatest;
    literals = take mark s.trail.literals;
    reasons = take mark s.trail.reasons;
  };
  units = s.units;
}

-- a number of literals that stand, with those of unit clauses
abbrev pub IsMark : Standing → ℕ → Type 0
IsMark s mark = (s.units ≤ mark) × (mark ≤ length s.trail.literals)

-- More literals stand, each forced by a clause; nothing else changed.
pub record Propagates (old new : Standing) : Type 0 where
  pub literals : List ℤ
  pub causes : List ℕ
  pub clauses : new.clauses ≡ old.clauses
  pub greatest : new.trail.greatest ≡ old.trail.greatest
  pub units : new.units ≡ old.units
  pub trail : new.trail.literals ≡ old.trail.literals ++ literals
  pub reasons : new.trail.reasons ≡ old.trail.reasons ++ map Some causes

-- a live clause all of whose literals are false
abbrev pub IsConflict : Standing → ℕ → Type 0
IsConflict s r = (c : Clause) × (clause_at s.clauses r ≡ Some c) × IsFalsified s.trail.literals c

-- every consequence stands, without a conflict
abbrev pub IsPropagated : Standing → Type 0
IsPropagated s = IsFixpoint (live_of s.clauses) s.trail.literals

-- What propagation has found: a conflict that a chain reaches from what is assumed, or that no chain reaches one.
abbrev pub IsFound : Standing → Standing → Option ℕ → Type 0
IsFound old new None = IsPropagated new × (IsRefuted (live_of old.clauses) (assumed_of old) → ⊥)
IsFound old new (Some r) = IsConflict new r × IsRefuted (live_of old.clauses) (assumed_of old)

-- what becomes of an assumption
abbrev pub Assumes : Standing → ℤ → Assumed → Standing → Type 0
Assumes old l Fresh new = (new ≡ standing_with old l None) × (Contains old.trail.literals l → ⊥) × (Contains old.trail.literals (neg_ℤ l) → ⊥)
Assumes old l Known new = (new ≡ old) × Contains old.trail.literals l
Assumes old l Opposed new = (new ≡ old) × Contains old.trail.literals (neg_ℤ l)

-- why a variable stands: the reason at its place; None where it is open too
abbrev pub IsReasonOf : TrailView → ℕ → Option ℕ → Type 0
IsReasonOf t v None = (i : ℕ) → i < length t.literals → signed_variable (at t.literals i) ≡ v → reason_at t.reasons i ≡ None
IsReasonOf t v (Some r) = (i : ℕ) × (i < length t.literals) × (signed_variable (at t.literals i) ≡ v) × (reason_at t.reasons i ≡ Some r)

-- one more clause is live, and only the literals of unit clauses stand
pub record AddsClause (old : Standing) (c : Clause) (r : ℕ) (new : Standing) : Type 0 where
  pub place : r ≡ length old.clauses
  pub clauses : new.clauses ≡ old.clauses ++ Some c ∷ []
  pub greatest : new.trail.greatest ≡ old.trail.greatest
  pub alone : StandsAlone new

-- one clause is live no longer, and only the literals of unit clauses stand
pub record RemovesClause (old : Standing) (r : ℕ) (new : Standing) : Type 0 where
  pub clauses : new.clauses ≡ slice_set old.clauses r None
  pub greatest : new.trail.greatest ≡ old.trail.greatest
  pub alone : StandsAlone new
