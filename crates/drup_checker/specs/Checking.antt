-- A checker's clauses and goals, and how they change.
use Rattle.std.specs.Prelude.{◌≡◌, ◌↔◌, ◌≤◌, ◌<◌, ◌⊎◌, ◌+◌, ◌-◌, ◌^◌, ℕ, zero, suc, min, nat_lt, Bool, true, false, List, [], ◌∷◌, ◌++◌, map, length, slice_get, slice_index_or}
use Rattle.std.specs.declared.option.Option.{Option}
use Rattle.std.specs.declared.option.Option.TheVariants.{None, Some}
use Rattle.std.specs.List.{All, Any, Contains, filter}
use Rattle.graph_core.specs.declared.gate.Gate.{Gate}
use Rattle.clause_core.specs.Clause.{Clause, IsSubset, SameSet}
use Rattle.clause_core.specs.ClauseLines.{Removes}
use Rattle.clause_core.specs.Facts.{IsClauseFact}
use Rattle.clause_core.specs.GateClauses.{gate_clauses}
use Rattle.clause_core.specs.Likeness.{AreSameSets}
use Rattle.clause_core.specs.UnitPropagation.{IsRup}
use Rattle.unit_prop.specs.Standing.{Standing, live_of}
use Rattle.miter_encoder.specs.declared.goal.Goal.{Goal}
use Rattle.clause_core.specs.KeptClauses.{AreEarlier, HaveTightChains}
use Rattle.clause_core.specs.TightChains.{IsTightChain}
use Rattle.drup_checker.specs.declared.keeps.Keeps.{Keeps}
use Rattle.drup_checker.specs.declared.keeps.Keeps.TheVariants as keep

-- A live clause, with its number among those that were added, from 1; 0 where it wasn't.
pub record Numbered : Type 0 where
  pub clause : Clause
  pub number : ℕ

-- the live clauses of places, with the places' numbers
abbrev pub numbered_of : List (Option Clause) → List ℕ → List Numbered
numbered_of [] numbers = []
numbered_of (o ∷ clauses) [] = []
numbered_of (None ∷ clauses) (n ∷ numbers) = numbered_of clauses numbers
numbered_of (Some c ∷ clauses) (n ∷ numbers) = record { clause = c; number = n } ∷ numbered_of clauses numbers

-- clauses that weren't added
abbrev pub unnumbered : List Clause → List Numbered
unnumbered clauses = map (λ c. record { clause = c; number = 0 }) clauses

-- the greatest variable, and the live clauses, also with their numbers
pub record Held : Type 0 where
  pub max : ℕ
  pub live : List Clause
  pub numbered : List Numbered

abbrev pub held : Standing → List ℕ → Held
held s numbers = record { max = s.trail.greatest; live = live_of s.clauses; numbered = numbered_of s.clauses numbers }

-- one clause more
abbrev pub held_with : Held → Clause → ℕ → Held
held_with h c number = record { max = h.max; live = h.live ++ c ∷ []; numbered = h.numbered ++ record { clause = c; number = number } ∷ [] }

-- clauses more that weren't added
abbrev pub held_more : Held → List Clause → Held
held_more h clauses = record { max = h.max; live = h.live ++ clauses; numbered = h.numbered ++ unnumbered clauses }

-- the clauses of gates, and no others
abbrev pub HoldsGates : ℕ → List Gate → Held → Type 0
HoldsGates max gates h = (clauses : List Clause) × AreSameSets clauses (gate_clauses gates) ×
    (h ≡ record { max = max; live = clauses; numbered = unnumbered clauses })

-- of added clauses those that are kept
abbrev pub kept : Keeps → List Clause → List Clause
kept keep.Nothing cs = []
kept keep.Clauses cs = cs
kept keep.Chains cs = cs

-- of what their chains use what is kept
abbrev pub kept_uses : Keeps → List (List ℕ) → List (List ℕ)
kept_uses keep.Nothing uses = []
kept_uses keep.Clauses uses = []
kept_uses keep.Chains uses = uses

-- The gates, the greatest variable, the live clauses, also with their numbers, the goals, which of them some added clause has shown, what is
-- kept of added clauses, those of them that are kept, the numbers that their tight chains use, and how many were added.
pub record Checking : Type 0 where
  pub gates : List Gate
  pub max : ℕ
  pub live : List Clause
  pub numbered : List Numbered
  pub goals : List Goal
  pub shown : List Bool
  pub keeps : Keeps
  pub added : List Clause
  pub uses : List (List ℕ)
  pub count : ℕ

abbrev pub checking : List Gate → Held → List Goal → List Bool → Keeps → List Clause → List (List ℕ) → ℕ → Checking
checking gates h goals shown keeps added uses count = record {
  gates = gates;
  max = h.max;
  live = h.live;
  numbered = h.numbered;
  goals = goals;
  shown = shown;
  keeps = keeps;
  added = added;
  uses = uses;
  count = count;
}

-- the gates and the goals, and the gates' clauses; nothing is added yet
pub record Starts (gates : List Gate) (max : ℕ) (clauses : List Clause) (goals : List Goal) (keeps : Keeps) (c : Checking) : Type 0 where
  pub keeps_is : c.keeps ≡ keeps
  pub added_is : c.added ≡ []
  pub uses_are : c.uses ≡ []
  pub count_is : c.count ≡ 0
  pub gates_are : c.gates ≡ gates
  pub max_is : c.max ≡ max
  pub live_is : c.live ≡ clauses
  pub numbered_are : c.numbered ≡ unnumbered clauses
  pub goals_are : c.goals ≡ goals

-- whether the goal at a place is shown
abbrev pub shown_at : List Bool → ℕ → Bool
shown_at shown i = slice_index_or shown i false

-- the clause with this number among those that were added; without a number the set of a given one
abbrev pub IsTagged : List Clause → List Clause → Clause → ℕ → Type 0
IsTagged given added c zero = Any (λ d. SameSet d c) given
IsTagged given added c (suc i) = slice_get added i ≡ Some c

-- Where chains are kept: each added clause has a tight chain of the gates' clauses and of earlier ones, which its uses name, and each live
-- clause is one of the gates' or has its number.
pub record AreChained (gates : List Gate) (numbered : List Numbered) (added : List Clause) (uses : List (List ℕ)) (count : ℕ) : Type 0 where
  pub chains : HaveTightChains (gate_clauses gates) [] added uses
  pub earlier : AreEarlier uses
  pub tagged : All (λ x. IsTagged (gate_clauses gates) added x.clause x.number) numbered
  pub counted : count ≡ length added

-- Each live clause holds on every evaluation of the gates, and so does each that was added; there is a place for each goal.
pub record KeepsClauses (gates : List Gate) (h : Held) (goals : List Goal) (shown : List Bool) (keeps : Keeps) (added : List Clause)
    (uses : List (List ℕ)) (count : ℕ) : Type 0 where
  pub facts : All (IsClauseFact gates) h.live
  pub places : length shown ≡ length goals
  pub added_facts : All (IsClauseFact gates) added
  pub none_added : keeps ≡ keep.Nothing → added ≡ []
  pub none_used : (keeps ≡ keep.Chains → ⊥) → uses ≡ []
  pub chained : keeps ≡ keep.Chains → AreChained gates h.numbered added uses count

-- the clause shows each goal that has all its literals; what was shown stays so
abbrev pub ShowsBy : Clause → List Goal → List Bool → List Bool → Type 0
ShowsBy c goals old new = (i : ℕ) (g : Goal) → i < length goals → (shown_at new i ≡ true) ↔
    ((shown_at old i ≡ true) ⊎ IsSubset c (slice_index_or goals i g).clause)

-- a count of one more, of 64 bits
abbrev pub more : ℕ → ℕ
more n = min (n + 1) (2 ^ 64 - 1)

-- A clause that follows is added: it is live under the next number, and it may show goals.
pub record AddsRup (c : Clause) (old new : Checking) : Type 0 where
  pub follows : IsRup old.live c
  pub live : new.live ≡ old.live ++ c ∷ []
  pub shown : ShowsBy c old.goals old.shown new.shown
  pub gates : new.gates ≡ old.gates
  pub max : new.max ≡ old.max
  pub goals : new.goals ≡ old.goals
  pub keeps : new.keeps ≡ old.keeps
  pub added : new.added ≡ old.added ++ kept old.keeps (c ∷ [])
  pub uses : (named : List ℕ) × (new.uses ≡ old.uses ++ kept_uses old.keeps (named ∷ []))
  pub numbered : new.numbered ≡ old.numbered ++ record { clause = c; number = new.count } ∷ []
  pub count : new.count ≡ more old.count

-- one live clause with the set is gone, and its number
abbrev pub LosesOne : Clause → List Numbered → List Numbered → Type 0
LosesOne c old new = (before after : List Numbered) × (x : Numbered) × SameSet x.clause c × (old ≡ before ++ x ∷ after) × (new ≡ before ++ after)

-- One live clause with the set is removed.
pub record Deletes (c : Clause) (old new : Checking) : Type 0 where
  pub removes : Removes old.live c new.live
  pub shown : new.shown ≡ old.shown
  pub gates : new.gates ≡ old.gates
  pub max : new.max ≡ old.max
  pub goals : new.goals ≡ old.goals
  pub keeps : new.keeps ≡ old.keeps
  pub added : new.added ≡ old.added
  pub uses : new.uses ≡ old.uses
  pub numbered : LosesOne c old.numbered new.numbered
  pub count : new.count ≡ old.count

-- the numbers of those that were added
abbrev pub added_numbers : List ℕ → List ℕ
added_numbers numbers = filter (λ n. nat_lt 0 n) numbers

-- A tight chain of live clauses for the clause; the numbers are those of its clauses that were added, in the chain's order.
pub record IsTightChainOf (live : List Numbered) (c : Clause) (numbers : List ℕ) : Type 0 where
  pub chain : List Numbered
  pub are_live : All (Contains live) chain
  pub tight : IsTightChain c (map (λ x. x.clause) chain)
  pub numbers_are : numbers ≡ added_numbers (map (λ x. x.number) chain)

-- no live clause has the set
abbrev pub IsNowhere : Clause → Checking → Type 0
IsNowhere c k = ¬ (Any (λ d. SameSet d c) k.live)

-- the goal at a place
abbrev pub goal_at : List Goal → ℕ → Goal
goal_at goals i = slice_index_or goals i (record { column = 0; clause = []; met = true })

-- the goal at a place is of the column, and neither met nor shown
pub record IsUnshown (goals : List Goal) (shown : List Bool) (column i : ℕ) : Type 0 where
  pub within : i < length goals
  pub of_column : (goal_at goals i).column ≡ column
  pub unmet : (goal_at goals i).met ≡ false
  pub unshown : shown_at shown i ≡ false

-- Among the first n goals: the least column of one that is neither met nor shown, or there is none.
abbrev pub IsLeastFirst : List Goal → List Bool → ℕ → Option ℕ → Type 0
IsLeastFirst goals shown n None = (i column : ℕ) → i < n → IsUnshown goals shown column i → ⊥
IsLeastFirst goals shown n (Some least) = ((i : ℕ) × (i < n) × IsUnshown goals shown least i) ×
    ((i column : ℕ) → i < n → IsUnshown goals shown column i → least ≤ column)

-- the same among all goals
abbrev pub IsLeastUnshown : List Goal → List Bool → Option ℕ → Type 0
IsLeastUnshown goals shown = IsLeastFirst goals shown (length goals)

-- the lesser of a column and another, if there is one
abbrev pub IsLesser : Option ℕ → ℕ → ℕ → Type 0
IsLesser None column result = result ≡ column
IsLesser (Some other) column result = (result ≤ column) × (result ≤ other) × ((result ≡ column) ⊎ (result ≡ other))
