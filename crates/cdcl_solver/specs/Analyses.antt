-- The analysis of a conflict.
use Rattle.std.specs.Prelude.{◌≡◌, ◌≢◌, ℕ, suc, ◌<◌, ◌≤◌, ◌⊎◌, min, Bool, true, false, List, [], ◌∷◌, ◌++◌, length, take, ℤ, neg_ℤ, slice_index_or, slice_set}
use Rattle.std.specs.declared.option.Option.TheVariants.{None, Some}
use Rattle.std.specs.List.{Contains}
use Rattle.clause_core.specs.Clause.{Clause}
use Rattle.clause_core.specs.UnitPropagation.{IsRefuted}
use Rattle.unit_prop.specs.Standing.{at, reason_at, IsReasonOf}
use Rattle.unit_prop.specs.Standing.{Standing, clause_at, live_of}
use Rattle.unit_prop.specs.Trail.{signed_variable}

-- the variables seen so far; where those of the last level stand; the literals of the lemma from before it; the first place of the last
-- level with a variable that was seen
pub record AnalysisView : Type 0 where
  pub level : ℕ
  pub seen : List Bool
  pub places : List ℕ
  pub lits : List ℤ
  pub lowest : ℕ

abbrev pub IsSeen : AnalysisView → ℕ → Type 0
IsSeen a v = slice_index_or a.seen v false ≡ true

-- the place that is told of a literal's variable
abbrev pub place_of : AnalysisView → ℤ → ℕ
place_of a l = slice_index_or a.places (signed_variable l) 0

-- a literal's variable stands there
abbrev pub IsPlaceOf : List ℤ → ℕ → ℤ → Type 0
IsPlaceOf standing p l = (p < length standing) × (signed_variable (at standing p) ≡ signed_variable l)

-- The places are those of the last level; the literals are the negations of what was seen before it; nothing of it was seen below the lowest place.
pub record IsAnalysis (s : Standing) (a : AnalysisView) : Type 0 where
  pub sizes : (length a.seen ≡ suc s.trail.greatest) × (length a.places ≡ suc s.trail.greatest)
  pub here : (j : ℕ) → a.level ≤ j → j < length s.trail.literals → place_of a (at s.trail.literals j) ≡ j
  pub from : (k : ℤ) → Contains a.lits k → Contains (take a.level s.trail.literals) (neg_ℤ k)
  pub all : (j : ℕ) → j < a.level → IsSeen a (signed_variable (at s.trail.literals j)) → Contains a.lits (neg_ℤ (at s.trail.literals j))
  pub low : (a.level ≤ a.lowest) × (a.level ≤ length s.trail.literals)
  pub bound : (j : ℕ) → a.level ≤ j → j < length s.trail.literals → IsSeen a (signed_variable (at s.trail.literals j)) → a.lowest ≤ j
  pub lowest : a.lowest < length s.trail.literals → IsSeen a (signed_variable (at s.trail.literals a.lowest))

-- a literal's variable stands in the last level, at the place that is told of it
abbrev pub IsLate : List ℤ → AnalysisView → ℤ → Type 0
IsLate standing a l = (a.level ≤ place_of a l) × IsPlaceOf standing (place_of a l) l

abbrev pub SeesLate : List ℤ → AnalysisView → AnalysisView → ℤ → Type 0
SeesLate standing old new l = IsLate standing old l ×
    (new ≡ record {
      level = old.level;
      seen = slice_set old.seen (signed_variable l) true;
      places = old.places;
      lits = old.lits;
      lowest = min old.lowest (place_of old l);
    })

abbrev pub SeesEarly : List ℤ → AnalysisView → AnalysisView → ℤ → Type 0
SeesEarly standing old new l = (IsLate standing old l → ⊥) ×
    (new ≡ record
    { level = old.level; seen = slice_set old.seen (signed_variable l) true; places = old.places; lits = old.lits ++ l ∷ []; lowest = old.lowest })

-- what seeing one literal does: it is seen already, or comes from the last level, or goes to the lemma
abbrev pub Sees : List ℤ → AnalysisView → AnalysisView → ℤ → Type 0
Sees standing old new l = (IsSeen old (signed_variable l) × (new ≡ old)) ⊎ ((slice_index_or old.seen (signed_variable l) false ≡ false) ×
    (SeesLate standing old new l ⊎ SeesEarly standing old new l))

-- more is seen, and these variables are
pub record SeesAll (old new : AnalysisView) (c : Clause) (n : ℕ) : Type 0 where
  pub level : new.level ≡ old.level
  pub less : new.lowest ≤ old.lowest
  pub kept : (v : ℕ) → IsSeen old v → IsSeen new v
  pub seen : (j : ℕ) → j < n → IsSeen new (signed_variable (at c j))

-- each literal of the clause is false, or its variable was seen
abbrev pub IsFalseOrSeen : Standing → AnalysisView → ℕ → Type 0
IsFalseOrSeen s a r =
    (c : Clause) → clause_at s.clauses r ≡ Some c → (k : ℤ) → Contains c k → Contains s.trail.literals (neg_ℤ k) ⊎ IsSeen a (signed_variable k)

-- the variables of a live clause were seen
abbrev pub MarksClause : Standing → AnalysisView → AnalysisView → ℕ → Type 0
MarksClause s old new r = (c : Clause) × (clause_at s.clauses r ≡ Some c) × SeesAll old new c (length c)

-- what was seen among the first n literals refutes the live clauses
abbrev pub Refutes : Standing → AnalysisView → ℕ → Type 0
Refutes s a n = (standing : List ℤ) → ((j : ℕ) → j < n → IsSeen a (signed_variable (at s.trail.literals j)) → Contains standing (at s.trail.literals j)) →
    IsRefuted (live_of s.clauses) standing

-- every literal after this place was forced
abbrev pub IsForcedBehind : Standing → ℕ → Type 0
IsForcedBehind s level = (i : ℕ) → level < i → i < length s.trail.literals → reason_at s.trail.reasons i ≢ None

-- Of the last level only the literal at the lowest place is left, and with those seen before the level it refutes the live clauses.
pub record IsResolved (s : Standing) (a : AnalysisView) : Type 0 where
  pub analysis : IsAnalysis s a
  pub inside : a.lowest < length s.trail.literals
  pub refutes : Refutes s a (suc a.lowest)

-- the variables of a clause stand
abbrev pub HasStanding : Standing → ℕ → Type 0
HasStanding s r = (c : Clause) → clause_at s.clauses r ≡ Some c → (k : ℤ) → Contains c k → (p : ℕ) × IsPlaceOf s.trail.literals p k

-- the variables of a live clause were seen before
abbrev pub SawClause : Standing → AnalysisView → ℕ → Type 0
SawClause s a r = (c : Clause) × (clause_at s.clauses r ≡ Some c) × ((j : ℕ) → j < length c → IsSeen a (signed_variable (at c j)))

-- A clause all of whose variables were seen forced the negation of the literal.
abbrev pub Follows : Standing → AnalysisView → ℤ → Type 0
Follows s a k = (r : ℕ) × IsReasonOf s.trail (signed_variable k) (Some r) × SawClause s a r

-- of the literals from before the last level, at least those that don't follow
pub record AreNeeded (s : Standing) (a : AnalysisView) (lits : List ℤ) : Type 0 where
  pub within : (k : ℤ) → Contains lits k → Contains a.lits k
  pub rest : (k : ℤ) → Contains a.lits k → Contains lits k ⊎ Follows s a k

-- the literals of its lemma: those that are needed, and the one of the last level that is left
abbrev pub IsLemmaOf : Standing → AnalysisView → List ℤ → Type 0
IsLemmaOf s a lits = (needed : List ℤ) × AreNeeded s a needed × (lits ≡ needed ++ neg_ℤ (at s.trail.literals a.lowest) ∷ [])
