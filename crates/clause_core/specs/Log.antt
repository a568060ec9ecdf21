-- The lawful log of a solver.
use Rattle.std.specs.Prelude.{◌≡◌, ℕ, suc, ◌*◌, ◌≤◌, ◌⊎◌, Bool, true, false, List, [], ◌∷◌, ◌++◌, if◌then◌else◌}
use Rattle.std.specs.List.{All, Contains, fold}
use Rattle.clause_core.specs.Clause.{Clause, IsSubset}
use Rattle.clause_core.specs.UnitPropagation.{IsRup, IsTautology}
use Rattle.clause_core.specs.ClauseLines.{ClauseLine, Removes, AreLawfulClauses}
use Rattle.clause_core.specs.declared.line.Line.TheVariants.{Add, Delete}

-- A lemma follows from the live clauses, is no tautology, and no live clause is a subset of it.
pub record IsLemma (live : List Clause) (c : Clause) : Type 0 where
  pub rup : IsRup live c
  pub no_tautology : ¬ (IsTautology c)
  pub new : All (λ d. ¬ (IsSubset d c)) live

-- Over a clause list, and the live clauses that the log has added: each added clause is a lemma, but of goals it is only asked that
-- they follow; each deletion removes one that the log added.
abbrev pub IsLogLine : List Clause → List Clause → List Clause → ClauseLine → List Clause → Type 0
IsLogLine given goals own (Add c) next = (IsLemma (own ++ given) c ⊎ (Contains goals c × IsRup (own ++ given) c)) × (next ≡ c ∷ own)
IsLogLine given goals own (Delete c) next = Removes own c next

abbrev pub AreLogLines : List Clause → List Clause → List Clause → List ClauseLine → List Clause → Type 0
AreLogLines given goals own [] left = left ≡ own
AreLogLines given goals own (x ∷ xs) left = (next : List Clause) × IsLogLine given goals own x next × AreLogLines given goals next xs left

-- The number of the next run of deletions, from 1, the clauses added since the last run, and whether the line before was a deletion.
pub record Spacing : Type 0 where
  pub run : ℕ
  pub count : ℕ
  pub within : Bool

abbrev pub first_spacing : Spacing
first_spacing = record { run = 1; count = 0; within = false }

abbrev pub spacing_after : Spacing → ClauseLine → Spacing
spacing_after s (Add c) = record { run = s.run; count = suc s.count; within = false }
spacing_after s (Delete c) = if s.within then s else record { run = suc s.run; count = 0; within = true }

-- the spacing after the lines of a log
abbrev pub spacing_of : List ClauseLine → Spacing
spacing_of lines = fold spacing_after first_spacing lines

-- Before run r stand at least 300 * r added clauses since the run before it; a deletion within a run is free.
abbrev pub IsSpacedLine : Spacing → ClauseLine → Type 0
IsSpacedLine s (Add c) = Unit {0}
IsSpacedLine s (Delete c) = (s.within ≡ true) ⊎ (300 * s.run ≤ s.count)

abbrev pub AreRunsSpaced : Spacing → List ClauseLine → Type 0
AreRunsSpaced s [] = Unit {0}
AreRunsSpaced s (x ∷ xs) = IsSpacedLine s x × AreRunsSpaced (spacing_after s x) xs

-- A lawful log over a clause list, and the clauses it added that are live after it.
pub record IsLawfulLog (given goals : List Clause) (lines : List ClauseLine) (left : List Clause) : Type 0 where
  pub lines_lawful : AreLogLines given goals [] lines left
  pub spaced : AreRunsSpaced first_spacing lines

-- ---- the laws

-- A lawful log's lines are lawful lines of a clause certificate.
abbrev pub LogIsCertificate : Type 0
LogIsCertificate = (given goals : List Clause) (lines : List ClauseLine) (left : List Clause) →
    IsLawfulLog given goals lines left → AreLawfulClauses given lines
