-- Marks of clauses that are kept, by places from 0, and numbers of clauses, from 1.
use Rattle.std.specs.Prelude.{◌≡◌, ◌↔◌, ◌+◌, ◌<◌, ◌≤◌, ◌⊎◌, ℕ, Bool, true, false, not, List, [], length, map, slice_index, slice_index_or}
use Rattle.std.specs.List.{All, Any, Contains, filter}
use Rattle.clause_core.specs.Clause.{Clause, IsSubset}
use Rattle.clause_core.specs.ClauseLines.{ClauseLine}
use Rattle.miter_encoder.specs.declared.goal.Goal.{Goal}
use Rattle.clause_core.specs.KeptClauses.{AreClosed, AreMarkedUsed, IsFirstShowing, IsMarked, IsUsedBehind, added_lines, chosen, chosen_uses, rank}

abbrev pub IsSet : List Bool → ℕ → Type 0
IsSet marks i = slice_index_or marks i false ≡ true

-- The marks of some numbers are set, and no other changed.
pub record SetsMarks (numbers : List ℕ) (old new : List Bool) : Type 0 where
  pub places : length new ≡ length old
  pub told : (i : ℕ) → IsSet new i ↔ (IsSet old i ⊎ Contains numbers (i + 1))

-- From a place on, whatever a marked clause uses is marked, and each that is marked now was so before, or a later marked one uses it.
pub record IsClosedFrom (n : ℕ) (uses : List (List ℕ)) (old new : List Bool) : Type 0 where
  pub places : length new ≡ length old
  pub still : (i : ℕ) → IsSet old i → IsSet new i
  pub closed : (i : ℕ) → n ≤ i → i < length uses → IsSet new i → All (IsMarked new) (slice_index_or uses i [])
  pub used : (i : ℕ) → IsSet new i → IsSet old i ⊎ IsUsedBehind new uses i

-- all of them
abbrev pub ClosesMarks : List (List ℕ) → List Bool → List Bool → Type 0
ClosesMarks uses old new = IsClosedFrom 0 uses old new

-- ---- the clauses that goals need

-- the clauses of the goals that aren't met
abbrev pub unmet : List Goal → List Clause
unmet goals = map (λ g. g.clause) (filter (λ g. not g.met) goals)

abbrev pub IsShownIn : List Clause → Clause → Type 0
IsShownIn clauses goal = Any (λ c. IsSubset c goal) clauses

-- The first clause that shows a goal is marked, if one does, and no other mark changed.
pub record MarksFirst (goal : Clause) (clauses : List Clause) (old new : List Bool) : Type 0 where
  pub places : length new ≡ length old
  pub still : (i : ℕ) → IsSet old i → IsSet new i
  pub marked : IsShownIn clauses goal → (i : ℕ) × IsSet new i × IsFirstShowing clauses i goal
  pub only : (i : ℕ) → IsSet new i → IsSet old i ⊎ IsFirstShowing clauses i goal

-- The same for each of some goals.
pub record MarksRoots (goals clauses : List Clause) (old new : List Bool) : Type 0 where
  pub places : length new ≡ length old
  pub still : (i : ℕ) → IsSet old i → IsSet new i
  pub each : All (λ g. IsShownIn clauses g → (i : ℕ) × IsSet new i × IsFirstShowing clauses i g) goals
  pub only : (i : ℕ) → IsSet new i → IsSet old i ⊎ Any (IsFirstShowing clauses i) goals

-- Marked are the first clauses that show goals, those that some numbers name, and whatever these use.
abbrev pub MarksNeeded : List Clause → List ℕ → List Clause → List (List ℕ) → List Bool → List Bool → Type 0
MarksNeeded goals more clauses uses old new =
    (roots named : List Bool) × MarksRoots goals clauses old roots × SetsMarks more roots named × ClosesMarks uses named new

-- how many of the first marks are set, for each number up to theirs
pub record AreRanks (marks : List Bool) (ranks : List ℕ) : Type 0 where
  pub many : length ranks ≡ length marks + 1
  pub told : (n : ℕ) → n ≤ length marks → slice_index ranks n ≡ rank marks n

-- Of some clauses and what they use those are kept that goals or these numbers need, by new numbers: marked ones, where whatever a
-- marked one uses is marked, each is used, each that a number names is marked, and each goal that was shown is.
pub record IsKeptOf (goals : List Goal) (more : List ℕ) (clauses : List Clause) (uses : List (List ℕ)) (lines : List ClauseLine)
    (kept_uses : List (List ℕ)) (ranks : List ℕ) : Type 0 where
  pub marks : List Bool
  pub long : length marks ≡ length clauses
  pub closed : AreClosed marks uses
  pub used : AreMarkedUsed (unmet goals) more clauses uses marks
  pub named : All (IsMarked marks) more
  pub shown : All (λ g. IsShownIn clauses g → IsShownIn (chosen marks clauses) g) (unmet goals)
  pub ranks_are : AreRanks marks ranks
  pub lines_are : lines ≡ added_lines (chosen marks clauses)
  pub uses_are : kept_uses ≡ chosen_uses marks uses
