-- The clauses that a trimmed clause certificate keeps, and the chains by which they follow.
use Rattle.std.specs.Prelude.{◌≡◌, ◌⊎◌, ◌<◌, ◌≤◌, ℕ, zero, suc, ◌+◌, Bool, true, false, List, [], ◌∷◌, ◌++◌, length, map, slice_get, slice_index_or, if◌then◌else◌}
use Rattle.std.specs.declared.option.Option.{Option}
use Rattle.std.specs.declared.option.Option.TheVariants.{None, Some}
use Rattle.std.specs.List.{All, Any, Contains}
use Rattle.clause_core.specs.Clause.{Clause, IsSubset, SameSet}
use Rattle.clause_core.specs.ClauseLines.{AreLawfulClauses, ClauseLine}
use Rattle.clause_core.specs.declared.line.Line.TheVariants.{Add}
use Rattle.clause_core.specs.TightChains.{IsTightChain}

-- ---- chains

-- the element of a number, counted from 1
abbrev pub numbered : {X : Type 0} → List X → ℕ → Option X
numbered xs zero = None
numbered xs (suc i) = slice_get xs i

-- the clause of the number has this set
abbrev pub IsNumbered : List Clause → Clause → ℕ → Type 0
IsNumbered before c n = (d : Clause) × (numbered before n ≡ Some d) × SameSet d c

-- the set is that of a given clause, or of an earlier one that the uses name
abbrev pub IsGivenOrUsed : List Clause → List Clause → List ℕ → Clause → Type 0
IsGivenOrUsed given before uses c = Any (λ d. SameSet d c) given ⊎ Any (IsNumbered before c) uses

-- A tight chain of given clauses and of earlier ones, all of which the uses name; and they name no other.
pub record HasTightChain (given before : List Clause) (c : Clause) (uses : List ℕ) : Type 0 where
  pub chain : List Clause
  pub tight : IsTightChain c chain
  pub named : All (IsGivenOrUsed given before uses) chain
  pub only : All (λ n. Any (λ d. IsNumbered before d n) chain) uses

-- each clause has one, from those before it
abbrev pub HaveTightChains : List Clause → List Clause → List Clause → List (List ℕ) → Type 0
HaveTightChains given before [] [] = Unit {0}
HaveTightChains given before [] (u ∷ us) = ⊥
HaveTightChains given before (c ∷ cs) [] = ⊥
HaveTightChains given before (c ∷ cs) (u ∷ us) = HasTightChain given before c u × HaveTightChains given (before ++ c ∷ []) cs us

-- the numbers are those of some first clauses
abbrev pub AreBelow : ℕ → List ℕ → Type 0
AreBelow n numbers = All (λ k. (0 < k) × (k ≤ n)) numbers

-- whatever a clause uses comes before it
abbrev pub AreEarlier : List (List ℕ) → Type 0
AreEarlier uses = (i : ℕ) → i < length uses → AreBelow i (slice_index_or uses i [])

-- the lines that add some clauses
abbrev pub added_lines : List Clause → List ClauseLine
added_lines cs = map (λ c. Add c) cs

-- ---- what is kept

-- the elements whose marks are set
abbrev pub chosen : {X : Type 0} → List Bool → List X → List X
chosen [] xs = []
chosen (b ∷ marks) [] = []
chosen (b ∷ marks) (x ∷ xs) = if b then x ∷ chosen marks xs else chosen marks xs

-- how many of the first marks are set; so the new number of the element with this number, if its mark is
abbrev pub rank : List Bool → ℕ → ℕ
rank marks zero = 0
rank [] (suc n) = 0
rank (b ∷ marks) (suc n) = if b then suc (rank marks n) else rank marks n

-- the mark of a number, counted from 1
abbrev pub IsMarked : List Bool → ℕ → Type 0
IsMarked marks n = numbered marks n ≡ Some true

-- Whatever a marked clause uses is marked.
abbrev pub AreClosed : List Bool → List (List ℕ) → Type 0
AreClosed marks uses = (i : ℕ) → i < length uses → slice_index_or marks i false ≡ true → All (IsMarked marks) (slice_index_or uses i [])

-- ---- what is used

-- the first of the clauses that have none but the goal's literals
pub record IsFirstShowing (clauses : List Clause) (i : ℕ) (goal : Clause) : Type 0 where
  pub within : i < length clauses
  pub shows : IsSubset (slice_index_or clauses i []) goal
  pub first : (j : ℕ) → j < i → IsSubset (slice_index_or clauses j []) goal → ⊥

-- a later clause that is marked uses it
abbrev pub IsUsedBehind : List Bool → List (List ℕ) → ℕ → Type 0
IsUsedBehind marks uses i = (j : ℕ) × (i < j) × (j < length uses) × (slice_index_or marks j false ≡ true) × Contains (slice_index_or uses j []) (i + 1)

-- Each marked clause is the first that shows some goal, or these numbers name it, or a later marked one uses it.
abbrev pub AreMarkedUsed : List Clause → List ℕ → List Clause → List (List ℕ) → List Bool → Type 0
AreMarkedUsed goals more clauses uses marks =
    (i : ℕ) → i < length clauses → slice_index_or marks i false ≡ true →
    Any (IsFirstShowing clauses i) goals ⊎ (Contains more (i + 1) ⊎ IsUsedBehind marks uses i)

-- Each clause is the first that shows some goal, or these numbers name it, or a later one uses it.
abbrev pub AreUsed : List Clause → List ℕ → List Clause → List (List ℕ) → Type 0
AreUsed goals more clauses uses = (i : ℕ) → i < length clauses →
    Any (IsFirstShowing clauses i) goals ⊎ (Contains more (i + 1) ⊎ ((j : ℕ) × (i < j) × (j < length uses) × Contains (slice_index_or uses j []) (i + 1)))

-- the uses of the marked clauses, by new numbers
abbrev pub chosen_uses : List Bool → List (List ℕ) → List (List ℕ)
chosen_uses marks uses = chosen marks (map (map (rank marks)) uses)

-- ---- laws

-- Lines that add clauses with tight chains are lawful: whatever was deleted before, each chain is among what is live.
abbrev pub KeptClausesAreLawful : Type 0
KeptClausesAreLawful = (given clauses : List Clause) (uses : List (List ℕ)) → HaveTightChains given [] clauses uses →
    AreLawfulClauses given (added_lines clauses)

-- Clauses with tight chains are so with one more at the end.
abbrev pub TightChainsGoOn : Type 0
TightChainsGoOn = (given clauses : List Clause) (uses : List (List ℕ)) (c : Clause) (named : List ℕ) → HaveTightChains given [] clauses uses →
    HasTightChain given clauses c named → HaveTightChains given [] (clauses ++ c ∷ []) (uses ++ named ∷ [])

-- Of clauses with tight chains the marked ones have tight chains too, by their new numbers, where the marks are closed.
abbrev pub ChosenClausesFollow : Type 0
ChosenClausesFollow = (given clauses : List Clause) (uses : List (List ℕ)) (marks : List Bool) → length marks ≡ length clauses →
    HaveTightChains given [] clauses uses → AreClosed marks uses →
    HaveTightChains given [] (chosen marks clauses) (chosen_uses marks uses)

-- Of marked clauses each of which is used, each is used among them, too, by new numbers.
abbrev pub ChosenClausesAreUsed : Type 0
ChosenClausesAreUsed = (goals clauses : List Clause) (more : List ℕ) (uses : List (List ℕ)) (marks : List Bool) → length marks ≡ length clauses →
    length uses ≡ length clauses → AreMarkedUsed goals more clauses uses marks →
    AreUsed goals (map (rank marks) more) (chosen marks clauses) (chosen_uses marks uses)
