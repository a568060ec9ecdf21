-- The lines of an algebra certificate that are kept, what they name, and their imports by new numbers. All of them introduce ids, in
-- rising order: deletions were left out.
use Rattle.std.specs.Prelude.{◌≡◌, ◌+◌, ◌-◌, ◌<◌, ◌≤◌, ◌⊎◌, ℕ, Bool, List, [], ◌∷◌, length, map, slice_index, slice_index_or}
use Rattle.std.specs.declared.option.Option.{Option}
use Rattle.std.specs.declared.option.Option.TheVariants.{None, Some}
use Rattle.std.specs.List.{All, Any, Contains, filter_map}
use Rattle.poly_text.specs.Recorded.{id_in, ids_in, operands_in}
use Rattle.poly_text.specs.declared.line.PacLine.{PacLine}
use Rattle.poly_text.specs.declared.line.PacLine.TheVariants.{Sum, Product, Combination, Import, Drop, Close}
use Rattle.clause_core.specs.KeptClauses.{chosen}
use Rattle.pair_trim.specs.Marking.{ClosesMarks, IsSet}

-- each line introduces an id, so none is a deletion or a closing line
abbrev pub IntroduceIds : List PacLine → Type 0
IntroduceIds lines = All (λ x. 0 < id_in x) lines

-- ---- what lines are made of

-- The numbers, from 1, are those of the ids that are among the operands.
pub record AreUsesOf (ids operands numbers : List ℕ) : Type 0 where
  pub own : All (λ n. (0 < n) × (n ≤ length ids) × Contains operands (slice_index ids (n - 1))) numbers
  pub all : (p : ℕ) → p < length ids → Contains operands (slice_index ids p) → Contains numbers (p + 1)

-- those of each of some lists of operands
pub record AreAllUses (ids : List ℕ) (operands uses : List (List ℕ)) : Type 0 where
  pub many : length uses ≡ length operands
  pub each : (p : ℕ) → p < length operands → AreUsesOf ids (slice_index_or operands p []) (slice_index_or uses p [])

-- The line with the closing id is marked, if there is one, and no other mark changed.
pub record SetsClosing (ids : List ℕ) (closing : ℕ) (old new : List Bool) : Type 0 where
  pub places : length new ≡ length old
  pub set : (q : ℕ) → q < length ids → slice_index ids q ≡ closing → IsSet new q
  pub only : (q : ℕ) → IsSet new q → IsSet old q ⊎ (slice_index ids q ≡ closing)

-- and then whatever marked lines use
abbrev pub MarksClosing : List ℕ → ℕ → List (List ℕ) → List Bool → List Bool → Type 0
MarksClosing ids closing uses old new = (roots : List Bool) × SetsClosing ids closing old roots × ClosesMarks uses roots new

-- the id of the line at a place, and what the line is made of
abbrev pub id_at : List PacLine → ℕ → ℕ
id_at lines p = slice_index (ids_in lines) p

abbrev pub operands_at : List PacLine → ℕ → List ℕ
operands_at lines p = slice_index_or (map operands_in lines) p []

-- Kept are the line that the closing one names, if there is one, and whatever kept lines are made of, and no other.
pub record AreLinesKept (lines : List PacLine) (closing : ℕ) (kept : List PacLine) : Type 0 where
  pub marks : List Bool
  pub long : length marks ≡ length lines
  pub operands : (p q : ℕ) → p < length lines → q < length lines → IsSet marks p → Contains (operands_at lines p) (id_at lines q) → IsSet marks q
  pub closes : (q : ℕ) → q < length lines → id_at lines q ≡ closing → IsSet marks q
  pub used : (q : ℕ) → q < length lines → IsSet marks q → (id_at lines q ≡ closing) ⊎
      ((p : ℕ) × (q < p) × (p < length lines) × IsSet marks p × Contains (operands_at lines p) (id_at lines q))
  pub lines_are : kept ≡ chosen marks lines

-- Each line is the one that the closing line names, or a later line is made of it.
abbrev pub AreLinesUsed : List PacLine → ℕ → Type 0
AreLinesUsed [] closing = Unit {0}
AreLinesUsed (x ∷ xs) closing = ((id_in x ≡ closing) ⊎ Any (λ y. Contains (operands_in y) (id_in x)) xs) × AreLinesUsed xs closing

-- ---- imports

-- the number of the clause that a line imports
abbrev pub import_in : PacLine → Option ℕ
import_in (Sum id i j poly) = None
import_in (Product id i factor poly) = None
import_in (Combination id parts poly) = None
import_in (Import id number poly) = Some number
import_in (Drop id) = None
import_in (Close id) = None

-- those of some lines, in their order
abbrev pub imports_in : List PacLine → List ℕ
imports_in lines = filter_map import_in lines

-- the same line, but an import names its clause by another number
abbrev pub renumbered_in : (ℕ → ℕ) → PacLine → PacLine
renumbered_in number (Sum id i j poly) = Sum id i j poly
renumbered_in number (Product id i factor poly) = Product id i factor poly
renumbered_in number (Combination id parts poly) = Combination id parts poly
renumbered_in number (Import id n poly) = Import id (number n) poly
renumbered_in number (Drop id) = Drop id
renumbered_in number (Close id) = Close id

abbrev pub all_renumbered : (ℕ → ℕ) → List PacLine → List PacLine
all_renumbered number lines = map (renumbered_in number) lines
