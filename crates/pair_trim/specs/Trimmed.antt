-- Why what is kept of a pair of certificates is lawful again, and that nothing of it is idle.
use Rattle.std.specs.Prelude.{◌≡◌, ◌⊎◌, ◌≤◌, ℕ, Bool, List, [], length, map, slice_index}
use Rattle.std.specs.List.{All}
use Rattle.algebra_core.specs.AlgebraLines.{AreLawful, Premises}
use Rattle.algebra_core.specs.Text.{IsLineInRange}
use Rattle.graph_core.specs.Graph.Assignments.{Assignment}
use Rattle.graph_core.specs.Graph.Operands.{Sides}
use Rattle.clause_core.specs.Clause.{Clause}
use Rattle.clause_core.specs.ClauseLines.{AreLawfulClauses, ClauseLine, added}
use Rattle.miter_encoder.specs.declared.goal.Goal.{Goal}
use Rattle.poly_terms.specs.Tables.{Table}
use Rattle.poly_text.specs.Lines.{AreOf}
use Rattle.poly_text.specs.Recorded.{AreRisingIds, ids_in, lines_in}
use Rattle.poly_text.specs.WrittenLines.{IsWritable}
use Rattle.poly_text.specs.declared.line.PacLine.{PacLine}
use Rattle.clause_core.specs.KeptClauses.{AreBelow, AreUsed, HaveTightChains, added_lines, chosen}
use Rattle.pair_trim.specs.KeptLines.{renumbered}
use Rattle.pair_trim.specs.Lines.{AreLinesKept, AreLinesUsed, IntroduceIds, all_renumbered, imports_in}
use Rattle.pair_trim.specs.Marking.{IsKeptOf, IsShownIn, unmet}

-- ---- clauses

-- Lines that add some of the clauses, in their order: each has a tight chain of given clauses and of kept ones that its uses name, so the
-- lines are lawful; each is used, by goals, by these numbers or by a later one; and each goal that was shown is.
pub record AreClausesTrimmed (given goals : List Clause) (more : List ℕ) (clauses : List Clause) (lines : List ClauseLine)
    (uses : List (List ℕ)) : Type 0 where
  pub marks : List Bool
  pub long : length marks ≡ length clauses
  pub some : added lines ≡ chosen marks clauses
  pub only_added : lines ≡ added_lines (added lines)
  pub chains : HaveTightChains given [] (added lines) uses
  pub lawful : AreLawfulClauses given lines
  pub used : AreUsed goals more (added lines) uses
  pub shown : All (λ g. IsShownIn clauses g → IsShownIn (added lines) g) goals

-- It is so of what is kept of clauses with tight chains, where the numbers became new ones.
abbrev pub KeptClausesAreTrimmed : Type 0
KeptClausesAreTrimmed = (given : List Clause) (goals : List Goal) (more : List ℕ) (clauses : List Clause) (uses : List (List ℕ))
    (lines : List ClauseLine) (kept_uses : List (List ℕ)) (ranks : List ℕ) → IsKeptOf goals more clauses uses lines kept_uses ranks →
    HaveTightChains given [] clauses uses →
    AreClausesTrimmed given (unmet goals) (map (slice_index ranks) more) clauses lines kept_uses

-- ---- lines

-- What kept lines of lawful ones import is there.
abbrev pub KeptImportsAreThere : Type 0
KeptImportsAreThere = (p : Premises) (s : Sides) (t : Table) (lines kept : List PacLine) (closing n : ℕ) → AreLinesKept lines closing kept →
    AreLawful p s (lines_in t lines) closing → length p.imports ≤ n → AreBelow n (imports_in kept)

-- Nothing may be imported, or the values of these clauses, and from the other premises those of the clauses that these lines add.
abbrev pub ImportThese : (Clause → Assignment → ℕ) → List Clause → List ClauseLine → Premises → Premises → Type 0
ImportThese f clauses lines p q = (p.imports ≡ []) ⊎ ((p.imports ≡ map f clauses) × (q.imports ≡ map f (added lines)))

-- What is kept of lawful lines is lawful over what is kept of the clauses, with new numbers, and closes as they do.
abbrev pub KeptPairIsLawful : Type 0
KeptPairIsLawful = (p q : Premises) (s : Sides) (t : Table) (lines kept : List PacLine) (closing : ℕ) (f : Clause → Assignment → ℕ)
    (goals : List Goal) (clauses : List Clause) (uses : List (List ℕ)) (clause_lines : List ClauseLine) (kept_uses : List (List ℕ)) (ranks : List ℕ) →
    AreLinesKept lines closing kept → AreRisingIds (ids_in lines) → IntroduceIds lines → AreLawful p s (lines_in t lines) closing →
    IsKeptOf goals (imports_in kept) clauses uses clause_lines kept_uses ranks → q.extended ≡ p.extended → ImportThese f clauses clause_lines p q →
    AreLawful q s (lines_in t (all_renumbered (slice_index ranks) kept)) closing

-- Each line that is kept is used, whatever the numbers of imports are; those are the new ones; and each line says what it said, but for them.
pub record RenumberedLinesServe : Type 0 where
  pub used : (lines kept : List PacLine) (closing : ℕ) (number : ℕ → ℕ) → AreLinesKept lines closing kept →
      AreLinesUsed (all_renumbered number kept) closing
  pub imports : (number : ℕ → ℕ) (lines : List PacLine) → imports_in (all_renumbered number lines) ≡ map number (imports_in lines)
  pub said : (number : ℕ → ℕ) (t : Table) (lines : List PacLine) → lines_in t (all_renumbered number lines) ≡ map (renumbered number) (lines_in t lines)

-- Lines that introduce ids, of a table, with ids and variables in range.
pub record AreWritable (t : Table) (max : ℕ) (lines : List PacLine) : Type 0 where
  pub introduce : IntroduceIds lines
  pub of : All (AreOf t) lines
  pub writable : All IsWritable lines
  pub in_range : All (IsLineInRange max) (lines_in t lines)

-- It is so of what is kept of such lines, with new numbers.
abbrev pub KeptLinesAreWritable : Type 0
KeptLinesAreWritable = (t : Table) (max : ℕ) (lines kept : List PacLine) (closing : ℕ) (goals : List Goal) (clauses : List Clause)
    (uses : List (List ℕ)) (clause_lines : List ClauseLine) (kept_uses : List (List ℕ)) (ranks : List ℕ) → AreLinesKept lines closing kept →
    IsKeptOf goals (imports_in kept) clauses uses clause_lines kept_uses ranks → AreWritable t max lines →
    AreWritable t max (all_renumbered (slice_index ranks) kept)
