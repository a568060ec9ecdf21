-- What the type of a checker keeps of the lines that it recorded. These words serve private clauses.
use Rattle.std.specs.Prelude.{◌≡◌, ◌≤◌, ℕ, Bool, true, false, List, [], ◌∷◌, map}
use Rattle.std.specs.List.{All}
use Rattle.clause_core.specs.Clause.{Clause}
use Rattle.algebra_core.specs.AlgebraLines.{Ledger, IsLive, AreLawfulLines, after_all, beginning, line_of}
use Rattle.graph_core.specs.Graph.Extended.{modulus, Extended}
use Rattle.algebra_core.specs.Agreement.{AreSame, AreSameImports}
use Rattle.poly_terms.specs.Tables.{Table}
use Rattle.poly_text.specs.declared.line.PacLine.{PacLine}
use Rattle.poly_text.specs.declared.line.PacLine.TheVariants.{Sum, Product, Combination, Import, Drop, Close}
use Rattle.poly_text.specs.Lines.{AreOf}
use Rattle.poly_text.specs.Recorded.{AreMadeOfEarlier, AreRisingIds, HasNewId, id_in, ids_in, lines_in}
use Rattle.gate_axioms.specs.ClauseValues.{clause_value}
use Rattle.pac_checker.specs.Checking.{IsRecordable}

-- what is recorded of a line that is taken: the line, but no deletion
abbrev pub kept_of : PacLine → List PacLine
kept_of (Sum id i j poly) = Sum id i j poly ∷ []
kept_of (Product id i factor poly) = Product id i factor poly ∷ []
kept_of (Combination id parts poly) = Combination id parts poly ∷ []
kept_of (Import id number poly) = Import id number poly ∷ []
kept_of (Drop id) = []
kept_of (Close id) = Close id ∷ []

-- the ledger that a checker of an extended graph begins with, whose lines may import these clauses
abbrev pub first_ledger : Extended → List Clause → Ledger
first_ledger e added = beginning (record { version = 1; extended = e; imports = map clause_value added })

-- No live line's id is above the last one.
abbrev pub AreIdsWithin : Ledger → Type 0
AreIdsWithin l = (id : ℕ) → IsLive l.live id → id ≤ l.last

-- Each live line of the second ledger is one of the first, with the same value.
pub record Covers (l k : Ledger) : Type 0 where
  pub last : l.last ≡ k.last
  pub lines : (id : ℕ) → IsLive k.live id → AreSame (line_of l.live id) (line_of k.live id)
  pub imports : AreSameImports l.imports k.imports

-- Lines of a table, each of which introduces an id, in rising order up to the last one, and can be written.
pub record AreRecordedLines (max : ℕ) (t : Table) (last : ℕ) (lines : List PacLine) : Type 0 where
  pub of_table : All (AreOf t) lines
  pub recordable : All (IsRecordable max t) lines
  pub new_ids : All HasNewId lines
  pub rising : AreRisingIds (ids_in lines)
  pub bounded : All (λ x. id_in x ≤ last) lines
  pub earlier : AreMadeOfEarlier lines

-- What was recorded are such lines, lawful from the beginning on, and each line that is live now is live after them. Where nothing is
-- recorded, there are none.
pub record HasRecorded (e : Extended) (added : List Clause) (t : Table) (l : Ledger) (records : Bool) (lines : List PacLine) : Type 0 where
  pub within : AreIdsWithin l
  pub lines_are : AreRecordedLines e.max t l.last lines
  pub lawful : AreLawfulLines (modulus e) (first_ledger e added) (lines_in t lines)
  pub covers : records ≡ true → Covers (after_all (modulus e) (first_ledger e added) (lines_in t lines)) l
  pub none : records ≡ false → lines ≡ []
