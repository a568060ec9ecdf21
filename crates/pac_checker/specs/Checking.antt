-- What contracts see of a checker of algebra lines: axioms that are left and live polynomials of a table that grows, as the ledger of the
-- definitions, and the lines that it recorded.
use Rattle.std.specs.Prelude.{◌≡◌, ℕ, Bool, true, false, List, [], ◌∷◌, ◌++◌, IfSome, map}
use Rattle.clause_core.specs.Clause.{Clause}
use Rattle.graph_core.specs.Graph.Operands.{Sides}
use Rattle.graph_core.specs.Graph.Extended.{Extended, modulus}
use Rattle.algebra_core.specs.AlgebraLines.{Ledger, Line, Premises, Sum, Product, Combination, Import, Delete, after, IsLawfulLine, Closes, specification}
use Rattle.algebra_core.specs.Text.{IsLineInRange}
use Rattle.poly_terms.specs.Tables.{Table, Extends}
use Rattle.poly_terms.specs.Tables as tables
use Rattle.mv_fact.specs.Always.{Always}
use Rattle.mv_fact.specs.Facts.{Facts}
use Rattle.poly_text.specs.declared.PacLine.{PacLine}
use Rattle.poly_text.specs.Lines.{line_in}
use Rattle.poly_text.specs.WrittenLines.{IsWritable}
use Rattle.algebra_core.specs.Agreement.{LedgersAgree}
use Rattle.gate_axioms.specs.ClauseValues.{clause_value}
use Rattle.gate_axioms.specs.LeftAxioms.{LeftAxioms, axioms_but}
use Rattle.gate_axioms.specs.Lines.{live_lines_in}

-- The clauses that lines may import, the extended graph, the ids of its axioms that were deleted, its operands, the table of polynomials,
-- the live ones that lines introduced by id, the last id in use, whether lines are recorded, and the recorded ones.
pub record AlgebraChecking : Type 0 where
  pub added : List Clause
  pub extended : Extended
  pub deleted : List ℕ
  pub sides : Sides
  pub table : Table
  pub entries : List (ℕ × tables.Sum)
  pub last : ℕ
  pub records : Bool
  pub recorded : List Line

-- the checker of an extended graph and its operands with these clauses, axioms and live polynomials, which records nothing
abbrev pub checking_of : List Clause → LeftAxioms → Sides → Facts tables.Sum Table → ℕ → AlgebraChecking
checking_of added left sides facts last = record {
  added = added;
  extended = left.extended;
  deleted = left.deleted;
  sides = sides;
  table = facts.table;
  entries = facts.entries;
  last = last;
  records = false;
  recorded = [];
}

-- the same one, where it records lines or doesn't, with these recorded ones
abbrev pub recording : AlgebraChecking → Bool → List Line → AlgebraChecking
recording c records lines = record {
  added = c.added;
  extended = c.extended;
  deleted = c.deleted;
  sides = c.sides;
  table = c.table;
  entries = c.entries;
  last = c.last;
  records = records;
  recorded = lines;
}

-- the ledger that the checker stands for: its lines may import the values of its clauses
abbrev pub ledger_of : AlgebraChecking → Ledger
ledger_of c = record {
  live = axioms_but c.extended c.deleted ++ live_lines_in c.table c.entries;
  last = c.last;
  imports = map clause_value c.added;
}

-- what it stands on in a certificate of a version
abbrev pub checker_premises : ℕ → AlgebraChecking → Premises
checker_premises version c = record { version = version; extended = c.extended; imports = map clause_value c.added }

-- what is recorded of a line that is taken: the line, but no deletion
abbrev pub recorded_of : Bool → Line → List Line
recorded_of false x = []
recorded_of true (Sum id i j p) = Sum id i j p ∷ []
recorded_of true (Product id i q p) = Product id i q p ∷ []
recorded_of true (Combination id parts p) = Combination id parts p ∷ []
recorded_of true (Import id number p) = Import id number p ∷ []
recorded_of true (Delete id) = []

-- The line is lawful over the ledger so far, and the ledger afterwards is the one after the line.
pub record TakesAlgebraLine (line : Line) (old new : AlgebraChecking) : Type 0 where
  pub added : new.added ≡ old.added
  pub extended : new.extended ≡ old.extended
  pub sides : new.sides ≡ old.sides
  pub table : Extends old.table new.table
  pub records : new.records ≡ old.records
  pub recorded : new.recorded ≡ old.recorded ++ recorded_of old.records line
  pub lawful : IsLawfulLine (modulus old.extended) (ledger_of old) line
  pub ledger : LedgersAgree (ledger_of new) (after (modulus old.extended) (ledger_of old) line)

-- Nothing has changed but the table, which has grown; so the ledger says the same.
pub record GrowsCheckedTable (old new : AlgebraChecking) : Type 0 where
  pub added : new.added ≡ old.added
  pub extended : new.extended ≡ old.extended
  pub deleted : new.deleted ≡ old.deleted
  pub sides : new.sides ≡ old.sides
  pub table : Extends old.table new.table
  pub entries : new.entries ≡ old.entries
  pub last : new.last ≡ old.last
  pub records : new.records ≡ old.records
  pub recorded : new.recorded ≡ old.recorded
  pub ledger : LedgersAgree (ledger_of new) (ledger_of old)

-- Nothing has changed but the table and the polynomials in it, which have their values; so the ledger says the same.
pub record KeepsLedger (old new : AlgebraChecking) : Type 0 where
  pub added : new.added ≡ old.added
  pub extended : new.extended ≡ old.extended
  pub sides : new.sides ≡ old.sides
  pub records : new.records ≡ old.records
  pub recorded : new.recorded ≡ old.recorded
  pub ledger : LedgersAgree (ledger_of new) (ledger_of old)

-- A line of code is taken: what it says in the table is.
abbrev pub TakesPacLine : PacLine → AlgebraChecking → AlgebraChecking → Type 0
TakesPacLine line old new = IfSome (line_in old.table line) (λ x. TakesAlgebraLine x old new)

-- A line that may be recorded: it can be written, and its numbers are in range, variables up to a greatest one.
pub record IsRecordable (max : ℕ) (t : Table) (line : PacLine) : Type 0 where
  pub writable : IsWritable line
  pub in_range : IfSome (line_in t line) (IsLineInRange max)

-- the line has the specification's value
abbrev pub IsClosedBy : AlgebraChecking → ℕ → Type 0
IsClosedBy c id = Closes c.extended c.sides (ledger_of c).live id

-- The specification vanishes on every evaluation.
abbrev pub SpecificationVanishes : AlgebraChecking → Type 0
SpecificationVanishes c = Always c.extended.gates (λ σ. specification c.extended c.sides σ ≡ 0)
