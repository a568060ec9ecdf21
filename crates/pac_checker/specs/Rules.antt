-- What the steps of a line find. These words serve private clauses.
use Rattle.std.specs.Prelude.{◌≡◌, ◌≢◌, ◌<◌, ◌≤◌, ◌++◌, ℕ, zero, suc, ◌*◌, ◌%◌, List, map, slice_get}
use denote.Ref.{Bor}
use Rattle.std.specs.declared.option.Option.{Option}
use Rattle.std.specs.declared.option.Option.TheVariants.{None, Some}
use Rattle.std.specs.List.{All}
use Rattle.clause_core.specs.Clause.{Clause}
use Rattle.clause_core.specs.Facts.{IsClauseFact}
use Rattle.graph_core.specs.Graph.Assignments.{Assignment}
use Rattle.graph_core.specs.Graph.Extended.{AgreeOnColumns}
use Rattle.mv_fact.specs.Always.{Always}
use Rattle.graph_core.specs.Graph.Operands.{Sides}
use Rattle.algebra_core.specs.Polynomials.{Polynomial}
use Rattle.algebra_core.specs.AlgebraLines.{LiveLine, Line, Ledger, Part, IsLive, IsNewId, IsThere, axioms, line_of, value_of, introduce, combined, operands, stated, named, after}
use Rattle.graph_core.specs.Graph.Extended as graphs
use Rattle.algebra_core.specs.AlgebraLines as algebra
use Rattle.algebra_core.specs.Agreement.{AreSame, AreSameLines, LedgersAgree}
use Rattle.algebra_core.specs.Refusal.{first_missing}
use Rattle.mv_fact.specs.Facts.{Facts, fact_at}
use Rattle.poly_terms.specs.Tables.{Table, Sum, modulus_in, value_in, monomials_in}
use Rattle.poly_text.specs.Lines.{part_in, parts_in}
use Rattle.gate_axioms.specs.declared.left_axioms.Axiom.{Axiom}
use Rattle.gate_axioms.specs.LeftAxioms.{LeftAxioms, axiom_line, axioms_but, left_lines}
use Rattle.gate_axioms.specs.Lines.{lines_of}
use Rattle.gate_axioms.specs.Steps.{Vanishes}
use Rattle.pac_checker.specs.declared.fault.LineFault.{LineFault}
use Rattle.pac_checker.specs.declared.fault.LineFault.TheVariants.{Id, NoSuchLine, NoSuchClause, NotEqual, Memory}
use Rattle.pac_checker.specs.Checking.{AlgebraChecking, ledger_of, TakesAlgebraLine}
use Rattle.pac_checker.specs.Faults.{IsRuleFault}

-- lines, each beside a factor that is lent, as lines and factors
abbrev pub lent : List (ℕ × Bor Sum) → List (ℕ × Sum)
lent parts = map (λ part. (part.0, part.1.now)) parts

-- the ids of lines that parts name
abbrev pub ids_of : List Part → List ℕ
ids_of parts = map (λ part. part.id) parts

-- the live lines: the axioms that are left, and after them what lines introduced
abbrev pub lines_with : LeftAxioms → Facts Sum Table → List LiveLine
lines_with left facts = left_lines left ++ lines_of facts

-- a live line times a polynomial, and the sum of some such products
abbrev pub product_value : LeftAxioms → Facts Sum Table → ℕ → Sum → Assignment → ℕ
product_value left facts id factor σ = value_of (lines_with left facts) id σ * value_in facts.table factor σ

abbrev pub combined_value : LeftAxioms → Facts Sum Table → List Part → Assignment → ℕ
combined_value left facts parts σ = combined (modulus_in facts.table) (lines_with left facts) parts σ % modulus_in facts.table

-- The lines of some parts are live, and the polynomial is the sum of these parts, which vanishes on every evaluation.
pub record IsNamed (left : LeftAxioms) (old new : Facts Sum Table) (parts : List Part) (p : Sum) : Type 0 where
  pub live : first_missing (lines_with left old) (ids_of parts) ≡ None
  pub vanishes : Vanishes new.gates new.table p
  pub same : (σ : Assignment) → value_in new.table p σ ≡ combined_value left old parts σ

-- the first operand that isn't live, or out of memory
abbrev pub IsNamingFault : LeftAxioms → Facts Sum Table → List ℕ → LineFault → Type 0
IsNamingFault left facts ids Id = ⊥
IsNamingFault left facts ids (NoSuchLine id) = first_missing (lines_with left facts) ids ≡ Some id
IsNamingFault left facts ids (NoSuchClause number) = ⊥
IsNamingFault left facts ids NotEqual = ⊥
IsNamingFault left facts ids Memory = Unit {0}

-- an axiom with this id is left, this one is, none is
abbrev pub HasAxiom : AlgebraChecking → ℕ → Type 0
HasAxiom c id = IsLive (axioms_but c.extended c.deleted) id

abbrev pub IsAxiomOf : AlgebraChecking → ℕ → Axiom → Type 0
IsAxiomOf c id given = AreSame (line_of (axioms_but c.extended c.deleted) id) (axiom_line (graphs.modulus c.extended) id (Some given))

abbrev pub HasNoAxiom : AlgebraChecking → ℕ → Type 0
HasNoAxiom c id = line_of (axioms_but c.extended c.deleted) id ≡ None

-- A line that states a polynomial under an id, and whose rule names some lines, each times a factor.
pub record IsStatingLine (c : AlgebraChecking) (id : ℕ) (parts : List (ℕ × Sum)) (p : Sum) (x : Line) : Type 0 where
  pub is_new : (last : ℕ) → last < id → IsNewId last x
  pub is_old : (last : ℕ) → id ≤ last → IsNewId last x → ⊥
  pub lines : operands x ≡ ids_of (parts_in c.table parts)
  pub there : (imports : List (Assignment → ℕ)) → IsThere imports x
  pub states : stated x ≡ monomials_in c.table p
  pub names : (σ : Assignment) → named (modulus_in c.table) (ledger_of c) x σ % modulus_in c.table ≡
      combined (modulus_in c.table) (ledger_of c).live (parts_in c.table parts) σ % modulus_in c.table
  pub next : (m : ℕ) (l : Ledger) → after m l x ≡ introduce m l id (monomials_in c.table p)

-- each such line is lawful, and the ledger afterwards is the one after it
abbrev pub TakesLinesOf : ℕ → List (ℕ × Sum) → Sum → AlgebraChecking → AlgebraChecking → Type 0
TakesLinesOf id parts p old new = (x : Line) → IsStatingLine old id parts p x → TakesAlgebraLine x old new

-- the line is refused over the checker's ledger; and so is each such line
abbrev pub IsRefused : AlgebraChecking → Line → LineFault → Type 0
IsRefused c x fault = IsRuleFault c.extended (ledger_of c) x fault

abbrev pub AreRefused : AlgebraChecking → ℕ → List (ℕ × Sum) → Sum → LineFault → Type 0
AreRefused c id parts p fault = (x : Line) → IsStatingLine c id parts p x → IsRefused c x fault

-- lines of polynomials of a table, as the definitions know them
abbrev pub sum_line : Table → ℕ → ℕ → ℕ → Sum → Line
sum_line t id i j p = algebra.Sum id i j (monomials_in t p)

abbrev pub product_line : Table → ℕ → ℕ → Sum → Sum → Line
product_line t id i factor p = algebra.Product id i (monomials_in t factor) (monomials_in t p)

abbrev pub combination_line : Table → ℕ → List (ℕ × Sum) → Sum → Line
combination_line t id parts p = algebra.Combination id (map (part_in t) parts) (monomials_in t p)

abbrev pub import_line : Table → ℕ → ℕ → Sum → Line
import_line t id number p = algebra.Import id number (monomials_in t p)

-- the clause of a number, from 1 on
abbrev pub clause_numbered : List Clause → ℕ → Option Clause
clause_numbered cs zero = None
clause_numbered cs (suc i) = slice_get cs i

-- the same value at every assignment
abbrev pub AreEqual : Table → Sum → Sum → Type 0
AreEqual t p q = (σ : Assignment) → value_in t p σ ≡ value_in t q σ

-- an assignment tells two polynomials apart
abbrev pub Differ : Table → Sum → Sum → Type 0
Differ t p q = (σ : Assignment) × (value_in t p σ ≢ value_in t q σ)

-- the stated polynomial differs from the named one, or out of memory
abbrev pub IsStatingFault : Table → Sum → Sum → LineFault → Type 0
IsStatingFault t named stated Id = ⊥
IsStatingFault t named stated (NoSuchLine id) = ⊥
IsStatingFault t named stated (NoSuchClause number) = ⊥
IsStatingFault t named stated NotEqual = Differ t named stated
IsStatingFault t named stated Memory = Unit {0}

-- A polynomial of the same table was put under a new id.
pub record Introduces (id : ℕ) (p : Polynomial) (old new : AlgebraChecking) : Type 0 where
  pub added : new.added ≡ old.added
  pub extended : new.extended ≡ old.extended
  pub deleted : new.deleted ≡ old.deleted
  pub sides : new.sides ≡ old.sides
  pub table : new.table ≡ old.table
  pub records : new.records ≡ old.records
  pub recorded : new.recorded ≡ old.recorded
  pub ledger : LedgersAgree (ledger_of new) (introduce (modulus_in old.table) (ledger_of old) id p)

-- The same live lines, over another table of the same modulus.
pub record Carries (old new : Facts Sum Table) : Type 0 where
  pub gates : new.gates ≡ old.gates
  pub exponent : new.table.exponent ≡ old.table.exponent
  pub lines : AreSameLines (lines_of new) (lines_of old)

-- What the type of a checker keeps besides that each live polynomial vanishes: an id above the last one has neither an axiom nor a
-- polynomial, an axiom's id has no polynomial, and replaced columns agree.
pub record IsCheckerSound (added : List Clause) (left : LeftAxioms) (s : Sides) (facts : Facts Sum Table) (last : ℕ) : Type 0 where
  pub same_gates : facts.gates ≡ left.extended.gates
  pub same_modulus : modulus_in facts.table ≡ graphs.modulus left.extended
  pub fresh : (id : ℕ) → last < id → fact_at facts.entries id ≡ None
  pub no_axiom : (id : ℕ) → last < id → line_of (axioms left.extended).live id ≡ None
  pub apart : (id : ℕ) → IsLive (axioms left.extended).live id → fact_at facts.entries id ≡ None
  pub columns : Always left.extended.gates (AgreeOnColumns left.extended)
  pub importable : All (IsClauseFact left.extended.gates) added
