-- Lines of a certificate that are made one after the other, each lawful after those before it.
use Rattle.std.specs.Prelude.{◌≡◌, ℕ, ◌+◌, ◌<◌, ◌≤◌, ◌^◌, List, [], ◌∷◌, ◌++◌, length, IfSome}
use Rattle.std.specs.List.{All}
use Rattle.std.specs.declared.option.Option.{Option}
use Rattle.std.specs.declared.option.Option.TheVariants.{None, Some}
use Rattle.graph_core.specs.Graph.Operands.{Sides}
use Rattle.graph_core.specs.Graph.Extended.{Extended, modulus}
use Rattle.algebra_core.specs.AlgebraLines.{Line, Combination, Ledger, Premises, AreLawfulLines, Closes, after, after_all, axioms}
use Rattle.poly_terms.specs.Tables.{Table, Sum, IsOf, Extends, monomials_in}
use Rattle.poly_terms.specs.Tables as table
use Rattle.poly_text.specs.declared.line.PacLine.{PacLine}
use Rattle.poly_text.specs.Lines.{parts_in}
use Rattle.poly_text.specs.Recorded.{lines_in}
use Rattle.poly_text.specs.WrittenLaws.{IsUpTo}
use Rattle.pac_writer.specs.Spare.{IsSpareLine}

-- The extended graph and the operands that the lines speak of, the table of their polynomials, the lines in the words of the
-- definitions, the greatest id in use, also of lines that were deleted, and the line that closes them, once there is one.
pub record Made : Type 0 where
  pub extended : Extended
  pub sides : Sides
  pub table : Table
  pub lines : List Line
  pub last : ℕ
  pub closing : Option ℕ

abbrev pub made_of : Extended → Sides → Table → List PacLine → ℕ → Option ℕ → Made
made_of e s t lines last closing = record { extended = e; sides = s; table = t; lines = lines_in t lines; last = last; closing = closing }

-- the ledger after all lines
abbrev pub written_ledger : Made → Ledger
written_ledger l = after_all (modulus l.extended) (axioms l.extended) l.lines

-- Each line is lawful after those before it, and spare; ids are from 1 to the greatest one; and the closing line, if there is one,
-- has the specification's value.
pub record AreLawfulSoFar (l : Made) : Type 0 where
  pub same_modulus : table.modulus_in l.table ≡ modulus l.extended
  pub lawful : AreLawfulLines (modulus l.extended) (axioms l.extended) l.lines
  pub spare : All (IsSpareLine (modulus l.extended)) l.lines
  pub greatest : (written_ledger l).last ≡ l.last
  pub room : l.last < 2 ^ 48
  pub ids : All (λ line. (0 < line.id) × (line.id ≤ l.last)) (written_ledger l).live
  pub closes : IfSome l.closing (Closes l.extended l.sides (written_ledger l).live)

-- No line yet, over an extended graph and operands.
pub record IsFresh (e : Extended) (s : Sides) (l : Made) : Type 0 where
  pub extended : l.extended ≡ e
  pub sides : l.sides ≡ s
  pub same_modulus : table.modulus_in l.table ≡ modulus e
  pub lines : l.lines ≡ []
  pub last : l.last ≡ e.max + length e.graph.outputs
  pub unclosed : l.closing ≡ None

-- a polynomial of the table, over variables up to a greatest one
abbrev pub IsOver : ℕ → Table → Sum → Type 0
IsOver max t p = IsOf t p × IsUpTo max t p

-- Parts, at least one, and the polynomial that they are to add up to, of the table and over variables up to a greatest one.
pub record ArePartsOver (max : ℕ) (t : Table) (parts : List (ℕ × Sum)) (poly : Sum) : Type 0 where
  pub some : 0 < length parts
  pub factors : All (λ part. IsOver max t part.1) parts
  pub stated : IsOver max t poly

-- the combination with this id
abbrev pub combination_of : Table → ℕ → List (ℕ × Sum) → Sum → Line
combination_of t id parts poly = Combination id (parts_in t parts) (monomials_in t poly)

-- One more line, and now this is the greatest id in use.
pub record PutsLine (line : Line) (greatest : ℕ) (old new : Made) : Type 0 where
  pub extended : new.extended ≡ old.extended
  pub sides : new.sides ≡ old.sides
  pub table : new.table ≡ old.table
  pub lines : new.lines ≡ old.lines ++ line ∷ []
  pub ledger : written_ledger new ≡ after (modulus old.extended) (written_ledger old) line
  pub last : new.last ≡ greatest
  pub closing : new.closing ≡ None

-- the same lines, closed by this one
abbrev pub closed : Made → ℕ → Made
closed l id = record { extended = l.extended; sides = l.sides; table = l.table; lines = l.lines; last = l.last; closing = Some id }

-- The table alone has changed, and it has grown: the lines say what they said.
pub record GrowsWrittenTable (old new : Made) : Type 0 where
  pub extended : new.extended ≡ old.extended
  pub sides : new.sides ≡ old.sides
  pub table : Extends old.table new.table
  pub lines : new.lines ≡ old.lines
  pub last : new.last ≡ old.last
  pub closing : new.closing ≡ old.closing

-- what a certificate of a version stands on that imports nothing
abbrev pub without_imports : ℕ → Extended → Premises
without_imports version e = record { version = version; extended = e; imports = [] }
