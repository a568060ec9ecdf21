-- What is known of the lines as code keeps them.
use Rattle.std.specs.Prelude.{◌≡◌, ℕ, ◌<◌, ◌^◌, List}
use Rattle.std.specs.List.{All}
use Rattle.std.specs.declared.option.Option.{Option}
use Rattle.graph_core.specs.Graph.Operands.{Sides}
use Rattle.graph_core.specs.Graph.Extended.{Extended, modulus}
use Rattle.algebra_core.specs.AlgebraLines.{Line, IsLawfulLine, after}
use Rattle.mv_nums.specs.Residue.{IsWidth}
use Rattle.poly_terms.specs.Tables.{Table}
use Rattle.poly_text.specs.declared.line.PacLine.{PacLine}
use Rattle.poly_text.specs.declared.line.PacLine.TheVariants.{Sum, Product, Combination, Import, Drop, Close}
use Rattle.poly_text.specs.Lines.{AreOf}
use Rattle.poly_text.specs.WrittenLaws.{AreUpTo}
use Rattle.poly_text.specs.WrittenLines.{IsWritable}
use Rattle.pac_writer.specs.Spare.{IsSpareLine}
use Rattle.pac_writer.specs.Writing.{Made, AreLawfulSoFar, written_ledger, made_of}

-- no closing line, and nothing is imported
abbrev pub IsPlainLine : PacLine → Type 0
IsPlainLine (Sum id i j poly) = Unit {0}
IsPlainLine (Product id i factor poly) = Unit {0}
IsPlainLine (Combination id parts poly) = Unit {0}
IsPlainLine (Import id number poly) = ⊥
IsPlainLine (Drop id) = Unit {0}
IsPlainLine (Close id) = ⊥

-- A line that can be written, and is read as the same: its polynomials are ones of the table, over variables up to a greatest one,
-- its ids are in range, and a combination has a part.
pub record IsKeptLine (max : ℕ) (t : Table) (line : PacLine) : Type 0 where
  pub goes_on : IsPlainLine line
  pub of : AreOf t line
  pub writable : IsWritable line
  pub up_to : AreUpTo max t line

-- A line that may stand after the others: it is lawful and spare, and this is the greatest id in use then.
pub record CanFollowLines (l : Made) (last : ℕ) (x : Line) : Type 0 where
  pub lawful : IsLawfulLine (modulus l.extended) (written_ledger l) x
  pub spare : IsSpareLine (modulus l.extended) x
  pub greatest : (after (modulus l.extended) (written_ledger l) x).last ≡ last
  pub room : last < 2 ^ 48

-- The lines that are kept are lawful so far, and each can be written.
pub record AreKept (e : Extended) (s : Sides) (t : Table) (lines : List PacLine) (last : ℕ) (closing : Option ℕ) : Type 0 where
  pub small : e.max < 2 ^ 31
  pub exponent : IsWidth t.exponent
  pub kept : All (IsKeptLine e.max t) lines
  pub so_far : AreLawfulSoFar (made_of e s t lines last closing)
