-- The text of a whole certificate: of any lines `written_certificate`, and of lines that are made this; and what they are in parts.
use Rattle.std.specs.Prelude.{◌≡◌, ℕ, List, [], IsSome, option_map, unwrap_or}
use Rattle.std.specs.List.{All}
use Rattle.algebra_core.specs.Text.{IsId, IsLawfulAlgebraFile}
use Rattle.graph_core.specs.Graph.Extended.{modulus}
use Rattle.poly_terms.specs.Tables.{Table, modulus_in}
use Rattle.poly_text.specs.declared.line.PacLine.{PacLine}
use Rattle.poly_text.specs.Lines.{AreOf, line_in}
use Rattle.poly_text.specs.Recorded.{lines_in}
use Rattle.poly_text.specs.WrittenLines.{IsWritable}
use Rattle.pac_writer.specs.Spare.{IsSpareLine}
use Rattle.pac_writer.specs.Writing.{Made, without_imports}
pub use Rattle.poly_text.specs.WrittenLines.{written_certificate}

-- There is one once the lines are closed.
abbrev pub certificate_text : ℕ → Made → List ℕ
certificate_text version l = unwrap_or (option_map (written_certificate version (modulus l.extended) l.lines) l.closing) []

-- A table, lines of it that can be written, and the id that closes them: they are the lines that were made, each of them spare, and their
-- text is a lawful algebra file that imports nothing.
pub record ArePartsOf (l : Made) (t : Table) (lines : List PacLine) (closing : ℕ) : Type 0 where
  pub go_on : All (λ line. IsSome (line_in t line)) lines
  pub of : All (AreOf t) lines
  pub writable : All IsWritable lines
  pub closing_is : IsId closing
  pub modulus_is : modulus_in t ≡ modulus l.extended
  pub lines_are : lines_in t lines ≡ l.lines
  pub spare : All (IsSpareLine (modulus l.extended)) l.lines
  pub lawful : (version : ℕ) → IsLawfulAlgebraFile (without_imports version l.extended) l.sides (written_certificate version (modulus_in t) (lines_in t lines) closing)
