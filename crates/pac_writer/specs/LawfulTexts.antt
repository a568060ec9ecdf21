-- What the text of lawful lines is: a lawful algebra file with these lines.
use Rattle.std.specs.Prelude.{◌≡◌, ◌⊎◌, ◌<◌, ◌^◌, ℕ, List, [], length, IsSome}
use Rattle.std.specs.List.{All}
use Rattle.graph_core.specs.Graph.Operands.{Sides}
use Rattle.algebra_core.specs.AlgebraLines.{AreLawful, Line, Premises}
use Rattle.graph_core.specs.Graph.Extended as graphs
use Rattle.algebra_core.specs.Text.{IsId, IsLawfulAlgebraFile, IsLineInRange}
use Rattle.mv_nums.specs.Residue.{IsWidth}
use Rattle.poly_terms.specs.Tables.{Table, modulus_in}
use Rattle.poly_text.specs.declared.line.PacLine.{PacLine}
use Rattle.poly_text.specs.Lines.{AreOf, line_in}
use Rattle.poly_text.specs.Recorded.{AreAllAlike, lines_in}
use Rattle.poly_text.specs.WrittenLines.{IsWritable, written_certificate}

-- Lines of the definitions, with polynomials of a table, that can be written and are in range.
pub record AreReadable (max : ℕ) (t : Table) (lines : List PacLine) : Type 0 where
  pub go_on : All (λ line. IsSome (line_in t line)) lines
  pub of : All (AreOf t) lines
  pub writable : All IsWritable lines
  pub in_range : All (IsLineInRange max) (lines_in t lines)

-- The text is a lawful algebra file: its lines are alike to these, and its closing line names this id.
pub record IsLawfulTextOf (p : Premises) (s : Sides) (lines : List Line) (closing : ℕ) (bytes : List ℕ) : Type 0 where
  pub file : IsLawfulAlgebraFile p s bytes
  pub alike : AreAllAlike (graphs.modulus p.extended) file.lines lines
  pub closing_is : file.closing ≡ closing

-- The certificate that is written of lawful lines that can be read is a lawful algebra file with these lines. It is of a version above 1, or
-- there is nothing to import.
abbrev pub WrittenCertificatesAreLawful : Type 0
WrittenCertificatesAreLawful = (p : Premises) (s : Sides) (t : Table) (lines : List PacLine) (closing : ℕ) →
    IsWidth (length p.extended.graph.outputs) → p.extended.max < 2 ^ 32 → modulus_in t ≡ graphs.modulus p.extended →
    (1 < p.version) ⊎ (p.imports ≡ []) → AreReadable p.extended.max t lines → IsId closing →
    AreLawful p s (lines_in t lines) closing →
    IsLawfulTextOf p s (lines_in t lines) closing (written_certificate p.version (modulus_in t) (lines_in t lines) closing)
